-- How a text is measured: it is written behind a skip that no buffer reaches, and what is gone of the skip is its length.
use Rattle.std.specs.Prelude.{ℕ}

-- more bytes than any buffer has: what a measuring run passes over
abbrev pub enormous : ℕ
enormous = 9223372036854775808
