-- Where a word of a line ends.
use Rattle.std.specs.Prelude.{ℕ, ◌+◌, cond, ltb}

-- in a line of n bytes, the place behind a word that ends at e and behind the byte that ends it
abbrev pub after_word : ℕ → ℕ → ℕ
after_word n e = cond (ltb e n) (e + 1) e
