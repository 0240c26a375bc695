-- Times in seconds since 1970 by a sign and a size.
use Rattle.std.specs.Prelude.{ℕ, min, Bool, cond, ℤ, pos, ◌-ℤ◌}

-- the time of a size, which is at most the largest number of 64 bits with a sign
abbrev pub seconds_of : Bool → ℕ → ℤ
seconds_of negative size = cond negative (pos 0 -ℤ pos (min size 9223372036854775807)) (pos (min size 9223372036854775807))
