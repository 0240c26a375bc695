-- How many bytes come before a multiple of 16.
use Rattle.std.specs.Prelude.{ℕ, ◌-◌, ◌%◌, cond, ltb}

-- of n bytes from a place on, where there are many
abbrev pub lead_of : ℕ → ℕ → ℕ
lead_of at n = cond (ltb n 1024) 0 (16 - at % 16)
