-- What a byte of a block is compared with.
use Rattle.std.specs.Prelude.{ℕ, Bool, not, eqb}

-- x is b
abbrev pub is_byte : ℕ → ℕ → Bool
is_byte b x = eqb x b

-- x is not b
abbrev pub is_other : ℕ → ℕ → Bool
is_other b x = not (eqb x b)
