-- The fold over a piece, a byte at a time.
-- Assumes nothing.
use Prim.Native.Nat.{ℕ, suc}
use mathlib.Core.List.{List, ◌∷◌}
use mathlib.Core.Path.{◌≡◌, sym, ap}
use Rattle.reader_multipart.specs.Passing.{pass_byte, onward, pass_on}
use Rattle.reader_multipart.specs.declared.delimiters.Passed.{Passed}

-- with one byte more
abbrev pub advanced : Passed → Passed → Passed
advanced x y = record { stage = y.stage; after = y.after; taken = suc x.taken }

-- a byte whose outcome is known
pub onward_known : (x : Passed) (d : List ℕ) (b : ℕ) (l : List ℕ) (y : Passed) → y ≡ pass_byte x.stage x.after d b
    → pass_on x d (b ∷ l) ≡ onward x y (pass_on (advanced x y) d l)
onward_known x d b l y e = ap (λ (z : Passed). onward x z (pass_on (advanced x z) d l)) (sym e)
