-- The bytes of cells and of lines, end to end with what follows. Assumes nothing.
use Prim.Native.Nat.{ℕ, suc}
use mathlib.Core.Path.{◌≡◌, refl, ap}
use mathlib.Core.List.{List, [], ◌∷◌, ◌++◌, map, append_assoc}
use Rattle.rules_server.specs.Answers.{Cell, byte_of, own_then, from_then, lines_then}

-- the bytes of framing of its own are the framing
pub own_bytes_lem : (l : List ℕ) (rest : List Cell) → map byte_of (own_then l rest) ≡ l ++ map byte_of rest
own_bytes_lem [] rest = refl
own_bytes_lem (b ∷ l) rest = ap (λ (t : List ℕ). b ∷ t) (own_bytes_lem l rest)

-- the bytes from the file are the file's
pub from_bytes : (p : ℕ) (l : List ℕ) (rest : List Cell) → map byte_of (from_then p l rest) ≡ l ++ map byte_of rest
from_bytes p [] rest = refl
from_bytes p (b ∷ l) rest = ap (λ (t : List ℕ). b ∷ t) (from_bytes (suc p) l rest)

-- lines and what follows them, and then more
pub lines-append : (fs : List (List ℕ)) (a rest : List ℕ) → lines_then fs a ++ rest ≡ lines_then fs (a ++ rest)
lines-append [] a rest = refl
lines-append (f ∷ fs) a rest = simp (append_assoc, lines-append fs a rest)
