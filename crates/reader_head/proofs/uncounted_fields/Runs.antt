-- The bytes before the first that may not stand in a line.
-- Assumes nothing.
use Prim.Native.Nat.{ℕ, zero, suc, ◌≤◌, min}
use native.Mathlib.Omega.{arith}
use mathlib.Core.Path.{◌≡◌, refl, ap}
use mathlib.Core.Bool.{Bool, true, false, and-eq-true_iff}
use mathlib.Core.List.{List, [], ◌∷◌, ◌++◌}
use lib.ListN.{length, take, drop}
use Rattle.rules_server.specs.Octets.{all}
use Rattle.rules_tablet.specs.Lines.{is_line_byte}
use Rattle.reader_fields.specs.Runs.{leading}
use Rattle.reader_head.specs.Lines.{line_at}

-- so many bytes at the front are the line
leading-take : (l : List ℕ) → take (leading l) l ≡ line_at l
leading-take [] = refl
leading-take (x ∷ l) = go (is_line_byte x) refl (leading-take l) where
  go : (b : Bool) → is_line_byte x ≡ b → take (leading l) l ≡ line_at l → take (leading (x ∷ l)) (x ∷ l) ≡ line_at (x ∷ l)
  go true e h = rw e (ap (λ (y : List ℕ). x ∷ y) h)
  go false e h = rw e

leading-within : (l : List ℕ) → leading l ≤ length l
leading-within [] = omega arith
leading-within (x ∷ l) = go (is_line_byte x) refl (leading-within l) where
  go : (b : Bool) → is_line_byte x ≡ b → leading l ≤ length l → leading (x ∷ l) ≤ length (x ∷ l)
  go true e h = rw e (omega arith)
  go false e h = rw e (omega arith)

-- and none is cut off
pub run-take : (l : List ℕ) (r : ℕ) → r ≡ min (length l) (leading l) → (r ≤ length l) × (take r l ≡ line_at l)
run-take l r e = let s : r ≡ leading l = omega (arith, leading-within l) in (omega (arith, leading-within l), rw s (leading-take l))

-- bytes that may stand in a line, and the line in what follows them
pub line-front : (m : ℕ) (l : List ℕ) → all is_line_byte (take m l) ≡ true → take m l ++ line_at (drop m l) ≡ line_at l
line-front zero l e = refl
line-front (suc m) [] e = refl
line-front (suc m) (x ∷ l) e =
    let f = (and-eq-true_iff (is_line_byte x) (all is_line_byte (take m l))).0 e in
    rw f.0 (ap (λ (y : List ℕ). x ∷ y) (line-front m l f.1))

-- the line, and what follows it
pub line_split : (l : List ℕ) → line_at l ++ drop (length (line_at l)) l ≡ l
line_split [] = refl
line_split (x ∷ l) = go (is_line_byte x) refl (line_split l) where
  go : (b : Bool) → is_line_byte x ≡ b → line_at l ++ drop (length (line_at l)) l ≡ l → line_at (x ∷ l) ++ drop (length (line_at (x ∷ l))) (x ∷ l) ≡ x ∷ l
  go true e h = rw e (ap (λ (y : List ℕ). x ∷ y) h)
  go false e h = rw e
