-- Laws of the digits that a text begins with, as parts of the text.
use Prim.Native.Nat.{ℕ, zero, suc, ◌+◌, ◌≤◌}
use mathlib.Core.Path.{◌≡◌, refl, ap}
use mathlib.Core.Bool.{true, false, cond, and-eq-true_iff}
use mathlib.Core.List.{List, [], ◌∷◌}
use native.Mathlib.Omega.{arith}
use borrow.Author.Tests.{eqb-true}
use lib.Dec.{eqb}
use lib.ListN.{length, take, drop}
use Rattle.rules_server.specs.Octets.{is_digit, all, digit_zero}
use Rattle.octets.specs.Alike.{is_byte}
use Rattle.rules_server.specs.Ranges.{digits, after_digits}
use Rattle.std.specs.List.{prefix_len}

-- the digits that a text begins with are its front
pub digits-take : (l : List ℕ) → take (length (digits l)) l ≡ digits l
digits-take [] = refl
digits-take (x ∷ l) =
    elim (is_digit x) as (λ b. take (length (cond b (x ∷ digits l) [])) (x ∷ l) ≡ cond b (x ∷ digits l) [])
    [ true ↦ ap {B = List ℕ} (λ r. x ∷ r) (digits-take l) | false ↦ refl ]

-- and what stands behind them is the rest
pub digits-drop : (l : List ℕ) → drop (length (digits l)) l ≡ after_digits l
digits-drop [] = refl
digits-drop (x ∷ l) =
    elim (is_digit x) as (λ b. drop (length (cond b (x ∷ digits l) [])) (x ∷ l) ≡ cond b (after_digits l) (x ∷ l))
    [ true ↦ digits-drop l | false ↦ refl ]

-- how many there are, by std's word
pub digits_is : (l : List ℕ) → prefix_len is_digit l ≡ length (digits l)
digits_is [] = refl
digits_is (x ∷ l) =
    elim (is_digit x) as (λ b. cond b (1 + prefix_len is_digit l) 0 ≡ length (cond b (x ∷ digits l) [])) [ true ↦ omega (arith, digits_is l) | false ↦ refl ]

-- digits 0 in front
pub zeros-front : (m : ℕ) (l : List ℕ) → m ≤ length l → all (is_byte digit_zero) (take m l) ≡ true → m + length (digits (drop m l)) ≡ length (digits l)
zeros-front zero l u e = omega arith
zeros-front (suc m) [] u e = absurd (omega arith)
zeros-front (suc m) (b ∷ l) u e =
    let h = (and-eq-true_iff (eqb b digit_zero) (all (is_byte digit_zero) (take m l))).0 e in
    let z = eqb-true b digit_zero h.0 in
    rw z (omega (arith, zeros-front m l (omega arith) h.1))
