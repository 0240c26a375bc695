-- Digits 0 in front: what stands behind them has the same significant part.
use Prim.Native.Nat.{ℕ, zero, suc, ◌+◌, ◌≤◌}
use Rattle.std.specs.List.{prefix_len}
use mathlib.Core.Path.{◌≡◌, refl, sym, ap, subst, ◌∙◌}
use mathlib.Core.Bool.{Bool, true, false, and-eq-true_iff}
use mathlib.Core.List.{List, [], ◌∷◌}
use native.Mathlib.Nat.{zero-add}
use native.Mathlib.Omega.{arith}
use borrow.Author.Tests.{eqb-true, eqb-false, lt-ltb, le-ltb}
use lib.Dec.{eqb}
use lib.ListN.{length, take, drop}
use Rattle.rules_server.specs.Octets.{all, digit_zero}
use Rattle.octets.specs.Alike.{is_byte}
use Rattle.rules_server.specs.Numerals.{digit, decimal}
use Rattle.rules_server.specs.NumeralOrder.{significant}
use Rattle.laws_numerals.proofs.Laws.{significant_value}

-- digits 0 in front
pub zeros-front : (m : ℕ) (l : List ℕ) → m ≤ length l → all (is_byte digit_zero) (take m l) ≡ true → significant (drop m l) ≡ significant l
zeros-front zero l u e = refl
zeros-front (suc m) [] u e = absurd (omega arith)
zeros-front (suc m) (b ∷ l) u e =
    let h = (and-eq-true_iff (eqb b digit_zero) (all (is_byte digit_zero) (take m l))).0 e in
    let z = eqb-true b digit_zero h.0 in
    zeros-front m l (omega arith) h.1 ∙ rw z

-- and the same value
pub zeros_value : (m : ℕ) (l : List ℕ) → m ≤ length l → all (is_byte digit_zero) (take m l) ≡ true → decimal (drop m l) ≡ decimal l
zeros_value m l u e = sym (significant_value (drop m l)) ∙ ap decimal (zeros-front m l u e) ∙ significant_value l

-- a front of nothing
none-left : (k : ℕ) → all (is_byte digit_zero) (take k []) ≡ true
none-left zero = refl
none-left (suc k) = refl

-- digits 0 from i on, behind others
pub more_zeros : (l : List ℕ) (i m : ℕ) → all (is_byte digit_zero) (take i l) ≡ true → all (is_byte digit_zero) (take m (drop i l)) ≡ true
    → all (is_byte digit_zero) (take (i + m) l) ≡ true
more_zeros l zero m f e = subst (λ (k : ℕ). all (is_byte digit_zero) (take k l) ≡ true) (sym (zero-add m)) e
more_zeros [] (suc i) m f e = none-left (suc i + m)
more_zeros (b ∷ l) (suc i) m f e =
    let h = (and-eq-true_iff (eqb b digit_zero) (all (is_byte digit_zero) (take i l))).0 f in
    let more = (and-eq-true_iff (eqb b digit_zero) (all (is_byte digit_zero) (take (i + m) l))).1 (h.0, more_zeros l i m h.1 e) in
    let size : suc (i + m) ≡ suc i + m = omega arith in
    subst (λ (k : ℕ). all (is_byte digit_zero) (take k (b ∷ l)) ≡ true) size more

-- the bytes of value 0 in front, by how many there are
pub significant_is : (l : List ℕ) → drop (prefix_len (λ b. eqb (digit b) 0) l) l ≡ significant l
significant_is [] = refl
significant_is (b ∷ l) = go (eqb (digit b) 0) refl (significant_is l)
  where
    go : (t : Bool) → eqb (digit b) 0 ≡ t → drop (prefix_len (λ b. eqb (digit b) 0) l) l ≡ significant l
        → drop (prefix_len (λ b. eqb (digit b) 0) (b ∷ l)) (b ∷ l) ≡ significant (b ∷ l)
    go true e ih =
        let one : 1 + prefix_len (λ b. eqb (digit b) 0) l ≡ suc (prefix_len (λ b. eqb (digit b) 0) l) = omega arith in
        rw (e, one, le-ltb 0 (digit b) (omega (arith, eqb-true (digit b) 0 e))) ih
    go false e ih = rw (e, lt-ltb 0 (digit b) (omega (arith, eqb-false (digit b) 0 e)))
