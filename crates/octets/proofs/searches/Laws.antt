-- What stands before a byte, by a front that the byte is not in.
use Rattle.std.proofs.Common.{◌≡◌, ℕ, zero, suc, ◌+◌, ◌≤◌, Bool, true, false, not, eqb}
use Rattle.std.proofs.Common.{List, [], ◌∷◌, ◌++◌, append_assoc, length, take, drop, arith, refl, ap}
use mathlib.Core.Bool.{and-eq-true_iff}
use borrow.Author.Tests.{not-true}
use Rattle.std.specs.List.{prefix_len}
use Rattle.std.proofs.Math.Seq.{drop-drop, take-add}
use Rattle.rules_server.specs.Octets.{before, all}
use Rattle.octets.specs.Alike.{is_other}

-- a front that c is not in
before-front : (c m : ℕ) (l : List ℕ) → m ≤ length l → all (is_other c) (take m l) ≡ true → take m l ++ before c (drop m l) ≡ before c l
before-front c zero l u e = refl
before-front c (suc m) [] u e = absurd (omega arith)
before-front c (suc m) (b ∷ l) u e =
    let h = (and-eq-true_iff (not (eqb b c)) (all (is_other c) (take m l))).0 e in
    rw (not-true (eqb b c) h.0) (ap (λ (t : List ℕ). b ∷ t) (before-front c m l (omega arith) h.1))

-- a front that c is not in, before more such bytes
pub before_more : (c n m : ℕ) (w : List ℕ) → n ≤ length w → all (is_other c) (take n w) ≡ true
    → take m (drop n w) ++ before c (drop m (drop n w)) ≡ before c (drop n w) → take (n + m) w ++ before c (drop (n + m) w) ≡ before c w
before_more c n m w u e h = rw (take-add n m w, append_assoc, ← drop-drop m n w, h) (before-front c n w u e)

-- the bytes in front that are others
pub before_is : (c : ℕ) (l : List ℕ) → take (prefix_len (is_other c) l) l ≡ before c l
before_is c [] = refl
before_is c (x ∷ l) = go (eqb x c) refl (before_is c l)
  where
    go : (b : Bool) → eqb x c ≡ b → take (prefix_len (is_other c) l) l ≡ before c l
        → take (prefix_len (is_other c) (x ∷ l)) (x ∷ l) ≡ before c (x ∷ l)
    go true e ih = rw e
    go false e ih =
        let one : 1 + prefix_len (is_other c) l ≡ suc (prefix_len (is_other c) l) = omega arith in
        rw (e, one) (ap (λ (t : List ℕ). x ∷ t) ih)
