-- Texts in any case of their letters.
use Prim.Native.Nat.{ℕ, suc, ◌+◌, ◌-◌, ◌<◌}
use mathlib.Core.Path.{◌≡◌, refl, sym, ap, ◌∙◌}
use mathlib.Core.Bool.{Bool, true, false, true≢false}
use mathlib.Core.List.{List, [], ◌∷◌}
use native.Mathlib.Omega.{arith}
use lib.Dec.{leb, eqb}
use lib.ListN.{length}
use borrow.Author.Tests.{leb-true, le-leb, lt-leb, eqb-true, eq-eqb}
use Rattle.rules_server.specs.Octets.{within, lower, same_fold}
use Rattle.laws_server.proofs.grammar.Bytes.{and_left, and_right, and_both}
use Rattle.rules_demands.specs.GrammarLetters.{Alike, capital, small, AnyCase}

-- bytes that are one small letter are alike
lower-alike : (x y : ℕ) → lower x ≡ lower y → Alike x y
lower-alike x y e = go (within 65 90 x) (within 65 90 y) refl refl
  where
    go : (a b : Bool) → within 65 90 x ≡ a → within 65 90 y ≡ b → Alike x y
    go true true s t = let f : x + 32 ≡ y + 32 = rw (s, t) at e in Alike.same (omega arith)
    go true false s t =
        let f : x + 32 ≡ y = rw (s, t) at e in
        let lo = leb-true 65 x (and_left (leb 65 x) (leb x 90) s) in
        let hi = leb-true x 90 (and_right (leb 65 x) (leb x 90) s) in
        capital (x - 65) (omega arith) (omega arith) (omega arith)
    go false true s t =
        let f : x ≡ y + 32 = rw (s, t) at e in
        let lo = leb-true 65 y (and_left (leb 65 y) (leb y 90) t) in
        let hi = leb-true y 90 (and_right (leb 65 y) (leb y 90) t) in
        small (y - 65) (omega arith) (omega arith) (omega arith)
    go false false s t = Alike.same (rw (s, t) at e)

-- a capital letter
lower_capital : (k x : ℕ) → k < 26 → x ≡ 65 + k → lower x ≡ 97 + k
lower_capital k x h e = rw (le-leb 65 x (omega arith), le-leb x 90 (omega arith)) (omega arith)

-- a small letter
lower-small : (k x : ℕ) → k < 26 → x ≡ 97 + k → lower x ≡ 97 + k
lower-small k x h e = rw (le-leb 65 x (omega arith), lt-leb x 90 (omega arith)) e

-- bytes that are alike are one small letter
pub alike-lower : (x y : ℕ) → Alike x y → lower x ≡ lower y
alike-lower x y (Alike.same e) = ap lower e
alike-lower x y (capital k h e f) = lower_capital k x h e ∙ sym (lower-small k y h f)
alike-lower x y (small k h e f) = lower-small k x h e ∙ sym (lower_capital k y h f)

-- texts that are the same but for case
pub fold_any : (t p : List ℕ) → same_fold t p ≡ true → AnyCase t p
fold_any [] [] e = tt
fold_any [] (y ∷ p) e = absurd (true≢false (sym e))
fold_any (x ∷ t) [] e = absurd (true≢false (sym e))
fold_any (x ∷ t) (y ∷ p) e = (
  lower-alike x y (eqb-true (lower x) (lower y) (and_left (eqb (lower x) (lower y)) (same_fold t p) e)),
  fold_any t p (and_right (eqb (lower x) (lower y)) (same_fold t p) e),
)

-- and back
pub any_fold : (t p : List ℕ) → AnyCase t p → same_fold t p ≡ true
any_fold [] [] a = refl
any_fold [] (y ∷ p) a = absurd a
any_fold (x ∷ t) [] a = absurd a
any_fold (x ∷ t) (y ∷ p) a =
    and_both (eqb (lower x) (lower y)) (same_fold t p) (eq-eqb (lower x) (lower y) (alike-lower x y a.0)) (any_fold t p a.1)

-- they have one length
pub any_length : (t p : List ℕ) → AnyCase t p → length t ≡ length p
any_length [] [] a = refl
any_length [] (y ∷ p) a = absurd a
any_length (x ∷ t) [] a = absurd a
any_length (x ∷ t) (y ∷ p) a = ap suc (any_length t p a.1)
