-- Numerals compared by their digits, by std's word.
use Rattle.std.proofs.Common.{◌≡◌, ℕ, Bool, true, false, ltb, List, [], ◌∷◌, map, length, arith, refl}
use borrow.Author.Tests.{ltb-true, ltb-false, eq-eqb, ne_eqb}
use Rattle.std.specs.Cmp.Lexicographic.{slice_cmp}
use Rattle.std.specs.Ordering.{nat_cmp, is_lt}
use Rattle.rules_server.specs.Numerals.{digit}
use Rattle.rules_server.specs.NumeralOrder.{first_less}

pub first_less_is : (p q : List ℕ) → length p ≡ length q → is_lt (slice_cmp nat_cmp (map digit p) (map digit q)) ≡ first_less p q
first_less_is [] [] h = refl
first_less_is [] (y ∷ q) h = absurd (omega arith)
first_less_is (x ∷ p) [] h = absurd (omega arith)
first_less_is (x ∷ p) (y ∷ q) h = go (ltb (digit x) (digit y)) (ltb (digit y) (digit x)) refl refl (first_less_is p q (omega arith))
  where
    go : (s t : Bool) → ltb (digit x) (digit y) ≡ s → ltb (digit y) (digit x) ≡ t → is_lt (slice_cmp nat_cmp (map digit p) (map digit q)) ≡ first_less p q
        → is_lt (slice_cmp nat_cmp (map digit (x ∷ p)) (map digit (y ∷ q))) ≡ first_less (x ∷ p) (y ∷ q)
    go true t e f ih = rw e
    go false true e f ih = rw (e, f, ne_eqb (digit x) (digit y) (omega (arith, ltb-true (digit y) (digit x) f)))
    go false false e f ih =
        rw (e, f, eq-eqb (digit x) (digit y) (omega (arith, ltb-false (digit x) (digit y) e, ltb-false (digit y) (digit x) f))) ih
