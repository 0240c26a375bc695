-- What tests of several parts say, and the tests of equal texts and of equal times.
-- Assumes nothing.
use Prim.Native.Nat.{ℕ}
use mathlib.Core.Path.{◌≡◌, refl, ap}
use mathlib.Core.Logic.{◌⊎◌, inl, inr}
use mathlib.Core.Bool.{Bool, true, false, ◌&&◌, ◌||◌, false≢true}
use mathlib.Core.List.{List, [], ◌∷◌}
use lib.Dec.{eqb}
use lib.IntN.{ℤ, pos, negsuc}
use borrow.Author.Tests.{eqb-true, eq-eqb}
use Rattle.rules_server.specs.Octets.{same}
use Rattle.rules_server.specs.Calendar.{same_time}

-- of two tests that pass, the first passes
pub and_left : (a b : Bool) → (a && b) ≡ true → a ≡ true
and_left true b e = refl
and_left false b e = e

-- and the second
pub and_right : (a b : Bool) → (a && b) ≡ true → b ≡ true
and_right true b e = e
and_right false b e = absurd (false≢true e)

-- of two tests of which one passes, the first or the second does
pub or_cases : (a b : Bool) → (a || b) ≡ true → (a ≡ true) ⊎ (b ≡ true)
or_cases true b e = inl refl
or_cases false b e = inr e

-- texts that are the same are equal
pub same_equal : (a b : List ℕ) → same a b ≡ true → a ≡ b
same_equal [] [] e = refl
same_equal [] (y ∷ b) e = absurd (false≢true e)
same_equal (x ∷ a) [] e = absurd (false≢true e)
same_equal (x ∷ a) (y ∷ b) e =
    rw (eqb-true x y (and_left (eqb x y) (same a b) e), same_equal a b (and_right (eqb x y) (same a b) e))

-- a text is the same as itself
pub same_itself : (a : List ℕ) → same a a ≡ true
same_itself [] = refl
same_itself (x ∷ a) = rw (eq-eqb x x refl) (same_itself a)

-- times that are the same are equal
pub time_equal : (s t : ℤ) → same_time s t ≡ true → s ≡ t
time_equal (pos m) (pos n) e = ap pos (eqb-true m n e)
time_equal (pos m) (negsuc n) e = absurd (false≢true e)
time_equal (negsuc m) (pos n) e = absurd (false≢true e)
time_equal (negsuc m) (negsuc n) e = ap negsuc (eqb-true m n e)

-- a time is the same as itself
pub time_itself : (t : ℤ) → same_time t t ≡ true
time_itself (pos n) = eq-eqb n n refl
time_itself (negsuc n) = eq-eqb n n refl
