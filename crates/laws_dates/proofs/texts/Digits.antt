-- The numbers that digits read as: two digits, four digits, and a day in two places.
-- Assumes nothing.
use Prim.Native.Nat.{ℕ, ◌+◌, ◌-◌, ◌/◌, ◌%◌, ◌≤◌, ◌<◌}
use mathlib.Core.Path.{◌≡◌, refl, ◌∙◌}
use mathlib.Core.Bool.{Bool, true, false, cond}
use mathlib.Core.List.{List, [], ◌∷◌}
use native.Mathlib.Omega.{arith}
use lib.Dec.{leb, ltb}
use lib.ListN.{take}
use borrow.Author.Tests.{le-leb, leb-true, ltb-true}
use Rattle.rules_server.specs.Octets.{digit_zero, space, is_digit}
use Rattle.rules_server.specs.Numerals.{digit, decimal}
use Rattle.rules_server.specs.Dates.{two_digits, four_digits, spaced_day}
use Rattle.laws_dates.proofs.texts.Tests.{and_right}

-- a digit reads as its number
digit_read : (n : ℕ) → n < 10 → digit (digit_zero + n) ≡ n
digit_read n h = rw (le-leb 48 (48 + n) (omega arith), le-leb (48 + n) 57 (omega arith)) (omega arith)

-- the last two digits of a number
pub two_read : (n : ℕ) → decimal (two_digits n) ≡ n % 100
two_read n = rw (digit_read (n / 10 % 10) (omega arith), digit_read (n % 10) (omega arith)) (omega arith)

-- and the last four
pub four_read : (n : ℕ) → decimal (four_digits n) ≡ n % 10000
four_read n =
    rw (digit_read (n / 100 / 10 % 10) (omega arith), digit_read (n / 100 % 10) (omega arith), digit_read (n / 10 % 10) (omega arith))
    (rw (digit_read (n % 10) (omega arith)) (omega arith))

-- a day in two places: a property of it, for any two bytes that read as the day
pub spaced_day_lem : (P : List ℕ → Type 0) (n : ℕ) → n < 100 → ((x y : ℕ) → decimal (x ∷ y ∷ []) ≡ n → P (x ∷ y ∷ [])) → P (spaced_day n)
spaced_day_lem P n h each = go (ltb n 10) refl
  where
    go : (b : Bool) → ltb n 10 ≡ b → P (cond b (space ∷ (digit_zero + n) ∷ []) (two_digits n))
    go true e = let small = ltb-true n 10 e in each space (digit_zero + n) (rw (digit_read n small) (omega arith))
    go false e = each (digit_zero + n / 10 % 10) (digit_zero + n % 10) (two_read n ∙ omega arith)

-- the value of a byte as a digit
digit-small : (b : ℕ) → digit b ≤ 9
digit-small b = go (is_digit b) refl
  where
    go : (t : Bool) → is_digit b ≡ t → cond t (b - digit_zero) 0 ≤ 9
    go true e = let h = leb-true b 57 (and_right (leb 48 b) (leb b 57) e) in omega arith
    go false e = omega arith

-- the number in two places, and in four
pub two_small : (l : List ℕ) → decimal (take 2 l) < 100
two_small [] = omega arith
two_small (a ∷ []) = omega (arith, digit-small a)
two_small (a ∷ b ∷ l) = omega (arith, digit-small a, digit-small b)

pub four-small : (l : List ℕ) → decimal (take 4 l) ≤ 9999
four-small [] = omega arith
four-small (a ∷ []) = omega (arith, digit-small a)
four-small (a ∷ b ∷ []) = omega (arith, digit-small a, digit-small b)
four-small (a ∷ b ∷ c ∷ []) = omega (arith, digit-small a, digit-small b, digit-small c)
four-small (a ∷ b ∷ c ∷ d ∷ l) = omega (arith, digit-small a, digit-small b, digit-small c, digit-small d)
