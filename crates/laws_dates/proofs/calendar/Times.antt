-- The seconds from 1970 to 9999 are those of the dates of these years.
-- Assumes nothing.
use Prim.Native.Nat.{ℕ, suc, ◌+◌, ◌-◌, ◌≤◌, ◌<◌}
use mathlib.Core.Path.{◌≡◌, refl, sym}
use mathlib.Core.Logic.{◌↔◌, inl}
use mathlib.Core.Bool.{Bool, true, false, cond, false≢true}
use native.Mathlib.Omega.{arith}
use lib.Dec.{ltb}
use lib.IntN.{pos, negsuc, ◌-ℤ◌}
use borrow.Author.Tests.{ltb-true, ltb-false, le-ltb}
use Rattle.rules_server.specs.Limits.{max_time}
use Rattle.rules_server.specs.Calendar.{is_valid, epoch, second_number, second_of, bad_time, date_of}
use Rattle.rules_server.specs.declared.Date.{Date}
use Rattle.rules_demands.specs.DateCalendar.{date, first1970}
use Rattle.laws_dates.proofs.calendar.Cases.{below_or}
use Rattle.laws_dates.proofs.calendar.Valid.{bounds}
use Rattle.laws_dates.proofs.calendar.Order.{earlier-lower}
use Rattle.laws_dates.proofs.calendar.Inverse.{date_of_valid, date_of_second}

-- the last second before 1970, the last of 9999, and the one behind it
abbrev last1969 : Date
last1969 = date 1969 12 31 23 59 59

abbrev last9999 : Date
last9999 = date 9999 12 31 23 59 59

abbrev first10000 : Date
first10000 = date 10000 1 1 0 0 0

-- there are these dates, and their numbers
valids : (is_valid last1969 ≡ true) × (is_valid last9999 ≡ true)
unfolding is_valid
valids = (refl, refl)

numbers : (suc (second_number last1969) ≡ epoch) × (second_number first1970 ≡ epoch) × (second_number last9999 ≡ max_time + epoch)
    × (second_number first10000 ≡ suc (max_time + epoch))
unfolding second_number
numbers = (refl, refl, refl, refl)

-- a date whose number is among these is of these years
number_years : (d : Date) → is_valid d ≡ true → (epoch ≤ second_number d) × (second_number d ≤ max_time + epoch) → (1970 ≤ d.year) × (d.year ≤ 9999)
number_years d v n = (below_or d.year 1970 earlier (λ h. h), below_or 9999 d.year later (λ h. h))
  where
    earlier : d.year < 1970 → 1970 ≤ d.year
    earlier h = absurd (let l = earlier-lower d first1970 (bounds d v) (inl h) in omega (arith, numbers.1, l, n.0))

    later : 9999 < d.year → d.year ≤ 9999
    later h = absurd (let l = earlier-lower last9999 d (bounds last9999 valids.1) (inl h) in omega (arith, numbers.2, l, n.1))

-- and a date of these years has such a number
year_numbers : (d : Date) → is_valid d ≡ true → (1970 ≤ d.year) × (d.year ≤ 9999) → (epoch ≤ second_number d) × (second_number d ≤ max_time + epoch)
year_numbers d v y =
    let l = earlier-lower last1969 d (bounds last1969 valids.0) (inl (omega (arith, y.0))) in
    let m = earlier-lower d first10000 (bounds d v) (inl (omega (arith, y.1))) in
    (omega (arith, numbers.0, l), omega (arith, numbers.3, m))

-- a time is good exactly when its number is among these
good_number : (a : ℕ) → (bad_time (pos a -ℤ pos epoch) ≡ false) ↔ ((epoch ≤ a) × (a ≤ max_time + epoch))
unfolding bad_time
good_number a = go (ltb a epoch) refl
  where
    go : (b : Bool) → ltb a epoch ≡ b → (bad_time (cond b (negsuc (epoch - suc a)) (pos (a - epoch))) ≡ false) ↔ ((epoch ≤ a) × (a ≤ max_time + epoch))
    go true e = (λ f. absurd (false≢true (sym f)), λ n. absurd (let l = ltb-true a epoch e in omega (arith, l, n.0)))
    go false e = (
      λ f. let l = ltb-false max_time (a - epoch) f in let m = ltb-false a epoch e in (m, omega (arith, l, m)),
      λ n. le-ltb max_time (a - epoch) (omega (arith, n.0, n.1)),
    )

-- "outside 1970 to 9999", by the year
pub good_years : (d : Date) → is_valid d ≡ true → (bad_time (second_of d) ≡ false) ↔ ((1970 ≤ d.year) × (d.year ≤ 9999))
unfolding second_of
good_years d v =
    let g = good_number (second_number d) in
    (λ f. number_years d v (g.0 f), λ y. g.1 (year_numbers d v y))

-- no second since 1970 lies before 1970
pub from_1970 : (t : ℕ) → 1970 ≤ (date_of t).year
from_1970 t = below_or (date_of t).year 1970 earlier (λ h. h)
  where
    earlier : (date_of t).year < 1970 → 1970 ≤ (date_of t).year
    earlier h =
        absurd (let l = earlier-lower (date_of t) first1970 (bounds (date_of t) (date_of_valid t)) (inl h) in omega (arith, numbers.1, l, date_of_second t))

-- and none up to the last of 9999 lies behind 9999
pub to_9999 : (t : ℕ) → t ≤ max_time → (date_of t).year ≤ 9999
to_9999 t h = (number_years (date_of t) (date_of_valid t) (omega (arith, date_of_second t), omega (arith, date_of_second t, h))).1
