-- The statements about the calendar, proved.
-- Assumes nothing.
use Prim.Native.Nat.{ℕ, suc, ◌+◌, ◌-◌, ◌/◌, ◌%◌, ◌<◌}
use mathlib.Core.Path.{◌≡◌, refl, ap, sym, ◌∙◌}
use mathlib.Core.Logic.{◌⊎◌, inl, inr}
use mathlib.Core.Bool.{true, false, false≢true}
use mathlib.Core.List.{map}
use native.Mathlib.Omega.{arith}
use lib.IntN.{ℤ, pos, neg_ℤ, suc_ℤ, ◌+ℤ◌, ◌-ℤ◌, suc_ℤ-+ℤ, +ℤ_assoc, +ℤ_comm, +ℤ-neg_ℤ_cancel}
use Rattle.rules_server.specs.Calendar.{is_leap, month_days, is_valid, day_number, second_number, epoch, second_of, weekday, fields_of, date_of}
use Rattle.rules_server.specs.declared.Date.{Date}
use Rattle.rules_demands.specs.DateCalendar.{Divides, Leap, Earlier, twelve, common_months, leap_months, day_after, second_after, CalendarHolds}
use Rattle.laws_dates.proofs.calendar.Years.{leap_cases}
use Rattle.laws_dates.proofs.calendar.Valid.{bounds, passes}
use Rattle.laws_dates.proofs.calendar.Order.{earlier-lower}
use Rattle.laws_dates.proofs.calendar.After.{day_behind, second_behind}
use Rattle.laws_dates.proofs.calendar.Inverse.{date_of_valid, date_of_second}
use Rattle.laws_dates.proofs.calendar.Times.{good_years}

-- a leap year keeps the rule
leap_rule : (y : ℕ) → is_leap y ≡ true → Leap y
leap_rule y =
    leap_cases (λ b. b ≡ true → Leap y) y
    (λ h e. absurd (false≢true e))
    (λ h k e. ((y / 4, omega arith), inl (λ c. k (omega arith))))
    (λ h k e. absurd (false≢true e))
    (λ h e. ((y / 4, omega arith), inr (y / 400, omega arith)))

-- a year that keeps the rule is one
rule_leap : (y : ℕ) → Leap y → is_leap y ≡ true
rule_leap y =
    leap_cases (λ b. Leap y → b ≡ true) y
    (λ h l. absurd (h (omega arith)))
    (λ h k l. refl)
    (λ h k l. absurd (neither h k l.1))
    (λ h l. refl)
  where
    neither : y % 100 ≡ 0 → (y % 400 ≡ 0 → ⊥) → ((Divides 100 y → ⊥) ⊎ Divides 400 y) → ⊥
    neither h k (inl c) = c (y / 100, omega arith)
    neither h k (inr c) = k (omega arith)

-- the months of a year
common_months_lem : (y : ℕ) → is_leap y ≡ false → map (month_days y) twelve ≡ common_months
common_months_lem y e = rw e

leap_months_lem : (y : ℕ) → is_leap y ≡ true → map (month_days y) twelve ≡ leap_months
leap_months_lem y e = rw e

-- the day behind a date, its number and its place in the week
next_day : (d : Date) → is_valid d ≡ true →
    (is_valid (day_after d) ≡ true) × (day_number (day_after d) ≡ suc (day_number d)) × (weekday (day_after d) ≡ suc (weekday d) % 7)
unfolding weekday
next_day d v = let f = day_behind d (bounds d v) in (passes _ f.valid, f.number, seventh _ _ f.number)
  where
    seventh : (a b : ℕ) → b ≡ suc a → b % 7 ≡ suc (a % 7) % 7
    seventh a b p = omega arith

-- the second behind a date
next_second : (d : Date) → is_valid d ≡ true → (is_valid (second_after d) ≡ true) × (second_of (second_after d) ≡ suc_ℤ (second_of d))
unfolding second_of
next_second d v =
    let f = second_behind d (bounds d v) in
    (passes _ f.valid, ap (λ (n : ℕ). pos n -ℤ pos epoch) f.number ∙ suc_ℤ-+ℤ (pos (second_number d)) (neg_ℤ (pos epoch)))

-- what is added to a number is added to its distance from another
distance_more : (a k : ℕ) (n : ℤ) → pos (a + k) +ℤ n ≡ pos a +ℤ n +ℤ pos k
distance_more a k n = +ℤ_assoc (pos a) (pos k) n ∙ ap (λ (z : ℤ). pos a +ℤ z) (+ℤ_comm (pos k) n) ∙ sym (+ℤ_assoc (pos a) n (pos k))

-- a later date names a later second
later_second : (d e : Date) → is_valid d ≡ true → is_valid e ≡ true → Earlier (fields_of d) (fields_of e) → (k : ℕ) × (second_of e ≡ second_of d +ℤ pos (suc k))
unfolding second_of
later_second d e v w h = go _ _ (earlier-lower d e (bounds d v) h)
  where
    go : (a b : ℕ) → a < b → (k : ℕ) × (pos b -ℤ pos epoch ≡ pos a -ℤ pos epoch +ℤ pos (suc k))
    go a b h =
        let e : b ≡ a + suc (b - suc a) = omega arith in
        (b - suc a, ap (λ (n : ℕ). pos n -ℤ pos epoch) e ∙ distance_more a (suc (b - suc a)) (neg_ℤ (pos epoch)))

-- the date of a second since 1970 names it
second_dated : (t : ℕ) → (is_valid (date_of t) ≡ true) × (second_of (date_of t) ≡ pos t)
unfolding second_of
second_dated t = (date_of_valid t, ap (λ (n : ℕ). pos n -ℤ pos epoch) (date_of_second t) ∙ +ℤ-neg_ℤ_cancel (pos t) (pos epoch))

-- the calendar keeps its statements
pub calendar_holds : CalendarHolds
unfolding second_of second_number weekday day_number
calendar_holds =
    record {
      leap = λ y. (leap_rule y, rule_leap y);
      common_year = common_months_lem;
      leap_year = leap_months_lem;
      valid = λ d. (bounds d, passes d);
      days = next_day;
      seconds = next_second;
      later = later_second;
      zero1970 = refl;
      thursday = refl;
      week = refl;
      times = good_years;
      dated = second_dated;
    }
