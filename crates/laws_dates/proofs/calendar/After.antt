-- The day and the second behind a date: they are dates too, and their numbers are the next ones.
-- Assumes nothing.
use Prim.Native.Nat.{ℕ, suc, ◌+◌, ◌-◌, ◌*◌, ◌≤◌, ◌<◌}
use mathlib.Core.Path.{◌≡◌, refl}
use mathlib.Core.Bool.{Bool, true, false, cond, ◌||◌}
use native.Mathlib.Omega.{arith}
use lib.Dec.{eqb}
use Rattle.rules_server.specs.Calendar.{is_leap, year_days, month_days, days_of_months, day_number, second_of_day, second_number}
use Rattle.rules_server.specs.declared.Date.{Date}
use Rattle.rules_demands.specs.DateCalendar.{Valid, date, day_after, second_after}
use Rattle.laws_dates.proofs.calendar.Cases.{below_cases}
use Rattle.laws_dates.proofs.calendar.Years.{days_next}
use Rattle.laws_dates.proofs.calendar.Months.{months_year, months_last}

-- each month has a first day
month_first : (y m : ℕ) → 1 ≤ month_days y m
month_first y m = go (eqb m 2) (is_leap y) (eqb m 4 || eqb m 6 || eqb m 9 || eqb m 11)
  where
    go : (a b c : Bool) → 1 ≤ cond a (cond b 29 28) (cond c 30 31)
    go true true c = omega arith
    go true false c = omega arith
    go false b true = omega arith
    go false b false = omega arith

-- the time of day of a date stands on every day that there is
moved : (d : Date) (y m n : ℕ) → Valid d → 1 ≤ m → m ≤ 12 → 1 ≤ n → n ≤ month_days y m → Valid (date y m n d.hour d.minute d.second)
moved d y m n v a b c e =
    record { from_january = a; to_december = b; from_first = c; to_last = e; hours = v.hours; minutes = v.minutes; seconds = v.seconds }

-- and every time of day stands on its day
timed : (d : Date) (h i s : ℕ) → Valid d → h < 24 → i < 60 → s < 60 → Valid (date d.year d.month d.day h i s)
timed d h i s v a b c =
    record { from_january = v.from_january; to_december = v.to_december; from_first = v.from_first; to_last = v.to_last; hours = a; minutes = b; seconds = c }

-- a date on the day behind another, at the same time of day
pub record DayBehind (d e : Date) : Type 0 where
  pub valid : Valid e
  pub number : day_number e ≡ suc (day_number d)
  pub time : second_of_day e ≡ second_of_day d

-- the next day of the month
same_month : (d : Date) → Valid d → d.day < month_days d.year d.month →
    DayBehind d (date d.year d.month (suc d.day) d.hour d.minute d.second)
unfolding day_number second_of_day
same_month d v l =
    record {
      valid = moved d d.year d.month (suc d.day) v v.from_january v.to_december (omega arith) l;
      number = sum _ _ v.from_first;
      time = refl;
    }
  where
    sum : (a b : ℕ) → 1 ≤ d.day → a + (b + (suc d.day - 1)) ≡ suc (a + (b + (d.day - 1)))
    sum a b h = omega arith

-- the first day of the next month
next_month : (d : Date) → Valid d → month_days d.year d.month ≤ d.day → d.month < 12 →
    DayBehind d (date d.year (suc d.month) 1 d.hour d.minute d.second)
unfolding day_number second_of_day
next_month d v l m =
    let e : suc d.month - 1 ≡ d.month = omega arith in
    record {
      valid = moved d d.year (suc d.month) 1 v (omega arith) m (omega arith) (month_first d.year (suc d.month));
      number = rw e (omega (arith, months_last d.year d.month v.from_january));
      time = refl;
    }
  where
    sum : (a b c k : ℕ) → k ≡ b + c → c ≤ d.day → d.day ≤ c → 1 ≤ d.day → a + (k + 0) ≡ suc (a + (b + (d.day - 1)))
    sum a b c k e h l n = omega arith

-- the first day of the next year
next_year : (d : Date) → Valid d → month_days d.year d.month ≤ d.day → 12 ≤ d.month →
    DayBehind d (date (suc d.year) 1 1 d.hour d.minute d.second)
unfolding day_number second_of_day
next_year d v l m =
    let e : d.month ≡ 12 = omega arith in
    let y : days_of_months d.year d.month ≡ year_days d.year = rw e (months_year d.year) in
    record {
      valid = moved d (suc d.year) 1 1 v (omega arith) (omega arith) (omega arith) (omega arith);
      number = omega (arith, months_last d.year d.month v.from_january, y, days_next d.year);
      time = refl;
    }
  where
    sum : (a b c k z t : ℕ) → k ≡ b + c → k ≡ z → t ≡ a + z → c ≤ d.day → d.day ≤ c → 1 ≤ d.day → t + 0 ≡ suc (a + (b + (d.day - 1)))
    sum a b c k z t e f g h l n = omega arith

-- the day behind a date
pub day_behind : (d : Date) → Valid d → DayBehind d (day_after d)
unfolding day_after
day_behind d v =
    below_cases (DayBehind d) d.day (month_days d.year d.month) _ _
    (λ l. same_month d v l)
    (λ l. below_cases (DayBehind d) d.month 12 _ _ (λ m. next_month d v l m) (λ m. next_year d v l m))

-- a date at the second behind another
pub record SecondBehind (d e : Date) : Type 0 where
  pub valid : Valid e
  pub number : second_number e ≡ suc (second_number d)

-- a date at a time of day of the same day
at_time : (d : Date) (h i s : ℕ) → Valid d → h < 24 → i < 60 → s < 60 → (h * 60 + i) * 60 + s ≡ suc (second_of_day d) →
    SecondBehind d (date d.year d.month d.day h i s)
unfolding second_number
at_time d h i s v a b c e =
    record {
      valid = timed d h i s v a b c;
      number = sum _ _ _ e;
    }
  where
    sum : (a t u : ℕ) → t ≡ suc u → a * 86400 + t ≡ suc (a * 86400 + u)
    sum a t u e = omega arith

-- the first second of the next day
at_midnight : (d : Date) → Valid d → 59 ≤ d.second → 59 ≤ d.minute → 23 ≤ d.hour → SecondBehind d (day_after (date d.year d.month d.day 0 0 0))
unfolding second_number
at_midnight d v s i h =
    let f = day_behind (date d.year d.month d.day 0 0 0) (timed d 0 0 0 v (omega arith) (omega arith) (omega arith)) in
    record { valid = f.valid; number = sum _ _ _ _ f.number f.time (omega arith) }
  where
    sum : (a b t u : ℕ) → b ≡ suc a → t ≡ 0 → u ≡ 86399 → b * 86400 + t ≡ suc (a * 86400 + u)
    sum a b t u e f g = omega arith

-- the second behind a date
pub second_behind : (d : Date) → Valid d → SecondBehind d (second_after d)
unfolding second_after second_of_day
second_behind d v =
    below_cases (SecondBehind d) d.second 59 _ _
    (λ s. at_time d d.hour d.minute (suc d.second) v v.hours v.minutes (omega arith) (omega arith))
    (λ s. below_cases (SecondBehind d) d.minute 59 _ _
    (λ i. at_time d d.hour (suc d.minute) 0 v v.hours (omega arith) (omega arith) (omega arith))
    (λ i. below_cases (SecondBehind d) d.hour 23 _ _
    (λ h. at_time d (suc d.hour) 0 0 v (omega arith) (omega arith) (omega arith) (omega arith))
    (λ h. at_midnight d v s i h)))
