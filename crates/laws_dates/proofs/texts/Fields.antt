-- The fields that stand in the text of a date are those of the date, and the lengths of the texts.
-- Assumes nothing.
use Prim.Native.Nat.{ℕ, suc, ◌-◌, ◌%◌, ◌≤◌, ◌<◌}
use mathlib.Core.Path.{◌≡◌, refl, ap, ◌∙◌}
use mathlib.Core.Bool.{Bool, true, false, cond, ◌||◌}
use mathlib.Core.List.{List, [], ◌∷◌, ◌++◌}
use native.Mathlib.Omega.{arith}
use lib.Dec.{eqb}
use lib.ListN.{length, drop, length-append}
use Rattle.rules_server.specs.Numerals.{decimal}
use Rattle.rules_server.specs.Calendar.{is_leap, weekday, month_days}
use Rattle.rules_server.specs.Dates.{day_name, long_day_name, month_name, two_digits, four_digits, spaced_day, fixdate_text, rfc850_text, asctime_text}
use Rattle.rules_server.specs.Dates.{month_named, fixdate_fields, rfc850_fields, asctime_fields, with_year}
use Rattle.rules_server.specs.declared.Date.{Date}
use Rattle.rules_demands.specs.DateCalendar.{Valid, date}
use Rattle.laws_dates.proofs.texts.Digits.{two_read, four_read, spaced_day_lem}
use Rattle.laws_dates.proofs.texts.Names.{Three, day_three, long_day, month_three, month_read}

-- the two digits of a number that has no more
two : (n : ℕ) → n < 100 → decimal (two_digits n) ≡ n
two n h = two_read n ∙ omega arith

-- a day of the week is one of seven
pub weekday-small : (d : Date) → weekday d < 7
unfolding weekday
weekday-small d = omega arith

-- a month has at most 31 days
month_short : (y m : ℕ) → month_days y m ≤ 31
month_short y m = choice (eqb m 2) _ _ (choice (is_leap y) 29 28 (omega arith) (omega arith)) (choice (is_short m) 30 31 (omega arith) (omega arith))
  where
    is_short : ℕ → Bool
    is_short m = eqb m 4 || eqb m 6 || eqb m 9 || eqb m 11

    choice : (b : Bool) (x y : ℕ) → x ≤ 31 → y ≤ 31 → cond b x y ≤ 31
    choice true x y h g = h
    choice false x y h g = g

-- what stands behind two bytes behind a text
behind : (a : List ℕ) (x y : ℕ) (r : List ℕ) → drop (suc (suc (length a))) (a ++ (x ∷ y ∷ r)) ≡ r
behind [] x y r = refl
behind (b ∷ a) x y r = behind a x y r

-- the last 22 bytes
last_22 : (a : List ℕ) (x y : ℕ) (r : List ℕ) → length r ≡ 22 → drop (length (a ++ (x ∷ y ∷ r)) - 22) (a ++ (x ∷ y ∷ r)) ≡ r
last_22 a x y r h = rw count (behind a x y r)
  where
    count : length (a ++ (x ∷ y ∷ r)) - 22 ≡ suc (suc (length a))
    count = rw (length-append a (x ∷ y ∷ r)) (omega arith)

-- the asctime-date with these bytes for its day holds the date's fields, and has 24 bytes
pub record InAsctime (d : Date) (day : List ℕ) : Type 0 where
  pub fields : asctime_fields (asctime_text day d) ≡ d
  pub length : length (asctime_text day d) ≡ 24

module _ (d : Date) (valid : Valid d) where
  -- the bytes of its day's name and of its month's
  name : Three (day_name (weekday d))
  name = day_three (weekday d) (weekday-small d)

  month : Three (month_name d.month)
  month = month_three d.month (omega arith)

  -- they read as the month
  month_there : month_named 12 (month.first ∷ month.second ∷ month.third ∷ []) ≡ d.month
  month_there = rw month.bytes at (month_read d.month valid.from_january valid.to_december)

  -- its day has two digits at most
  day_short : d.day < 100
  day_short = omega (arith, month_short d.year d.month)

  -- the fields that are read from their texts, with a year y
  read_fields : (y n : ℕ) → n ≡ d.day
      → date y (month_named 12 (month.first ∷ month.second ∷ month.third ∷ [])) n (decimal (two_digits d.hour)) (decimal (two_digits d.minute))
      (decimal (two_digits d.second)) ≡ with_year y d
  read_fields y n e = λ k. record {
    year = y;
    month = month_there k;
    day = e k;
    hour = two d.hour (omega arith) k;
    minute = two d.minute (omega arith) k;
    second = two d.second (omega arith) k;
  }

  -- and with the year in four digits
  read_date_lem : d.year ≤ 9999 → (n : ℕ) → n ≡ d.day
      → date (decimal (four_digits d.year)) (month_named 12 (month.first ∷ month.second ∷ month.third ∷ [])) n (decimal (two_digits d.hour))
      (decimal (two_digits d.minute)) (decimal (two_digits d.second)) ≡ d
  read_date_lem h n e = read_fields _ n e ∙ ap (λ (y : ℕ). with_year y d) (four_read d.year ∙ omega arith)

  -- an IMF-fixdate holds the date's fields, and has 29 bytes
  pub fixdate_fields_lem : d.year ≤ 9999 → fixdate_fields (fixdate_text d) ≡ d
  unfolding fixdate_text
  fixdate_fields_lem h = rw (name.bytes, month.bytes) (read_date_lem h _ (two d.day day_short))

  pub fixdate_length : length (fixdate_text d) ≡ 29
  unfolding fixdate_text
  fixdate_length = rw (name.bytes, month.bytes)

  -- an asctime-date holds the date's fields, and has 24 bytes, for any two bytes that read as its day
  in_asctime : d.year ≤ 9999 → (x y : ℕ) → decimal (x ∷ y ∷ []) ≡ d.day → InAsctime d (x ∷ y ∷ [])
  unfolding asctime_text
  in_asctime h x y e = record {
    fields = rw (name.bytes, month.bytes) (read_date_lem h _ e);
    length = rw (name.bytes, month.bytes);
  }

  pub asctime_spaced : d.year ≤ 9999 → InAsctime d (spaced_day d.day)
  asctime_spaced h = spaced_day_lem (InAsctime d) d.day day_short (in_asctime h)

  pub asctime_digits : d.year ≤ 9999 → InAsctime d (two_digits d.day)
  asctime_digits h = in_asctime h _ _ (two d.day day_short)

  -- the last 22 bytes of an rfc850-date hold the date's fields, and of its year the last two digits
  pub rfc850_fields_lem : rfc850_fields (drop (length (rfc850_text d) - 22) (rfc850_text d)) ≡ with_year (d.year % 100) d
  unfolding rfc850_text
  rfc850_fields_lem =
      rw month.bytes
      (ap rfc850_fields (last_22 (long_day_name (weekday d)) 44 32 _ refl) ∙ read_fields _ _ (two d.day day_short)
      ∙ ap (λ (y : ℕ). with_year y d) (two_read d.year))

  -- it has at least 30 bytes
  pub rfc850_length : 30 ≤ length (rfc850_text d)
  unfolding rfc850_text
  rfc850_length = rw (month.bytes, length-append) (omega (arith, long_day (weekday d) (weekday-small d)))
