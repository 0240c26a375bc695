-- Dates in field values: a trimmed value reads as a date exactly when there is such a date and the value is its text in one of the three forms of RFC 7231,
-- section 7.1.1.1; what is read is unique, and a time that is written is read as the same second.
use Rattle.std.specs.Prelude.{ℕ, ◌+◌, ◌%◌, ◌≤◌, ◌≡◌, ◌↔◌, ◌⊎◌, true, false, List, pos, length}
use Rattle.std.specs.Prelude.{Some}
use Rattle.rules_server.specs.Limits.{max_time}
use Rattle.rules_server.specs.Tags.{is_tag}
use Rattle.rules_server.specs.Calendar.{is_valid, fields_of, date_of}
use Rattle.rules_server.specs.Dates.{two_digits, spaced_day, fixdate_text, rfc850_text, asctime_text, with_year, read_date, date_read, time_text}
use Rattle.rules_server.specs.declared.Date.{Date}
use Rattle.rules_demands.specs.DateCalendar.{Earlier}

-- "at most 50 years after a given reference time .., field by field"; equality is at most
abbrev pub AtMost50YearsAfter : Date → Date → Type 0
AtMost50YearsAfter r d = Earlier (fields_of d) (fields_of (with_year (r.year + 50) r)) ⊎ (fields_of d ≡ fields_of (with_year (r.year + 50) r))

-- the year of the date d is the latest of those with its two digits that puts the date at most 50 years after the reference time
pub record LatestYear (r d : Date) : Type 0 where
  pub near : AtMost50YearsAfter r d
  pub latest : (y : ℕ) → y % 100 ≡ d.year % 100 → AtMost50YearsAfter r (with_year y d) → y ≤ d.year

-- v is a text of the date d, for the reference time r; four digits write years up to 9999
pub data DateText (r d : Date) (v : List ℕ) : Type 0 where
  fixdate : d.year ≤ 9999 → v ≡ fixdate_text d → DateText r d v
  rfc850 : LatestYear r d → v ≡ rfc850_text d → DateText r d v
  asctime : d.year ≤ 9999 → (v ≡ asctime_text (spaced_day d.day) d) ⊎ (v ≡ asctime_text (two_digits d.day) d) → DateText r d v

pub record DateGrammar : Type 0 where
  pub exactly : (t : ℕ) → t ≤ max_time → (v : List ℕ) (d : Date) → (read_date (pos t) v ≡ Some d) ↔ ((is_valid d ≡ true) × DateText (date_of t) d v)
  pub unique : (t : ℕ) → t ≤ max_time → (v : List ℕ) (d e : Date) → is_valid d ≡ true → is_valid e ≡ true
      → DateText (date_of t) d v → DateText (date_of t) e v → d ≡ e
  -- a time that may be given has a text, of 29 bytes, and is read back for every reference time
  pub present : (t : ℕ) → t ≤ max_time → length (time_text (pos t)) ≡ 29
  pub written : (t n : ℕ) → t ≤ max_time → n ≤ max_time → date_read (pos n) (time_text (pos t)) ≡ Some (pos t)
  -- a date is no tag
  pub no_tag : (r d : Date) (v : List ℕ) → DateText r d v → is_tag v ≡ false
