-- The grammar of dates in field values.
-- Assumes nothing.
use Prim.Native.Nat.{ℕ, ◌≤◌}
use mathlib.Core.Path.{◌≡◌, sym, ap, ◌∙◌}
use mathlib.Core.Logic.{inl, inr}
use mathlib.Core.Bool.{true, false}
use mathlib.Core.List.{List}
use Rattle.std.specs.Prelude.{Some}
use native.Mathlib.Omega.{arith}
use lib.IntN.{pos}
use lib.ListN.{length}
use borrow.Author.Tests.{le-ltb}
use Rattle.rules_server.specs.Limits.{max_time}
use Rattle.rules_server.specs.Tags.{is_tag}
use Rattle.rules_server.specs.Calendar.{is_valid, weekday, date_of}
use Rattle.rules_server.specs.Dates.{fixdate_text, rfc850_text, asctime_text, read_form, read_date, read_of, date_read, time_text}
use Rattle.rules_server.specs.declared.Date.{Date}
use Rattle.rules_demands.specs.GrammarDate.{DateText, fixdate, rfc850, asctime, DateGrammar}
use Rattle.laws_dates.proofs.calendar.Valid.{bounds}
use Rattle.laws_dates.proofs.calendar.Inverse.{date_of_valid}
use Rattle.laws_dates.proofs.calendar.Times.{from_1970, to_9999}
use Rattle.laws_dates.proofs.calendar.Holds.{calendar_holds}
use Rattle.laws_dates.proofs.texts.Names.{day_no_tag, long_no_tag}
use Rattle.laws_dates.proofs.texts.Fields.{weekday-small, fixdate_length}
use Rattle.laws_dates.proofs.texts.Reading.{read_text_lem, text_read}

-- a date is read by its form, for a reference time from 1970 to 9999
by_form : (t : ℕ) → t ≤ max_time → (v : List ℕ) → read_date (pos t) v ≡ read_form (date_of t) v
unfolding read_date
by_form t h v = rw (le-ltb max_time t h)

-- its year is 50 or later
old : (t : ℕ) → 50 ≤ (date_of t).year
old t = omega (arith, from_1970 t)

-- the text of a date that there is, is read as the date
text_date : (t : ℕ) → t ≤ max_time → (v : List ℕ) (d : Date) → is_valid d ≡ true → DateText (date_of t) d v → read_date (pos t) v ≡ Some d
text_date t h v d valid x = by_form t h v ∙ text_read (date_of t) (old t) d valid v x

-- a value is the text of one date at most
one_date : (t : ℕ) → t ≤ max_time → (v : List ℕ) (d e : Date) → is_valid d ≡ true → is_valid e ≡ true
    → DateText (date_of t) d v → DateText (date_of t) e v → d ≡ e
one_date t h v d e valid valid' x y =
    let p = text_date t h v d valid x in
    let q = text_date t h v e valid' y in
    cc

-- the text of a time is that of its date
time_text_lem : (t : ℕ) → t ≤ max_time → time_text (pos t) ≡ fixdate_text (date_of t)
unfolding time_text
time_text_lem t h = rw (le-ltb max_time t h)

-- and has 29 bytes
time_length : (t : ℕ) → t ≤ max_time → length (time_text (pos t)) ≡ 29
time_length t h = ap length (time_text_lem t h) ∙ fixdate_length (date_of t) (bounds (date_of t) (date_of_valid t))

-- a time that is written is read as the same second
time_read : (t n : ℕ) → t ≤ max_time → n ≤ max_time → date_read (pos n) (time_text (pos t)) ≡ Some (pos t)
unfolding date_read
time_read t n h g =
    let dated = calendar_holds.dated t in
    ap read_of (text_date n g (time_text (pos t)) (date_of t) dated.0 (fixdate (to_9999 t h) (time_text_lem t h))) ∙ ap Some dated.1

-- a date is no tag
no_tag_lem : (r d : Date) (v : List ℕ) → DateText r d v → is_tag v ≡ false
unfolding fixdate_text rfc850_text asctime_text
no_tag_lem r d v (fixdate y e) = rw e (day_no_tag (weekday d) (weekday-small d) _)
no_tag_lem r d v (rfc850 l e) = rw e (long_no_tag (weekday d) (weekday-small d) _)
no_tag_lem r d v (asctime y (inl e)) = rw e (day_no_tag (weekday d) (weekday-small d) _)
no_tag_lem r d v (asctime y (inr e)) = rw e (day_no_tag (weekday d) (weekday-small d) _)

pub date_grammar : DateGrammar
date_grammar = record {
  exactly = λ t h v d. (λ e. read_text_lem (date_of t) (old t) d v (sym (by_form t h v) ∙ e), λ x. text_date t h v d x.0 x.1);
  unique = one_date;
  present = time_length;
  written = time_read;
  no_tag = no_tag_lem;
}
