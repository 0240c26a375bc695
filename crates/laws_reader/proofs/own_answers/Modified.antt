-- The value of Last-Modified is one of a field, whatever its date: names and digits have their lengths and bytes for all numbers.
use Prim.Native.Nat.{ℕ, zero, suc, ◌+◌, ◌-◌, ◌/◌, ◌%◌, ◌<◌}
use mathlib.Core.Path.{◌≡◌, refl, ap, ◌∙◌}
use mathlib.Core.Bool.{Bool, true, false, cond, ◌&&◌}
use mathlib.Core.List.{List, [], ◌∷◌, ◌++◌}
use Rattle.std.specs.Prelude.{Option, None, Some}
use native.Mathlib.Omega.{arith}
use lib.Dec.{eqb}
use lib.IntN.{ℤ, pos, negsuc}
use lib.ListN.{length, length-append}
use borrow.Author.Tests.{eqb-true, not-true}
use Rattle.rules_server.specs.Octets.{codes, is_blank, digit_zero, all, trim_start, trim_end}
use Rattle.rules_server.specs.Calendar.{bad_time, weekday, date_of}
use Rattle.rules_server.specs.Dates.{name_at, day_name, month_name, two_digits, four_digits, clock_text, fixdate_text, time_text}
use Rattle.rules_server.specs.Status.{LastModified}
use Rattle.rules_server.specs.Answers.{modified_text}
use Rattle.rules_server.specs.declared.Date.{Date}
use Rattle.laws_server.proofs.grammar.Bytes.{and_left, and_right, all-append}
use Rattle.laws_server.proofs.grammar.Blanks.{solid}
use Rattle.rules_tablet.specs.Lines.{is_line_byte}
use Rattle.laws_reader.proofs.own_answers.Bytes.{is_text, visible_line, text_lines, text_solid, some-append, end_append}
use Rattle.laws_reader.proofs.own_answers.Names.{IsValue}

-- a name of three letters
abbrev is_name : List ℕ → Bool
is_name l = eqb (length l) 3 && all is_text l

abbrev are_names : List (List ℕ) → Bool
are_names [] = true
are_names (x ∷ xs) = is_name x && are_names xs

-- each name of a list of such names is one
name_at_lem : (last : List ℕ) (xs : List (List ℕ)) (k : ℕ) → is_name last ≡ true → are_names xs ≡ true → is_name (name_at last xs k) ≡ true
name_at_lem last [] k e f = e
name_at_lem last (x ∷ xs) zero e f = and_left (is_name x) (are_names xs) f
name_at_lem last (x ∷ xs) (suc k) e f = name_at_lem last xs k e (and_right (is_name x) (are_names xs) f)

-- so are those of the days and of the months
day_name_lem : (w : ℕ) → is_name (day_name w) ≡ true
day_name_lem w = name_at_lem (codes "Fri") (codes "Sat" ∷ codes "Sun" ∷ codes "Mon" ∷ codes "Tue" ∷ codes "Wed" ∷ codes "Thu" ∷ []) w refl refl

month_name_lem : (m : ℕ) → is_name (month_name m) ≡ true
month_name_lem m =
    name_at_lem (codes "Dec")
    (codes "Jan" ∷ codes "Feb" ∷ codes "Mar" ∷ codes "Apr" ∷ codes "May" ∷ codes "Jun" ∷ codes "Jul" ∷ codes "Aug" ∷ codes "Sep" ∷ codes "Oct"
    ∷ codes "Nov" ∷ []) (m - 1) refl refl

-- its length, and its bytes
name_length : (l : List ℕ) → is_name l ≡ true → length l ≡ 3
name_length l e = eqb-true (length l) 3 (and_left (eqb (length l) 3) (all is_text l) e)

name_text : (l : List ℕ) → is_name l ≡ true → all is_text l ≡ true
name_text l e = and_right (eqb (length l) 3) (all is_text l) e

-- digits are line bytes
digit-line : (n : ℕ) → is_line_byte (digit_zero + n % 10) ≡ true
digit-line n = visible_line (digit_zero + n % 10) (omega arith) (omega arith)

two_lines : (n : ℕ) → all is_line_byte (two_digits n) ≡ true
two_lines n = rw (digit-line (n / 10), digit-line n)

four-lines : (n : ℕ) → all is_line_byte (four_digits n) ≡ true
four-lines n = all-append is_line_byte (two_digits (n / 100)) (two_digits n) (two_lines (n / 100)) (two_lines n)

-- a text that begins with one without blanks begins with no blank
start_solid : (a l : List ℕ) → 0 < length a → all solid a ≡ true → trim_start (a ++ l) ≡ a ++ l
start_solid [] l e f = absurd (omega arith)
start_solid (x ∷ a) l e f = rw (not-true (is_blank x) (and_left (solid x) (all solid a) f))

-- a date's text: a name, its day, a name, and its year and time
module _ (d : Date) where
  -- what stands behind the name of the month, up to the last three letters
  abbrev time : List ℕ
  time = codes " " ++ (four_digits d.year ++ (codes " " ++ (clock_text d ++ codes " ")))

  -- what stands behind the name of the day, up to that of the month
  abbrev day : List ℕ
  day = codes ", " ++ (two_digits d.day ++ codes " ")

  time_lines : all is_line_byte (time ++ codes "GMT") ≡ true
  time_lines =
      all-append is_line_byte (four_digits d.year) (codes " " ++ (clock_text d ++ codes " GMT")) (four-lines d.year)
      (all-append is_line_byte (two_digits d.hour) (codes ":" ++ (two_digits d.minute ++ (codes ":" ++ (two_digits d.second ++ codes " GMT"))))
      (two_lines d.hour)
      (all-append is_line_byte (two_digits d.minute) (codes ":" ++ (two_digits d.second ++ codes " GMT")) (two_lines d.minute)
      (all-append is_line_byte (two_digits d.second) (codes " GMT") (two_lines d.second) refl)))

  -- it is a value of a field
  fixdate_value : IsValue (fixdate_text d)
  unfolding fixdate_text
  fixdate_value =
      let a = day_name (weekday d) in
      let m = month_name d.month in
      let ending = time ++ codes "GMT" in
      let i = name_length a (day_name_lem (weekday d)) in
      let j = name_length m (month_name_lem d.month) in
      let text = name_text a (day_name_lem (weekday d)) in
      let k = length-append a (day ++ (m ++ ending)) in
      let o = length-append m ending in
      record {
        bytes = all-append is_line_byte a (day ++ (m ++ ending)) (text_lines a text)
            (all-append is_line_byte (two_digits d.day) (codes " " ++ (m ++ ending)) (two_lines d.day)
            (all-append is_line_byte m ending (text_lines m (name_text m (month_name_lem d.month))) time_lines));
        short = omega arith;
        trimmed = ap trim_end (start_solid a (day ++ (m ++ ending)) (omega arith) (text_solid a text))
            ∙ (end_append a (day ++ (m ++ ending)) refl (end_append day (m ++ ending) (some-append m ending refl)
            (end_append m ending refl (end_append time (codes "GMT") refl refl))));
      }

-- so is a text without bytes
empty_value : IsValue []
empty_value = record { bytes = refl; short = omega arith; trimmed = refl }

-- a time's text, which may be empty
time_value : (t : ℤ) → IsValue (time_text t)
unfolding time_text
time_value (pos n) = go (bad_time (pos n))
  where
    go : (b : Bool) → IsValue (cond b [] (fixdate_text (date_of n)))
    go true = empty_value
    go false = fixdate_value (date_of n)
time_value (negsuc n) = empty_value

-- the value of Last-Modified
pub modified_value : (m : Option LastModified) → IsValue (modified_text m)
modified_value None = empty_value
modified_value (Some m) = time_value m.time
