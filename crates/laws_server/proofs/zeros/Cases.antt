-- Zeros before the numbers of a Range at literal values.
use Prim.Native.Nat.{ℕ, ◌≤◌}
use mathlib.Core.Path.{◌≡◌, refl, sym, ◌∙◌}
use mathlib.Core.Bool.{Bool, true, false, not, true≢false, ◌&&◌, ◌||◌}
use mathlib.Core.List.{List, [], ◌∷◌, ◌++◌}
use native.Mathlib.Omega.{arith}
use lib.Dec.{eqb}
use lib.ListN.{length, get_or}
use borrow.Author.Tests.{eq-eqb}
use Rattle.rules_server.specs.Limits.{max_range}
use Rattle.rules_server.specs.Octets.{codes, is_digit, is_nil, all, trim, digit_zero}
use Rattle.rules_server.specs.Numerals.{print}
use Rattle.rules_server.specs.Tags.{is_tag, matches_tag, bad_tag, is_multipart_type, bad_type, bad_boundary}
use Rattle.rules_server.specs.Calendar.{bad_time}
use Rattle.rules_server.specs.Ranges.{span, read_range}
use Rattle.rules_server.specs.Parts.{near, parts_of}
use Rattle.rules_server.specs.Status.{failing, rows, decide, specs}
use Rattle.rules_server.specs.Answers.{range_line, length_line, plain_answer, parts_for, answer, head_then, bytes_of}
use Rattle.rules_server.specs.Refusals.{bad_method, bad_length, bad_times, bad_delimiter, bad_room, refusal_rows, refusal, outcome, output}
use Rattle.rules_demands.specs.GrammarRange.{RangeText, first_last, Leading, Following}
use Rattle.rules_demands.specs.LeadingZeros.{zeros, NoDigits, MoreZeros, same, number, ZerosChangeNothing}
use Rattle.rules_demands.specs.LeadingZerosCases.{one_three, MoreZerosAre, forty_zeros, ten_bytes, FortyZeros, AnyZeros, LongestPadded}
use Rattle.rules_demands.specs.AnchorSamples.{dots}
use Rattle.rules_demands.specs.Demand2Cases.{asking}
use Rattle.laws_server.proofs.grammar.Bytes.{and_both}
use Rattle.laws_server.proofs.grammar.Letters.{fold_any}
use Rattle.laws_server.proofs.zeros.Texts.{Put, end, keep, put, by_bytes}
use Rattle.laws_server.proofs.zeros.Answers.{zeros_never_count}

-- whether w is v with zeros put before some of its numbers, where c says that a digit stands before v
abbrev is_put : Bool → List ℕ → List ℕ → Bool
is_put c v [] = is_nil v
is_put c [] (y ∷ m) = false
is_put c (x ∷ v) (y ∷ m) = (eqb x y && is_put (is_digit x) v m) || (not c && is_digit x && eqb y digit_zero && is_put false (x ∷ v) m)

or_left : (a b : Bool) → a ≡ true → (a || b) ≡ true
or_left a b e = rw e

or_right : (a b : Bool) → b ≡ true → (a || b) ≡ true
or_right true b e = refl
or_right false b e = e

put_is : {c : Bool} {v w : List ℕ} → Put c v w → is_put c v w ≡ true
put_is (end q r) = rw (q, r)
put_is {c} (keep x l m p q r) =
    let h = put_is p in
    let kept = and_both (eqb x x) (is_put (is_digit x) l m) (eq-eqb x x refl) h in
    rw (q, r) (or_left (eqb x x && is_put (is_digit x) l m) _ kept)
put_is (put x l m f d p q r) =
    let h = put_is p in
    rw (q, r, f) (or_right (eqb x digit_zero && is_put (is_digit x) l m) _ (rw (d, h)))

-- what is no such text
refuted : {v w : List ℕ} → is_put false v w ≡ false → MoreZeros v w → ⊥
refuted e p = true≢false (sym (put_is (by_bytes p)) ∙ e)

-- a number in digits
number_of : (t n rest padded : List ℕ) (k : ℕ) → NoDigits t → is_nil n ≡ false → all is_digit n ≡ true → is_digit (get_or rest 0 0) ≡ false → MoreZeros rest padded
    → MoreZeros (t ++ (n ++ rest)) (t ++ (zeros k ++ (n ++ padded)))
number_of t n rest padded k d e f g p = number t n rest padded k d (record { some = e; digits = f }) g p refl refl

-- `bytes=1-3` with k zeros before the first number and j before the second
two : (k j : ℕ) → MoreZeros (codes "bytes=1-3") (one_three k j)
two k j =
    number_of (codes "bytes=") (codes "1") (codes "-3") (codes "-" ++ (zeros j ++ codes "3")) k refl refl refl refl
    (number_of (codes "-") (codes "3") [] [] j refl refl refl refl (same refl refl))

pub more_zeros_are : MoreZerosAre
more_zeros_are =
    record {
      none = two 0 0;
      first = two 1 0;
      last = two 0 3;
      any = two;
      more = number_of (codes "bytes=") (codes "01") (codes "-") (codes "-") 2 refl refl refl refl (same refl refl);
      all_zero = number_of (codes "bytes=-") (codes "0") [] [] 1 refl refl refl refl (same refl refl);
      digits = number_of (codes "bytes=") (codes "18446744073709551616") (codes "-") (codes "-") 3 refl refl refl refl (same refl refl);
      list =
          number_of (codes " BYTES=") (codes "12") (codes "- ,\t-5") (codes "- ,\t-0005") 1 refl refl refl refl
          (number_of (codes "- ,\t-") (codes "5") [] [] 3 refl refl refl refl (same refl refl));
      commas =
          number_of (codes "bytes=") (codes "1") (codes "-3,5-9 ") (codes "-003,0005-00009 ") 1 refl refl refl refl
          (number_of (codes "-") (codes "3") (codes ",5-9 ") (codes ",0005-00009 ") 2 refl refl refl refl
          (number_of (codes ",") (codes "5") (codes "-9 ") (codes "-00009 ") 3 refl refl refl refl
          (number_of (codes "-") (codes "9") (codes " ") (codes " ") 4 refl refl refl refl (same refl refl))));
      blanks =
          number_of (codes "bytes=") (codes "1") (codes "-3\t, -5,7- ") (codes "-03\t, -05,07- ") 0 refl refl refl refl
          (number_of (codes "-") (codes "3") (codes "\t, -5,7- ") (codes "\t, -05,07- ") 1 refl refl refl refl
          (number_of (codes "\t, -") (codes "5") (codes ",7- ") (codes ",07- ") 1 refl refl refl refl
          (number_of (codes ",") (codes "7") (codes "- ") (codes "- ") 1 refl refl refl refl (same refl refl))));
      start =
          number_of [] (codes "1") (codes "-3") (codes "-3") 2 refl refl refl refl
          (number_of (codes "-") (codes "3") [] [] 0 refl refl refl refl (same refl refl));
      within = refuted refl;
      behind = refuted refl;
      other_digit = refuted refl;
      before_suffix = refuted refl;
      at_open_end = refuted refl;
      fewer = refuted refl;
      nothing = refuted refl;
      other_text = refuted refl;
    }

-- `bytes=1-3`
one_three_lem : RangeText (trim (codes "bytes=1-3")) (span 1 3 ∷ [])
one_three_lem =
    record {
      unit = codes "bytes=";
      set = codes "1-3";
      is_unit = fold_any (codes "bytes=") (codes "bytes=") refl;
      members =
          record {
            lead = [];
            one = codes "1-3";
            rest = [];
            first = span 1 3;
            others = [];
            leading = Leading.none refl;
            spec = first_last (codes "1") (codes "3") (record { some = refl; digits = refl }) (record { some = refl; digits = refl }) refl refl;
            following = Following.none refl refl;
            text = refl;
            specs = refl;
          };
      text = refl;
    }

-- the answer without zeros is that with them
pub forty_zeros_lem : FortyZeros
unfolding print is_tag matches_tag bad_tag is_multipart_type bad_type bad_boundary bad_time read_range near parts_of failing rows decide specs range_line
    length_line plain_answer
    parts_for answer head_then bytes_of bad_method bad_length bad_times bad_delimiter bad_room refusal_rows refusal outcome output
forty_zeros_lem =
    let fits : length (trim forty_zeros) ≤ max_range = omega arith in
    let same = zeros_never_count (codes "bytes=1-3") forty_zeros (span 1 3 ∷ []) one_three_lem (two 40 40) fits in
    let alike = same.alike (asking (codes "bytes=1-3")) ten_bytes in
    record {
      derived = one_three_lem;
      more = two 40 40;
      fits = fits;
      same = same;
      text = alike.bytes ∙ refl;
      fitting = alike.refused 94 ∙ refl;
      lacking = alike.refused 93 ∙ refl;
      written = alike.says 94 ∙ refl;
      refused = alike.says 93 ∙ refl;
      buffer = alike.writes (dots 96) ∙ refl;
    }

-- the theorem at `bytes=1-3`
padded : (k j : ℕ) → length (trim (one_three k j)) ≤ max_range → ZerosChangeNothing (codes "bytes=1-3") (one_three k j) (span 1 3 ∷ [])
padded k j h = zeros_never_count (codes "bytes=1-3") (one_three k j) (span 1 3 ∷ []) one_three_lem (two k j) h

pub any_zeros : AnyZeros
any_zeros = record {
  bytes = λ k j h q f. ((padded k j h).alike q f).bytes;
  refused = λ k j h q f. ((padded k j h).alike q f).refused;
  says = λ k j h q f. ((padded k j h).alike q f).says;
  writes = λ k j h q f. ((padded k j h).alike q f).writes;
}

pub longest-padded : LongestPadded
unfolding read_range near parts_of matches_tag failing rows decide specs
longest-padded =
    let fits : length (trim (one_three 4000 87)) ≡ max_range = refl in
    record { fits = fits; same = padded 4000 87 (omega (arith, fits)); partial = refl; too_long = refl }
