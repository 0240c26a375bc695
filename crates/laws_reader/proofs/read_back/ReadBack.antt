-- The server reads back the ranges that a request writes, and the request's If-Range matches.
use Prim.Native.Nat.{ℕ}
use mathlib.Core.Path.{◌≡◌, refl, sym, ◌∙◌, ap}
use mathlib.Core.Bool.{true}
use mathlib.Core.List.{List, [], ◌∷◌, ◌++◌, map, append_assoc, append-nil}
use Rattle.std.specs.Prelude.{Some}
use Rattle.rules_server.specs.Octets.{codes, is_digit, all, same, trim}
use Rattle.rules_server.specs.Texts.{get, bytes_unit, crlf}
use Rattle.rules_server.specs.Tags.{is_strong, matches_tag}
use Rattle.rules_server.specs.Status.{Resource, matches}
use Rattle.rules_server.specs.Numerals.{print}
use Rattle.rules_server.specs.declared.Run.{Run}
use Rattle.rules_tablet.specs.Requests.{range_text, more_ranges, ranges_text, request_text}
use Rattle.rules_demands.specs.GrammarRange.{Digits, SpecText, first_last, Leading, Following, spec, RangeText}
use Rattle.laws_server.proofs.grammar.Bytes.{and_both, all-append, all_weaker}
use Rattle.laws_server.proofs.grammar.Letters.{fold_any}
use Rattle.laws_server.proofs.grammar.Reading.{grammar_read}
use Rattle.laws_numerals.proofs.Laws.{print-decimal, print-digits, print-some}
use Rattle.rules_demands.specs.RequestReading.{range_in, second_line, if_range_in, request_in, span_spec, ReadBackHolds}
use Rattle.laws_reader.proofs.read_back.Plain.{plain, trim-plain, before-plain, drop-line, digit-plain, strong_plain, same_itself}

-- a printed number is of digits
printed : (n : ℕ) → Digits (print n)
printed n = record { some = print-some n; digits = print-digits n }

-- a written range derives from the grammar
written_spec : (r : Run) → SpecText (range_text r) (span_spec r)
unfolding range_text
written_spec r = first_last {s = span_spec r} (print r.first) (print r.last) (printed r.first) (printed r.last) refl
    (rw (print-decimal r.first, print-decimal r.last))

-- so do those behind the first
written_more : (rs : List Run) → Following (more_ranges rs) (map span_spec rs)
written_more [] = Following.none refl refl
written_more (r ∷ rs) = spec [] [] (range_text r) (more_ranges rs) (span_spec r) (map span_spec rs) refl refl (written_spec r) (written_more rs) refl refl

-- and the whole value
written : (r : Run) (rs : List Run) → RangeText (bytes_unit ++ ranges_text (r ∷ rs)) (map span_spec (r ∷ rs))
written r rs =
    record {
      unit = bytes_unit;
      set = ranges_text (r ∷ rs);
      is_unit = fold_any bytes_unit bytes_unit refl;
      members = record {
        lead = [];
        one = range_text r;
        rest = more_ranges rs;
        first = span_spec r;
        others = map span_spec rs;
        leading = Leading.none refl;
        spec = written_spec r;
        following = written_more rs;
        text = refl;
        specs = refl;
      };
      text = refl;
    }

-- the bytes of a printed number are above the space
print-plain : (n : ℕ) → all plain (print n) ≡ true
print-plain n = all_weaker is_digit plain digit-plain (print n) (print-digits n)

-- those of a written range
range_plain : (r : Run) → all plain (range_text r) ≡ true
unfolding range_text
range_plain r = all-append plain (print r.first) (codes "-" ++ print r.last) (print-plain r.first) (print-plain r.last)

-- of those behind the first
more_plain : (rs : List Run) → all plain (more_ranges rs) ≡ true
more_plain [] = refl
more_plain (r ∷ rs) = all-append plain (range_text r) (more_ranges rs) (range_plain r) (more_plain rs)

-- and of all
ranges-plain : (r : Run) (rs : List Run) → all plain (ranges_text (r ∷ rs)) ≡ true
ranges-plain r rs = all-append plain (range_text r) (more_ranges rs) (range_plain r) (more_plain rs)

-- the value of the first line, whatever stands behind the request
pub range_cut : (r : Run) (rs : List Run) (tag rest : List ℕ) → range_in (request_text (r ∷ rs) tag ++ rest) ≡ bytes_unit ++ ranges_text (r ∷ rs)
unfolding request_text
range_cut r rs tag rest = rw (append_assoc (ranges_text (r ∷ rs)))
    (ap (λ (l : List ℕ). bytes_unit ++ l) (before-plain (ranges_text (r ∷ rs)) _ (ranges-plain r rs)))

-- the second line and what stands behind it
second_cut : (r : Run) (rs : List Run) (tag rest : List ℕ) → second_line (request_text (r ∷ rs) tag ++ rest) ≡ codes "If-Range: " ++ (tag ++ (crlf ++ rest))
unfolding request_text
second_cut r rs tag rest = rw (append_assoc (ranges_text (r ∷ rs)), append_assoc tag, before-plain (ranges_text (r ∷ rs)) _ (ranges-plain r rs))
    (drop-line (ranges_text (r ∷ rs)) _)

-- the value of the second line
pub tag_cut : (r : Run) (rs : List Run) (tag rest : List ℕ) → is_strong tag ≡ true → if_range_in (request_text (r ∷ rs) tag ++ rest) ≡ tag
tag_cut r rs tag rest s = rw (second_cut r rs tag rest) (before-plain tag (10 ∷ rest) (strong_plain tag s))

-- the request that a server is given, whatever stands behind it
pub request_cut : (r : Run) (rs : List Run) (tag rest : List ℕ) → is_strong tag ≡ true
    → request_in (request_text (r ∷ rs) tag ++ rest) ≡ record { method = get; range = Some (bytes_unit ++ ranges_text (r ∷ rs)); if_range = Some tag }
request_cut r rs tag rest s = λ i. record { method = get; range = Some (range_cut r rs tag rest i); if_range = Some (tag_cut r rs tag rest s i) }

-- what stands behind a request does not change how it is read
pub read_behind_lem : (r : Run) (rs : List Run) (tag rest : List ℕ) → is_strong tag ≡ true
    → request_in (request_text (r ∷ rs) tag ++ rest) ≡ request_in (request_text (r ∷ rs) tag)
read_behind_lem r rs tag rest s = request_cut r rs tag rest s ∙ sym (rw append-nil at (request_cut r rs tag [] s))

-- a tag that matches decides, whatever Last-Modified is
tag_decides : (v t : List ℕ) (f : Resource) → f.tag ≡ t → matches_tag v t ≡ true → matches v f ≡ true
unfolding matches
tag_decides v t f e h = rw (e, h)

-- the ranges are read back, and the If-Range matches
pub read_back : ReadBackHolds
unfolding matches_tag
read_back r rs tag s =
    let text = request_text (r ∷ rs) tag in
    let value : range_in text ≡ bytes_unit ++ ranges_text (r ∷ rs) = rw append-nil at (range_cut r rs tag []) in
    let given : if_range_in text ≡ tag = rw append-nil at (tag_cut r rs tag [] s) in
    record {
      ranges = (grammar_read (range_in text)).complete (map span_spec (r ∷ rs))
          (rw (value, trim-plain (bytes_unit ++ ranges_text (r ∷ rs)) (ranges-plain r rs)) (written r rs));
      if_range_matches = λ f e. tag_decides (trim (if_range_in text)) tag f e
          (rw (given, trim-plain tag (strong_plain tag s)) (and_both (is_strong tag) (same tag tag) s (same_itself tag)));
    }
