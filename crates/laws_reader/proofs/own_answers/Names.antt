-- Field lines that the server writes, as the reader takes them apart: name, value, and what the value says.
use Prim.Native.Nat.{ℕ, ◌-◌, ◌≤◌, ◌<◌}
use mathlib.Core.Path.{◌≡◌, refl, sym, ap, ◌∙◌}
use mathlib.Core.Bool.{true, false, not, ◌||◌, true≢false}
use mathlib.Core.List.{List, [], ◌∷◌, ◌++◌}
use native.Mathlib.Omega.{arith}
use lib.Dec.{ltb, eqb}
use lib.ListN.{length, get_or, length-append}
use borrow.Author.Tests.{le-leb, lt-ltb, ltb-false, ne_eqb, not-false}
use Rattle.rules_server.specs.Limits.{max_file, max_tag, max_type, max_boundary}
use Rattle.rules_server.specs.Octets.{codes, is_blank, is_digit, is_type_byte, is_boundary_byte, is_nil, all, trim}
use Rattle.rules_server.specs.Texts.{bytes_range, etag_name, modified_name, type_name, range_name, length_name, multipart_type, boundary_parameter}
use Rattle.rules_server.specs.Numerals.{decimal, print}
use Rattle.rules_server.specs.Tags.{is_strong, is_multipart_type, bad_type, bad_boundary}
use Rattle.rules_server.specs.Ranges.{digits, after_digits}
use Rattle.rules_server.specs.Answers.{field}
use Rattle.laws_numerals.proofs.Laws.{print-decimal, print-digits, print-some, print-length}
use Rattle.laws_server.proofs.grammar.Bytes.{and_left, and_right, all-append, all_weaker}
use Rattle.laws_server.proofs.grammar.Blanks.{end_solid}
use Rattle.laws_server.proofs.Asking.{or_false}
use Rattle.rules_tablet.specs.Limits.{max_line, max_size}
use Rattle.rules_tablet.specs.Lines.{is_line_byte}
use Rattle.rules_tablet.specs.Fields.{name_of, value_of, is_field, Name, etag, type, range, size, other, kind_of, is_size, type_field, first_field, last_field}
use Rattle.rules_tablet.specs.Fields.{stated_field, length_field, range_field}
use Rattle.rules_tablet.specs.declared.RangeField.TheVariants.{Of}
use Rattle.rules_tablet.specs.declared.TypeField.TheVariants.{Other, Multipart}
use Rattle.laws_reader.proofs.own_answers.Bytes.{is_text, digit_text, boundary_text, type_line, text_lines, text_solid, text_trim, strong_text}
use Rattle.laws_reader.proofs.own_answers.Bytes.{some-append, end_append, end_last, all-at}

-- a line that the reader takes for a field of kind k with value v
pub record IsLine (l : List ℕ) (k : Name) (v : List ℕ) : Type 0 where
  pub some : is_nil l ≡ false
  pub bytes : all is_line_byte l ≡ true
  pub short : length l ≤ max_line
  pub formed : is_field l ≡ true
  pub kind : kind_of (name_of l) ≡ k
  pub value : value_of l ≡ v

-- the longest value here: with its name it fits a line
abbrev max_value : ℕ
max_value = 400

-- a value of a field: of line bytes, not long, and without blanks at its ends
pub record IsValue (v : List ℕ) : Type 0 where
  pub bytes : all is_line_byte v ≡ true
  pub short : length v ≤ max_value
  pub trimmed : trim v ≡ v

-- a tag's line with such a value
pub etag_line : (v : List ℕ) → IsValue v → IsLine (field etag_name v) etag v
unfolding is_field kind_of
etag_line v h = record {
  some = refl;
  bytes = h.bytes;
  short = omega (arith, h.short);
  formed = rw (lt-ltb 4 (length (field etag_name v)) (omega arith));
  kind = refl;
  value = h.trimmed;
}

-- a line of Last-Modified, which counts for nothing
pub modified_line : (v : List ℕ) → IsValue v → IsLine (field modified_name v) other v
unfolding is_field kind_of
modified_line v h = record {
  some = refl;
  bytes = h.bytes;
  short = omega (arith, h.short);
  formed = rw (lt-ltb 13 (length (field modified_name v)) (omega arith));
  kind = refl;
  value = h.trimmed;
}

-- a type's line
pub type_field_lem : (v : List ℕ) → IsValue v → IsLine (field type_name v) type v
unfolding is_field kind_of
type_field_lem v h = record {
  some = refl;
  bytes = h.bytes;
  short = omega (arith, h.short);
  formed = rw (lt-ltb 12 (length (field type_name v)) (omega arith));
  kind = refl;
  value = h.trimmed;
}

-- a range's line
pub range_field_lem : (v : List ℕ) → IsValue v → IsLine (field range_name v) range v
unfolding is_field kind_of
range_field_lem v h = record {
  some = refl;
  bytes = h.bytes;
  short = omega (arith, h.short);
  formed = rw (lt-ltb 13 (length (field range_name v)) (omega arith));
  kind = refl;
  value = h.trimmed;
}

-- a size's line
pub size_field_lem : (v : List ℕ) → IsValue v → IsLine (field length_name v) size v
unfolding is_field kind_of
size_field_lem v h = record {
  some = refl;
  bytes = h.bytes;
  short = omega (arith, h.short);
  formed = rw (lt-ltb 14 (length (field length_name v)) (omega arith));
  kind = refl;
  value = h.trimmed;
}

-- text that is not long is a value
text_value : (v : List ℕ) → all is_text v ≡ true → length v ≤ max_value → IsValue v
text_value v e h = record { bytes = text_lines v e; short = h; trimmed = text_trim v e }

-- a strong tag
pub tag_value : (t : List ℕ) → is_strong t ≡ true → length t ≤ max_tag → IsValue t
tag_value t e h = text_value t (strong_text t e) (omega arith)

-- a printed number is text
pub print_text : (k : ℕ) → all is_text (print k) ≡ true
print_text k = all_weaker is_digit is_text digit_text (print k) (print-digits k)

-- numbers below this have at most 13 digits
abbrev pub printable : ℕ
printable = 10000000000000

-- which is what print writes of them
pub print_few : (k : ℕ) → k < printable → length (print k) ≤ 13
print_few k h = print-length 13 k h (omega arith)

-- a printed number
pub number_value : (k : ℕ) → k < printable → IsValue (print k)
number_value k h = text_value (print k) (print_text k) (omega (arith, print_few k h))

-- what is known of a media type that refusal 4 lets pass
pub record IsMedia (v : List ℕ) : Type 0 where
  pub short : length v ≤ max_type
  pub bytes : all is_type_byte v ≡ true
  pub first : eqb (get_or v 0 0) 32 ≡ false
  pub last : eqb (get_or v (length v - 1) 0) 32 ≡ false
  pub single : is_multipart_type v ≡ false

-- refusal 4 did not hold
pub media_allowed : (v : List ℕ) → bad_type v ≡ false → IsMedia v
unfolding bad_type
media_allowed v e =
    let a = ltb max_type (length v) in
    let b = not (all is_type_byte v) in
    let c = eqb (get_or v 0 0) 32 in
    let d = eqb (get_or v (length v - 1) 0) 32 in
    let e1 = (or_false (a || b || c || d) (is_multipart_type v) e).0 in
    let e2 = (or_false (a || b || c) d e1).0 in
    let e3 = (or_false (a || b) c e2).0 in
    record {
      short = ltb-false max_type (length v) (or_false a b e3).0;
      bytes = not-false (all is_type_byte v) (or_false a b e3).1;
      first = (or_false (a || b) c e2).1;
      last = (or_false (a || b || c) d e1).1;
      single = (or_false (a || b || c || d) (is_multipart_type v) e).1;
    }

-- a byte of a type that is no space is no blank
type_solid : (b : ℕ) → is_type_byte b ≡ true → eqb b 32 ≡ false → is_blank b ≡ false
type_solid b e f = rw (f, ne_eqb b 9 (λ z. true≢false (sym e ∙ rw z)))

-- a media type
pub media_value : (x : ℕ) (l : List ℕ) → IsMedia (x ∷ l) → IsValue (x ∷ l)
media_value x l h =
    let v = x ∷ l in
    let place : length v - 1 ≡ length l = omega arith in
    let front = type_solid x (and_left (is_type_byte x) (all is_type_byte l) h.bytes) h.first in
    let end = type_solid (get_or v (length l) 0) (all-at is_type_byte v (length l) h.bytes (omega arith)) (rw place at h.last) in
    record {
      bytes = all_weaker is_type_byte is_line_byte type_line v h.bytes;
      short = omega (arith, h.short);
      trimmed = rw front (end_last x l end);
    }

-- it is no multipart's
pub media_other : (v : List ℕ) → is_multipart_type v ≡ false → type_field v ≡ Other
unfolding type_field
media_other v e = rw e

-- what is known of a boundary that refusal 5 lets pass
pub record IsBoundary (b : List ℕ) : Type 0 where
  pub some : is_nil b ≡ false
  pub short : length b ≤ max_boundary
  pub bytes : all is_boundary_byte b ≡ true

-- refusal 5 did not hold
pub boundary_allowed : (b : List ℕ) → bad_boundary b ≡ false → IsBoundary b
unfolding bad_boundary
boundary_allowed b e =
    let a = is_nil b in
    let c = ltb max_boundary (length b) in
    let d = not (all is_boundary_byte b) in
    let f = (or_false (a || c) d e).0 in
    record {
      some = (or_false a c f).0;
      short = ltb-false max_boundary (length b) (or_false a c f).1;
      bytes = not-false (all is_boundary_byte b) (or_false (a || c) d e).1;
    }

-- the value of a multipart's type
abbrev pub multipart_value : List ℕ → List ℕ
multipart_value b = multipart_type ++ (boundary_parameter ++ b)

-- it is a value of a field
pub multipart_value_lem : (b : List ℕ) → IsBoundary b → IsValue (multipart_value b)
multipart_value_lem b h =
    let text = all_weaker is_boundary_byte is_text boundary_text b h.bytes in
    record {
      bytes = text_lines b text;
      short = omega (arith, h.short);
      trimmed = end_append (multipart_type ++ boundary_parameter) b h.some (end_solid b (text_solid b text));
    }

-- it says multipart
pub multipart_type_lem : (b : List ℕ) → bad_boundary b ≡ false → type_field (multipart_value b) ≡ Multipart
unfolding type_field is_multipart_type
multipart_type_lem b e = rw e

-- a printed size
pub size_read : (k : ℕ) → k ≤ max_size → is_size (print k) ≡ true
unfolding is_size
size_read k h = rw (print-some k, print-digits k, print-decimal k, le-leb k max_size h)

-- digits up to the first byte that is none
digits_stop : (d : List ℕ) (x : ℕ) (rest : List ℕ) → all is_digit d ≡ true → is_digit x ≡ false → digits (d ++ (x ∷ rest)) ≡ d
digits_stop [] x rest e f = rw f
digits_stop (y ∷ d) x rest e f = rw (and_left (is_digit y) (all is_digit d) e)
    (ap (λ (l : List ℕ). y ∷ l) (digits_stop d x rest (and_right (is_digit y) (all is_digit d) e) f))

-- and what stands behind them
digits-behind : (d : List ℕ) (x : ℕ) (rest : List ℕ) → all is_digit d ≡ true → is_digit x ≡ false → after_digits (d ++ (x ∷ rest)) ≡ x ∷ rest
digits-behind [] x rest e f = rw f
digits-behind (y ∷ d) x rest e f = rw (and_left (is_digit y) (all is_digit d) e) (digits-behind d x rest (and_right (is_digit y) (all is_digit d) e) f)

-- the digits of first, before `-`
first_place : (d rest : List ℕ) → is_nil d ≡ false → first_field d (45 ∷ rest) ≡ last_field (decimal d) (digits rest) (after_digits rest)
first_place [] rest e = absurd (true≢false e)
first_place (y ∷ d) rest e = refl

-- the digits of last, before `/`
last-place : (a : ℕ) (d rest : List ℕ) → is_nil d ≡ false → last_field a d (47 ∷ rest) ≡ stated_field a (decimal d) rest
last-place a [] rest e = absurd (true≢false e)
last-place a (y ∷ d) rest e = refl

-- the digits of the length
stated_place : (a b : ℕ) (d : List ℕ) → is_nil d ≡ false → all is_digit d ≡ true → stated_field a b d ≡ length_field a b (decimal d)
stated_place a b [] e f = absurd (true≢false e)
stated_place a b (y ∷ d) e f =
    rw (f, ne_eqb y 42 (λ z. true≢false (sym (and_left (is_digit y) (all is_digit d) f) ∙ rw z)))

-- the value of a Content-Range
abbrev pub range_value_of : ℕ → ℕ → ℕ → List ℕ
range_value_of a b n = bytes_range ++ (print a ++ (codes "-" ++ (print b ++ (codes "/" ++ print n))))

-- it says first, last and length
pub range_read : (a b n : ℕ) → a ≤ max_file → b ≤ max_file → n ≤ max_file → range_field (range_value_of a b n) ≡ Of a b n
unfolding range_field
range_read a b n f g h =
    rw (
      digits_stop (print a) 45 (print b ++ (47 ∷ print n)) (print-digits a) refl,
      digits-behind (print a) 45 (print b ++ (47 ∷ print n)) (print-digits a) refl,
      first_place (print a) (print b ++ (47 ∷ print n)) (print-some a),
      digits_stop (print b) 47 (print n) (print-digits b) refl,
      digits-behind (print b) 47 (print n) (print-digits b) refl,
      last-place (decimal (print a)) (print b) (print n) (print-some b),
      stated_place (decimal (print a)) (decimal (print b)) (print n) (print-some n) (print-digits n),
      print-decimal a,
      print-decimal b,
      print-decimal n,
      le-leb a max_file f,
      le-leb b max_file g,
      le-leb n max_file h,
    )

-- and is a value of a field
pub range_value : (a b n : ℕ) → a < printable → b < printable → n < printable → IsValue (range_value_of a b n)
range_value a b n f g h =
    let stated = codes "/" ++ print n in
    let ends = end_append (codes "/") (print n) (print-some n) (end_solid (print n) (text_solid (print n) (print_text n))) in
    let back = codes "-" ++ (print b ++ stated) in
    let tail = print a ++ back in
    let text = all-append is_text (print a) back (print_text a) (all-append is_text (print b) stated (print_text b) (print_text n)) in
    let i = print_few a f in
    let j = print_few b g in
    let k = print_few n h in
    let m = length-append (print a) back in
    let o = length-append (print b) stated in
    record {
      bytes = text_lines tail text;
      short = omega arith;
      trimmed = end_append bytes_range tail (some-append (print a) back refl)
          (end_append (print a) back refl (end_append (codes "-") (print b ++ stated) (some-append (print b) stated refl)
          (end_append (print b) stated refl ends)));
    }

-- the value of a 416's Content-Range
abbrev pub unsatisfied_value : ℕ → List ℕ
unsatisfied_value n = bytes_range ++ (codes "*/" ++ print n)

-- it is a value of a field
pub unsatisfied_value_lem : (n : ℕ) → n < printable → IsValue (unsatisfied_value n)
unsatisfied_value_lem n h =
    record {
      bytes = text_lines (print n) (print_text n);
      short = omega (arith, print_few n h);
      trimmed = end_append (bytes_range ++ codes "*/") (print n) (print-some n) (end_solid (print n) (text_solid (print n) (print_text n)));
    }
