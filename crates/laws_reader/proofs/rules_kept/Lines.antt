-- What a line gives keeps within the reader's rule: the line so far, a Content-Range, a Content-Length, an ETag, a Content-Type with its boundary.
-- Assumes nothing.
use Prim.Native.Nat.{ℕ, ◌≤◌, ◌<◌}
use native.Mathlib.Omega.{arith}
use mathlib.Core.Path.{◌≡◌, refl}
use mathlib.Core.Bool.{Bool, true, false, not, ◌&&◌, true≢false}
use mathlib.Core.List.{List, [], ◌∷◌}
use lib.Dec.{leb, ltb, eqb}
use lib.ListN.{length, take, drop, length-append}
use borrow.Author.Tests.{ltb-true, ltb-false, leb-true, leb-false, not-true}
use Rattle.rules_server.specs.Limits.{max_tag, max_boundary}
use Rattle.rules_server.specs.Octets.{codes, is_nil, all, same_fold, starts_with, is_digit, is_boundary_byte}
use Rattle.rules_server.specs.Texts.{bytes_range}
use Rattle.rules_server.specs.Tags.{is_multipart_type, bad_boundary}
use Rattle.rules_server.specs.Numerals.{decimal}
use Rattle.rules_server.specs.Ranges.{digits, after_digits}
use Rattle.rules_tablet.specs.Limits.{max_line, max_size}
use Rattle.rules_tablet.specs.Lines.{LineStep, going, whole, broken, is_line_byte, line_step}
use Rattle.rules_tablet.specs.Fields.{is_size, parameter, boundary_of, type_field, small, span_field, length_field, stated_field, last_field, first_field, range_field}
use Rattle.rules_tablet.specs.Fields.{is_wrong, first_of, last_of}
use Rattle.rules_tablet.specs.Heads.{kept_tag}
use Rattle.rules_tablet.specs.Parsers.{kept_boundary}
use Rattle.rules_tablet.specs.Calls.{range_ok, type_ok}
use Rattle.rules_tablet.specs.declared.RangeField.{RangeField}
use Rattle.rules_tablet.specs.declared.RangeField.TheVariants.{Absent, Wrong, Span, Of}
use Rattle.rules_tablet.specs.declared.TypeField.{TypeField}
use Rattle.laws_reader.proofs.rules_kept.Tests.{by_test, and_right, falses}

-- a line that goes on is not too long
abbrev pub LineFits : LineStep → Type 0
LineFits (going l cr) = length l ≤ max_line
LineFits (whole l) = Unit {0}
LineFits broken = Unit {0}

-- a byte keeps the line within its limit
pub line-fits : (l : List ℕ) (cr : Bool) (b : ℕ) → length l ≤ max_line → LineFits (line_step l cr b)
line-fits l true b h = by_test LineFits (eqb b 10) (λ e. tt) (λ e. tt)
line-fits l false b h =
    by_test LineFits (eqb b 13) (λ e. h)
    (λ e. by_test LineFits (is_line_byte b)
    (λ e. by_test LineFits (ltb (length l) max_line) (λ i. simp length-append (omega (arith, ltb-true))) (λ i. tt))
    (λ e. tt))

-- a Content-Range's numbers are small, or it is wrong
abbrev Small : RangeField → Type 0
Small r = range_ok r ≡ true

-- without a stated length
span_small : (a b : ℕ) → Small (span_field a b)
span_small a b = by_test Small (small a && small b) (λ e. e) (λ e. refl)

-- with one
length_small : (a b n : ℕ) → Small (length_field a b n)
length_small a b n = by_test Small (small a && small b && small n) (λ e. e) (λ e. refl)

-- behind the `/`
stated_small : (a b : ℕ) (l : List ℕ) → Small (stated_field a b l)
stated_small a b [] = refl
stated_small a b (x ∷ l) =
    by_test Small (eqb x 42 && is_nil l) (λ e. span_small a b)
    (λ e. by_test Small (all is_digit (x ∷ l)) (λ i. length_small a b (decimal (x ∷ l))) (λ i. refl))

-- behind the `-`
last_small : (a : ℕ) (b rest : List ℕ) → Small (last_field a b rest)
last_small a [] rest = refl
last_small a (y ∷ b) [] = refl
last_small a (y ∷ b) (x ∷ rest) = by_test Small (eqb x 47) (λ e. stated_small a (decimal (y ∷ b)) rest) (λ e. refl)

-- behind `bytes `
first_small : (a rest : List ℕ) → Small (first_field a rest)
first_small [] rest = refl
first_small (y ∷ a) [] = refl
first_small (y ∷ a) (x ∷ rest) = by_test Small (eqb x 45) (λ e. last_small (decimal (y ∷ a)) (digits rest) (after_digits rest)) (λ e. refl)

-- of a whole value
pub range_small : (v : List ℕ) → Small (range_field v)
unfolding range_field
range_small v =
    by_test Small (starts_with bytes_range v) (λ e. first_small (digits (drop (length bytes_range) v)) (after_digits (drop (length bytes_range) v))) (λ e. refl)

-- a Content-Length that is read is not too large
pub size_fits : (v : List ℕ) → is_size v ≡ true → decimal v ≤ max_size
unfolding is_size
size_fits v e = leb-true _ _ (and_right (not (is_nil v) && all is_digit v) (leb (decimal v) max_size) e)

-- a kept ETag is not too long
pub tag-fits : (v : List ℕ) → length (kept_tag v) ≤ max_tag
tag-fits v = by_test (λ (l : List ℕ). length l ≤ max_tag) (leb (length v) max_tag) (λ e. leb-true _ _ e) (λ e. omega arith)

-- a boundary as in refusal 5 is 1 to 70 bytes
pub boundary_long : (b : List ℕ) → bad_boundary b ≡ false → (1 ≤ length b) × (length b ≤ max_boundary)
unfolding bad_boundary
boundary_long [] e = absurd (true≢false e)
boundary_long (x ∷ b) e =
    let h = falses (is_nil (x ∷ b)) (ltb max_boundary (length (x ∷ b)) ∷ not (all is_boundary_byte (x ∷ b)) ∷ []) e in
    (omega arith, omega (arith, ltb-false))

-- a kept boundary is not too long, and is one where the type is a multipart's
abbrev Bounded : List ℕ → TypeField → Type 0
Bounded b x = (length (kept_boundary x b) ≤ max_boundary) × (type_ok x (kept_boundary x b) ≡ true)

-- of a Content-Type that is read
pub type_fits : (v : List ℕ) → Bounded (boundary_of v) (type_field v)
unfolding type_field
type_fits v =
    by_test (Bounded (boundary_of v)) (is_multipart_type v)
    (λ m. by_test (Bounded (boundary_of v)) (same_fold (take 9 (parameter v)) (codes "boundary=") && not (bad_boundary (boundary_of v)))
    (λ e. good (and_right (same_fold (take 9 (parameter v)) (codes "boundary=")) (not (bad_boundary (boundary_of v))) e))
    (λ e. (omega arith, refl)))
    (λ m. (omega arith, refl))
  where
    good : not (bad_boundary (boundary_of v)) ≡ true → (length (boundary_of v) ≤ max_boundary) × (not (bad_boundary (boundary_of v)) ≡ true)
    good e = ((boundary_long (boundary_of v) (not-true _ e)).1, e)

-- a Content-Range that is not wrong, for a copy of n bytes: first at most last, last below n
pub right_span : (n : ℕ) (r : RangeField) → is_wrong n r ≡ false → (first_of r ≤ last_of r) × (last_of r < n)
right_span n Absent e = absurd (true≢false e)
right_span n Wrong e = absurd (true≢false e)
right_span n (Span a b) e = let h = falses (ltb b a) (leb n b ∷ []) e in omega (arith, ltb-false, leb-false)
right_span n (Of a b s) e = let h = falses (ltb b a) (leb s b ∷ leb n b ∷ []) e in omega (arith, ltb-false, leb-false)
