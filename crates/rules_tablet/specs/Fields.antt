-- A line taken apart: the status line, fields, Content-Length, the type of a multipart, Content-Range (document 01, "Head" and "Content-Range").
use Rattle.std.specs.Prelude.{ℕ, suc, Bool, true, false, not, cond, ◌&&◌, ◌||◌, List, [], ◌∷◌, leb, ltb, eqb, length, take, drop, get_or}
use Rattle.rules_server.specs.Limits.{max_file}
use Rattle.rules_server.specs.Octets.{codes, is_nil, all, same_fold, starts_with, trim, trim_start, before, is_digit, asterisk, colon, dash, semicolon, slash, space}
use Rattle.rules_server.specs.Texts.{bytes_range, etag_name, type_name, range_name, length_name}
use Rattle.rules_server.specs.Tags.{is_multipart_type, bad_boundary}
use Rattle.rules_server.specs.Numerals.{decimal}
use Rattle.rules_server.specs.Ranges.{digits, after_digits}
use Rattle.rules_tablet.specs.Limits.{max_size}
use Rattle.rules_tablet.specs.Lines.{is_token_byte}
use Rattle.rules_tablet.specs.declared.RangeField.{RangeField}
use Rattle.rules_tablet.specs.declared.RangeField.TheVariants.{Absent, Wrong, Span, Of}
use Rattle.rules_tablet.specs.declared.TypeField.{TypeField}
use Rattle.rules_tablet.specs.declared.TypeField.TheVariants.{Other, Multipart, Broken}

-- "a status line `HTTP/1.1`, space, three digits, then end or a space and text"
unfoldable pub is_status_line : List ℕ → Bool
is_status_line l =
    starts_with (codes "HTTP/1.1 ") l
    && leb 12 (length l)
    && all is_digit (take 3 (drop 9 l))
    && (eqb (length l) 12 || eqb (get_or l 12 0) space)

abbrev pub status_number : List ℕ → ℕ
status_number l = decimal (take 3 (drop 9 l))

-- "Field: a token name, colon, value trimmed"
abbrev pub name_of : List ℕ → List ℕ
name_of l = before colon l

abbrev pub value_of : List ℕ → List ℕ
value_of l = trim (drop (suc (length (name_of l))) l)

unfoldable pub is_field : List ℕ → Bool
is_field l = ltb (length (name_of l)) (length l) && not (is_nil (name_of l)) && all is_token_byte (name_of l)

-- the names that count, "names in any case"
pub data Name : Type 0 where
  etag type range size transfer other : Name

unfoldable pub kind_of : List ℕ → Name
kind_of name =
    cond (same_fold name etag_name) etag
    (cond (same_fold name type_name) type
    (cond (same_fold name range_name) range
    (cond (same_fold name length_name) size
    (cond (same_fold name (codes "Transfer-Encoding")) transfer
    other))))

-- "Content-Length is required: digits, value at most 2,199,023,255,552"
unfoldable pub is_size : List ℕ → Bool
is_size v = not (is_nil v) && all is_digit v && leb (decimal v) max_size

-- of a multipart's type, what stands behind the first `;` and OWS
abbrev pub parameter : List ℕ → List ℕ
parameter v = trim_start (drop (suc (length (before semicolon v))) v)

-- "then only `boundary=` (any case) and an unquoted boundary as in refusal 5"
abbrev pub boundary_of : List ℕ → List ℕ
boundary_of v = drop 9 (parameter v)

unfoldable pub type_field : List ℕ → TypeField
type_field v =
    cond (is_multipart_type v)
    (cond (same_fold (take 9 (parameter v)) (codes "boundary=") && not (bad_boundary (boundary_of v))) Multipart Broken)
    Other

-- a Content-Range's numbers: "A number over 1,099,511,627,776 .. is wrong as well"
abbrev pub small : ℕ → Bool
small k = leb k max_file

abbrev pub span_field : ℕ → ℕ → RangeField
span_field a b = cond (small a && small b) (Span a b) Wrong

abbrev pub length_field : ℕ → ℕ → ℕ → RangeField
length_field a b n = cond (small a && small b && small n) (Of a b n) Wrong

-- behind the `/`: "length or `*`"
abbrev pub stated_field : ℕ → ℕ → List ℕ → RangeField
stated_field a b [] = Wrong
stated_field a b (x ∷ l) = cond (eqb x asterisk && is_nil l) (span_field a b) (cond (all is_digit (x ∷ l)) (length_field a b (decimal (x ∷ l))) Wrong)

-- behind the `-`: the digits of last, then `/`
abbrev pub last_field : ℕ → List ℕ → List ℕ → RangeField
last_field a [] rest = Wrong
last_field a (y ∷ b) [] = Wrong
last_field a (y ∷ b) (x ∷ rest) = cond (eqb x slash) (stated_field a (decimal (y ∷ b)) rest) Wrong

-- behind `bytes `: the digits of first, then `-`
abbrev pub first_field : List ℕ → List ℕ → RangeField
first_field [] rest = Wrong
first_field (y ∷ a) [] = Wrong
first_field (y ∷ a) (x ∷ rest) = cond (eqb x dash) (last_field (decimal (y ∷ a)) (digits rest) (after_digits rest)) Wrong

-- "Content-Range: `bytes`, one space, first-last, `/`, then length or `*`"
unfoldable pub range_field : List ℕ → RangeField
range_field v =
    cond (starts_with bytes_range v)
    (first_field (digits (drop (length bytes_range) v)) (after_digits (drop (length bytes_range) v)))
    Wrong

-- "It is wrong if last < first or a stated length is at most last; a last beyond the copy is wrong too", for a copy of n bytes
abbrev pub is_wrong : ℕ → RangeField → Bool
is_wrong n Absent = true
is_wrong n Wrong = true
is_wrong n (Span a b) = ltb b a || leb n b
is_wrong n (Of a b s) = ltb b a || leb s b || leb n b

-- a stated length unlike the copy's; "its stated length counts for 13 only if the field has the right form and no number too large"
abbrev pub is_foreign : ℕ → RangeField → Bool
is_foreign n Absent = false
is_foreign n Wrong = false
is_foreign n (Span a b) = false
is_foreign n (Of a b s) = not (eqb s n)

abbrev pub first_of : RangeField → ℕ
first_of Absent = 0
first_of Wrong = 0
first_of (Span a b) = a
first_of (Of a b s) = a

abbrev pub last_of : RangeField → ℕ
last_of Absent = 0
last_of Wrong = 0
last_of (Span a b) = b
last_of (Of a b s) = b
