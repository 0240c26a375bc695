-- An answer within its head, and what is refused there: 11 at a byte or at a line's LF, and "Head, at its empty line: 12, 11, 13, 14, then 15 for a multipart
-- of Content-Length 0".
use Rattle.std.specs.Prelude.{ℕ, ◌<◌, ◌≡◌, Bool, true, false, List, [], ◌++◌, length}
use Rattle.std.specs.Prelude.{None, Some}
use Rattle.rules_server.specs.Octets.{line_feed}
use Rattle.rules_server.specs.Texts.{crlf}
use Rattle.rules_server.specs.Numerals.{decimal}
use Rattle.rules_server.specs.Answers.{lines_then}
use Rattle.rules_tablet.specs.Limits.{max_fields}
use Rattle.rules_tablet.specs.Fields.{is_status_line, status_number, is_field, value_of, Name, etag, type, range, size, transfer, is_size, type_field, range_field}
use Rattle.rules_tablet.specs.Fields.{is_wrong, is_foreign}
use Rattle.rules_tablet.specs.Heads.{span_of}
use Rattle.rules_tablet.specs.declared.TypeField.TheVariants.{Broken}
use Rattle.rules_demands.specs.AcceptanceGrammar.{Line, is_named, count, lookup, says_parts, Heading}
use Rattle.rules_demands.specs.RefusalLines.{so_far, ByteFault, First}

-- the bytes of an answer so far, where they end within its head and nothing of them is refused
pub data HeadFront : List ℕ → Type 0 where
  -- in the status line
  in_status : {text : List ℕ} (l : List ℕ) (cr : Bool) → Line l → text ≡ so_far l cr → HeadFront text
  -- in a line behind the status line and some whole field lines: a further field line, or the empty line
  in_fields : {text : List ℕ} (status : List ℕ) (fields : List (List ℕ)) (l : List ℕ) (cr : Bool) → Heading status fields → Line l
      → text ≡ status ++ (crlf ++ lines_then fields (so_far l cr))
      → HeadFront text

-- the names of which "each at most once" speaks
pub data Counts : Name → Type 0 where
  etag_counts : {k : Name} → k ≡ etag → Counts k
  type_counts : {k : Name} → k ≡ type → Counts k
  range_counts : {k : Name} → k ≡ range → Counts k
  size_counts : {k : Name} → k ≡ size → Counts k

-- a whole line behind these field lines: "any other fault of one line alone, a repeated field or a 65th line"
pub data LineFault (fields : List (List ℕ)) (l : List ℕ) : Type 0 where
  -- "Field: a token name, colon, value trimmed"
  no_field : is_field l ≡ false → LineFault fields l
  -- "at most 64 field lines"
  one_too_many : length fields ≡ max_fields → LineFault fields l
  -- "ETag, Content-Type, Content-Range, Content-Length count, names in any case, each at most once"
  repeated : (k : Name) → Counts k → is_named k l ≡ true → 0 < count k fields → LineFault fields l
  -- of Content-Length: "digits, value at most 2,199,023,255,552"
  no_size : is_named size l ≡ true → is_size (value_of l) ≡ false → LineFault fields l
  -- "Any Transfer-Encoding is refused"
  coded : is_named transfer l ≡ true → LineFault fields l

-- 12: "status not 200, 206 or 416"
pub record OtherStatus (s : ℕ) : Type 0 where
  pub no_200 : s ≡ 200 → ⊥
  pub no_206 : s ≡ 206 → ⊥
  pub no_416 : s ≡ 416 → ⊥

-- 11: what the status s and the field lines break together, for a copy of n bytes
pub data BrokenHead (n s : ℕ) (fields : List (List ℕ)) : Type 0 where
  -- "Content-Length is required"
  unsized : lookup size fields ≡ None → BrokenHead n s fields
  -- "200 has no Content-Range"
  ok_range : (v : List ℕ) → s ≡ 200 → lookup range fields ≡ Some v → BrokenHead n s fields
  -- a multipart "has one `;`, OWS, then only `boundary=` (any case) and an unquoted boundary as in refusal 5"
  parts_type : (v : List ℕ) → s ≡ 206 → lookup type fields ≡ Some v → type_field v ≡ Broken → BrokenHead n s fields
  -- ", and no Content-Range"
  parts_range : (v : List ℕ) → s ≡ 206 → says_parts (lookup type fields) ≡ true → lookup range fields ≡ Some v → BrokenHead n s fields
  -- "any other 206 has one Content-Range"
  no_range : s ≡ 206 → says_parts (lookup type fields) ≡ false → lookup range fields ≡ None → BrokenHead n s fields
  -- ", whose span, unless it is wrong, equals Content-Length"
  other_span : (v w : List ℕ) → s ≡ 206 → says_parts (lookup type fields) ≡ false → lookup range fields ≡ Some v → is_wrong n (range_field v) ≡ false
      → lookup size fields ≡ Some w
      → (span_of (range_field v) ≡ decimal w → ⊥) → BrokenHead n s fields

-- 13, for a copy under the tag of n bytes
pub data Unlike (tag : List ℕ) (n s : ℕ) (fields : List (List ℕ)) : Type 0 where
  -- "200 or 206 without the copy's tag"
  ok_tag : s ≡ 200 → (lookup etag fields ≡ Some tag → ⊥) → Unlike tag n s fields
  partial_tag : s ≡ 206 → (lookup etag fields ≡ Some tag → ⊥) → Unlike tag n s fields
  -- "or a 200's Content-Length .. unlike the copy's length"
  ok_size : (w : List ℕ) → s ≡ 200 → lookup size fields ≡ Some w → (decimal w ≡ n → ⊥) → Unlike tag n s fields
  -- "or a stated length"
  stated : (v : List ℕ) → s ≡ 206 → says_parts (lookup type fields) ≡ false → lookup range fields ≡ Some v → is_foreign n (range_field v) ≡ true
      → Unlike tag n s fields

-- 14: "Content-Range wrong"
pub record WrongRange (n s : ℕ) (fields : List (List ℕ)) : Type 0 where
  pub value : List ℕ
  pub partial : s ≡ 206
  pub no_parts : says_parts (lookup type fields) ≡ false
  pub found : lookup range fields ≡ Some value
  pub wrong : is_wrong n (range_field value) ≡ true

-- 15: "a multipart of Content-Length 0"
pub record EmptyParts (s : ℕ) (fields : List (List ℕ)) : Type 0 where
  pub value : List ℕ
  pub partial : s ≡ 206
  pub of_parts : says_parts (lookup type fields) ≡ true
  pub found : lookup size fields ≡ Some value
  pub empty : decimal value ≡ 0

-- "Head, at its empty line: 12, 11, 13, 14, then 15 for a multipart of Content-Length 0"
abbrev pub HeadFault : List ℕ → ℕ → ℕ → List (List ℕ) → ℕ → Type 0
HeadFault tag n s fields k =
    First 12 (OtherStatus s)
    (First 11 (BrokenHead n s fields)
    (First 13 (Unlike tag n s fields)
    (First 14 (WrongRange n s fields)
    (First 15 (EmptyParts s fields) ⊥ k) k) k) k) k

-- the byte b behind the status line so far, l; "a status line `HTTP/1.1`, space, three digits, then end or a space and text"
pub data StatusRefuses (l : List ℕ) (cr : Bool) (b k : ℕ) : Type 0 where
  at_byte : ByteFault l b cr → k ≡ 11 → StatusRefuses l cr b k
  at_line : cr ≡ true → b ≡ line_feed → is_status_line l ≡ false → k ≡ 11 → StatusRefuses l cr b k

-- the byte b behind a status line, whole field lines and the line l so far: a byte that is a fault of the line; the LF of a line with a fault; the LF of the
-- empty line
pub data FieldsRefuse (tag : List ℕ) (n : ℕ) (status : List ℕ) (fields : List (List ℕ)) (l : List ℕ) (cr : Bool) (b k : ℕ) : Type 0 where
  at_byte : ByteFault l b cr → k ≡ 11 → FieldsRefuse tag n status fields l cr b k
  at_line : cr ≡ true → b ≡ line_feed → (l ≡ [] → ⊥) → LineFault fields l → k ≡ 11 → FieldsRefuse tag n status fields l cr b k
  at_empty : cr ≡ true → b ≡ line_feed → l ≡ [] → HeadFault tag n (status_number status) fields k → FieldsRefuse tag n status fields l cr b k

-- the byte b behind a front within the head is refused by k, for a copy under the tag of n bytes
abbrev pub HeadRefuses : List ℕ → ℕ → (text : List ℕ) → HeadFront text → ℕ → ℕ → Type 0
HeadRefuses tag n text (in_status l cr bytes is) b k = StatusRefuses l cr b k
HeadRefuses tag n text (in_fields status fields l cr heading bytes is) b k = FieldsRefuse tag n status fields l cr b k
