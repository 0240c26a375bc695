-- The grammar of an answer that a reader accepts, as document 01 writes it ("The tablet's copy and reader"), apart from the parser that reads it byte by byte.
-- Each rule is a type of derivations over the bytes that it covers; `text` says how the covered bytes are put together.
use Rattle.std.specs.Prelude.{ℕ, zero, suc, ◌≤◌, ◌<◌, ◌≡◌, Bool, true, false, cond, List, [], ◌∷◌, ◌++◌, map, eqb, length}
use Rattle.std.specs.Prelude.{Option, None, Some}
use Rattle.rules_server.specs.Octets.{all}
use Rattle.rules_server.specs.Texts.{crlf, dashes}
use Rattle.rules_server.specs.Tags.{is_multipart_type}
use Rattle.rules_server.specs.Numerals.{decimal}
use Rattle.rules_server.specs.Answers.{Cell, byte_of, lines_then, own_then, from_then, dash_boundary}
use Rattle.rules_tablet.specs.Limits.{max_line, max_fields, max_part_lines, max_preamble}
use Rattle.rules_tablet.specs.Lines.{is_line_byte}
use Rattle.rules_tablet.specs.Fields.{is_status_line, status_number, is_field, name_of, value_of, Name, etag, type, range, size, transfer, other, kind_of, is_size}
use Rattle.rules_tablet.specs.Fields.{type_field, boundary_of, range_field, is_wrong, is_foreign, first_of}
use Rattle.rules_tablet.specs.Heads.{span_of}
use Rattle.rules_tablet.specs.declared.TypeField.TheVariants.{Multipart}

-- "every line has up to 512 bytes before CR LF, each tab, 0x20 to 0x7E or 0x80 up"
pub record Line (l : List ℕ) : Type 0 where
  pub bytes : all is_line_byte l ≡ true
  pub short : length l ≤ max_line

-- "Field: a token name, colon, value trimmed"
pub record FieldLine (l : List ℕ) : Type 0 where
  pub line : Line l
  pub formed : is_field l ≡ true

-- field lines, one after the other
abbrev pub FieldLines : List (List ℕ) → Type 0
FieldLines [] = Unit {0}
FieldLines (l ∷ ls) = FieldLine l × FieldLines ls

-- the names that count, each by a number
abbrev pub number_of : Name → ℕ
number_of etag = 0
number_of type = 1
number_of range = 2
number_of size = 3
number_of transfer = 4
number_of other = 5

-- whether a field line has this name
abbrev pub is_named : Name → List ℕ → Bool
is_named k l = eqb (number_of k) (number_of (kind_of (name_of l)))

-- how many field lines have this name
abbrev pub count : Name → List (List ℕ) → ℕ
count k [] = 0
count k (l ∷ ls) = cond (is_named k l) (suc (count k ls)) (count k ls)

-- the value of the first field line of this name
abbrev pub lookup : Name → List (List ℕ) → Option (List ℕ)
lookup k [] = None
lookup k (l ∷ ls) = cond (is_named k l) (Some (value_of l)) (lookup k ls)

-- the type "before any `;` is, trimmed, `multipart/byteranges`"
abbrev pub says_parts : Option (List ℕ) → Bool
says_parts None = false
says_parts (Some v) = is_multipart_type v

-- what an accepted head announces: data from a position on, a body that is skipped, or parts under a boundary
pub data Kind : Type 0 where
  data_from : ℕ → Kind
  no_data : Kind
  parts_under : List ℕ → Kind

-- a head of the status s with these field lines and Content-Length z, for a copy under the tag of n bytes
pub data Accepted (tag : List ℕ) (n s : ℕ) (fields : List (List ℕ)) (z : ℕ) : Kind → Type 0 where
  -- "200 has no Content-Range"; under the copy's tag, and its Content-Length is the copy's length
  ok : {k : Kind} → s ≡ 200 → lookup range fields ≡ None → lookup etag fields ≡ Some tag → z ≡ n → k ≡ data_from 0 → Accepted tag n s fields z k
  -- "any other 206 has one Content-Range, whose span .. equals Content-Length"; it is not wrong, and a stated length is the copy's
  part : {k : Kind} (v : List ℕ) → s ≡ 206 → says_parts (lookup type fields) ≡ false → lookup range fields ≡ Some v → is_wrong n (range_field v) ≡ false
      → is_foreign n (range_field v) ≡ false
      → span_of (range_field v) ≡ z → lookup etag fields ≡ Some tag → k ≡ data_from (first_of (range_field v)) → Accepted tag n s fields z k
  -- a multipart "has one `;`, OWS, then only `boundary=` (any case) and an unquoted boundary as in refusal 5, and no Content-Range"; its Content-Length is not
  -- 0
  many : {k : Kind} (v : List ℕ) → s ≡ 206 → lookup type fields ≡ Some v → type_field v ≡ Multipart → lookup range fields ≡ None → lookup etag fields ≡ Some tag
      → 0 < z
      → k ≡ parts_under (boundary_of v) → Accepted tag n s fields z k
  -- "416 needs no tag, its Content-Range is not read, its body is skipped"
  unsatisfied : {k : Kind} → s ≡ 416 → k ≡ no_data → Accepted tag n s fields z k

-- "a status line ..; at most 64 field lines"; "ETag, Content-Type, Content-Range, Content-Length count, .. each at most once. Content-Length .. digits, value
-- at most 2,199,023,255,552. Any Transfer-Encoding is refused"
pub record Heading (status : List ℕ) (fields : List (List ℕ)) : Type 0 where
  pub status_bytes : Line status
  pub status_formed : is_status_line status ≡ true
  pub lines : FieldLines fields
  pub few : length fields ≤ max_fields
  pub one_etag : count etag fields ≤ 1
  pub one_type : count type fields ≤ 1
  pub one_range : count range fields ≤ 1
  pub one_size : count size fields ≤ 1
  pub no_transfer : count transfer fields ≡ 0
  pub sizes : (v : List ℕ) → lookup size fields ≡ Some v → is_size v ≡ true

-- a status line, field lines and an empty line; "Content-Length is required"
pub record HeadText (tag : List ℕ) (n : ℕ) (t : List ℕ) (k : Kind) (z : ℕ) : Type 0 where
  pub status : List ℕ
  pub fields : List (List ℕ)
  pub length_value : List ℕ
  pub heading : Heading status fields
  pub has_size_line : lookup size fields ≡ Some length_value
  pub size_is : z ≡ decimal length_value
  pub accepted : Accepted tag n (status_number status) fields z k
  pub text : t ≡ status ++ (crlf ++ lines_then fields crlf)

-- of a part: "1 to 16 lines as in the head with exactly one Content-Range (no other name counts here)", which is not wrong and states no other length
pub record PartLines (n : ℕ) (fields : List (List ℕ)) (v : List ℕ) : Type 0 where
  pub lines : FieldLines fields
  pub few : length fields ≤ max_part_lines
  pub one_range : count range fields ≡ 1
  pub has_range_line : lookup range fields ≡ Some v
  pub right : is_wrong n (range_field v) ≡ false
  pub ours : is_foreign n (range_field v) ≡ false

-- "a `--boundary` line, .. lines .., an empty line, as many bytes as the span says, CR LF", and what follows
pub record Part (n : ℕ) (b : List ℕ) (cells rest : List Cell) : Type 0 where
  pub fields : List (List ℕ)
  pub range_value : List ℕ
  pub bytes : List ℕ
  pub lines : PartLines n fields range_value
  pub span : length bytes ≡ span_of (range_field range_value)
  pub text : cells ≡ own_then (dash_boundary b ++ (crlf ++ lines_then fields crlf)) (from_then (first_of (range_field range_value)) bytes (own_then crlf rest))

-- further parts, "then `--boundary--` and anything up to Content-Length"
pub data Rest (n : ℕ) (b : List ℕ) : List Cell → Type 0 where
  closed : {cells : List Cell} (anything : List ℕ) → cells ≡ own_then (dash_boundary b ++ (dashes ++ anything)) [] → Rest n b cells
  further : {cells : List Cell} (rest : List Cell) → Part n b cells rest → Rest n b rest → Rest n b cells

-- k empty lines, and what follows
abbrev pub empty_lines : ℕ → List Cell → List Cell
empty_lines zero rest = rest
empty_lines (suc k) rest = own_then crlf (empty_lines k rest)

-- "0 to 4 empty lines; then parts ..; At least one part"
pub record Multipart-body (n : ℕ) (b : List ℕ) (cells : List Cell) : Type 0 where
  pub lead : ℕ
  pub first : List Cell
  pub rest : List Cell
  pub few : lead ≤ max_preamble
  pub part : Part n b first rest
  pub others : Rest n b rest
  pub text : cells ≡ empty_lines lead first

-- a body of z bytes, each with its position in the file if it has one: "A body byte's position counts from 0 in a 200, from the stated first in a plain 206,
-- and for a part's data from that part's first"
pub data BodyText (n z : ℕ) : Kind → List Cell → Type 0 where
  plain : {k : Kind} {cells : List Cell} (p : ℕ) (l : List ℕ) → k ≡ data_from p → length l ≡ z → cells ≡ from_then p l [] → BodyText n z k cells
  skipped : {k : Kind} {cells : List Cell} (l : List ℕ) → k ≡ no_data → length l ≡ z → cells ≡ own_then l [] → BodyText n z k cells
  parts : {k : Kind} {cells : List Cell} (b : List ℕ) → k ≡ parts_under b → length cells ≡ z → Multipart-body n b cells → BodyText n z k cells

-- a whole answer that is acceptable for a copy under the tag of n bytes, and its bytes with their positions
pub record Acceptable (tag : List ℕ) (n : ℕ) (bytes : List ℕ) (cells : List Cell) : Type 0 where
  pub kind : Kind
  pub size : ℕ
  pub head_bytes : List ℕ
  pub body_cells : List Cell
  pub head : HeadText tag n head_bytes kind size
  pub body : BodyText n size kind body_cells
  pub cells_are : cells ≡ own_then head_bytes body_cells
  pub text : bytes ≡ map byte_of cells
