-- The parser of an answer, byte by byte: where it stands, what the next byte is to the copy, and what it makes of it (document 01, "The tablet's copy and
-- reader").
use Rattle.std.specs.Prelude.{ℕ, zero, suc, ◌+◌, Bool, true, false, not, cond, ◌||◌, List, [], ◌∷◌, ◌++◌, leb, ltb, eqb, length, get_or, Some}
use Rattle.std.specs.Prelude.{Option, None, Some}
use Rattle.rules_server.specs.Octets.{carriage_return, dash, line_feed}
use Rattle.rules_server.specs.Texts.{crlf}
use Rattle.rules_server.specs.Numerals.{decimal}
use Rattle.rules_server.specs.Answers.{dash_boundary}
use Rattle.rules_tablet.specs.Limits.{max_fields, max_part_lines, max_preamble}
use Rattle.rules_tablet.specs.Lines.{LineStep, going, whole, broken, line_step}
use Rattle.rules_tablet.specs.Fields.{is_status_line, status_number, is_field, name_of, value_of, Name, etag, type, range, size, transfer, other, kind_of}
use Rattle.rules_tablet.specs.Fields.{is_size, type_field, boundary_of, range_field, is_wrong, is_foreign, first_of}
use Rattle.rules_tablet.specs.Heads.{has_range, has_type, has_size, size_of, span_of, head_refusal, body_stage, kept_tag}
use Rattle.rules_tablet.specs.Heads.{with_status, with_tag_seen, with_type, with_range, with_size, another_line}
use Rattle.rules_tablet.specs.declared.RangeField.TheVariants.{Absent}
use Rattle.rules_tablet.specs.declared.TypeField.{TypeField}
use Rattle.rules_tablet.specs.declared.TypeField.TheVariants.{Absent as NoType, Other, Multipart, Broken}
use Rattle.rules_tablet.specs.declared.Head.{Head}
use Rattle.rules_tablet.specs.declared.PartHead.{PartHead}
use Rattle.rules_tablet.specs.declared.Framing.{Framing}
use Rattle.rules_tablet.specs.declared.Report.{Report}
use Rattle.rules_tablet.specs.declared.Report.TheVariants.{More, Finished as AtEnd, Refused as ByNumber}
use Rattle.rules_tablet.specs.declared.Stage.{Stage}
use Rattle.rules_tablet.specs.declared.Stage.TheVariants.{Status, Fields, Plain, Skip, Preamble, PreambleEnd, FirstDelimiter, Delimiter}
use Rattle.rules_tablet.specs.declared.Stage.TheVariants.{AfterFirstDelimiter, AfterDelimiter, PartBegin, Closing, PartLine, Data, Epilogue, Finished}
use Rattle.rules_tablet.specs.declared.Stage.TheVariants.{Refused}

-- a reader's record, with lists for its arrays
pub record Parser : Type 0 where
  pub stage : Stage
  pub framing : Framing
  pub line : List ℕ
  pub cr : Bool
  pub head : Head
  pub part : PartHead
  pub tag : List ℕ
  pub boundary : List ℕ

abbrev pub at : Stage → Parser → Parser
at s p = record { stage = s; framing = p.framing; line = p.line; cr = p.cr; head = p.head; part = p.part; tag = p.tag; boundary = p.boundary }

abbrev pub refuse : ℕ → Parser → Parser
refuse k p = at (Refused k) p

abbrev pub with_line : List ℕ → Bool → Parser → Parser
with_line l cr p = record { stage = p.stage; framing = p.framing; line = l; cr = cr; head = p.head; part = p.part; tag = p.tag; boundary = p.boundary }

abbrev pub with_head : Head → List ℕ → List ℕ → Parser → Parser
with_head h tag boundary p = record { stage = p.stage; framing = p.framing; line = []; cr = false; head = h; part = p.part; tag = tag; boundary = boundary }

abbrev pub with_part : PartHead → Parser → Parser
with_part x p = record { stage = p.stage; framing = p.framing; line = []; cr = false; head = p.head; part = x; tag = p.tag; boundary = p.boundary }

abbrev pub with_framing : Framing → Parser → Parser
with_framing f p = record { stage = p.stage; framing = f; line = p.line; cr = p.cr; head = p.head; part = p.part; tag = p.tag; boundary = p.boundary }

-- a body that Content-Length counts, with so many bytes after the next
abbrev pub counted_body : ℕ → Framing
counted_body k = record { after = k }

-- a type's boundary, as far as a reader keeps it: only one as in refusal 5
abbrev pub kept_boundary : TypeField → List ℕ → List ℕ
kept_boundary NoType b = []
kept_boundary Other b = []
kept_boundary Multipart b = b
kept_boundary Broken b = []

-- a field line of the head: "ETag, Content-Type, Content-Range, Content-Length count, .. each at most once"; "Any Transfer-Encoding is refused"
abbrev pub head_field : Name → List ℕ → Parser → Head → Parser
head_field etag v p h = cond h.has_tag (refuse 11 p) (with_head (with_tag_seen (another_line h)) (kept_tag v) p.boundary p)
head_field type v p h =
    cond (has_type h.media) (refuse 11 p)
    (with_head (with_type (type_field v) (another_line h)) p.tag (kept_boundary (type_field v) (boundary_of v)) p)
head_field range v p h = cond (has_range h.range) (refuse 11 p) (with_head (with_range (range_field v) (another_line h)) p.tag p.boundary p)
head_field size v p h =
    cond (has_size h.size) (refuse 11 p)
    (cond (is_size v) (with_head (with_size (Some (decimal v)) (another_line h)) p.tag p.boundary p) (refuse 11 p))
head_field transfer v p h = refuse 11 p
head_field other v p h = with_head (another_line h) p.tag p.boundary p

-- a whole field line
unfoldable pub field_line : List ℕ → Parser → Parser
field_line l p =
    cond (leb max_fields p.head.lines) (refuse 11 p)
    (cond (is_field l) (head_field (kind_of (name_of l)) (value_of l) p p.head) (refuse 11 p))

-- the body of an accepted head: finished where it is empty
abbrev pub begin_body : ℕ → Parser → Parser
begin_body zero p = at Finished p
begin_body (suc k) p = at (body_stage p.head) (with_framing (counted_body k) p)

abbrev pub judged : ℕ → Parser → Parser
judged zero p = begin_body (size_of p.head.size) p
judged (suc k) p = refuse (suc k) p

-- the head's empty line
unfoldable pub head_end : List ℕ → ℕ → Parser → Parser
head_end t n p = judged (head_refusal t n p.head p.tag) (with_line [] false p)

-- the status line
unfoldable pub status_line : List ℕ → Parser → Parser
status_line l p = cond (is_status_line l) (at Fields (with_head (with_status (status_number l) p.head) p.tag p.boundary p)) (refuse 11 p)

abbrev pub status_step : LineStep → Parser → Parser
status_step (going l cr) p = with_line l cr p
status_step (whole l) p = status_line l p
status_step broken p = refuse 11 p

abbrev pub fields_step : List ℕ → ℕ → LineStep → Parser → Parser
fields_step t n (going l cr) p = with_line l cr p
fields_step t n (whole []) p = head_end t n p
fields_step t n (whole (x ∷ l)) p = field_line (x ∷ l) p
fields_step t n broken p = refuse 11 p

-- CR LF `--` boundary
abbrev pub delimiter : Parser → List ℕ
delimiter p = crlf ++ dash_boundary p.boundary

-- the next byte of the delimiter, i of it seen: on to `end` behind its last
abbrev pub delimiter_step : ℕ → (ℕ → Stage) → Stage → ℕ → Parser → Parser
delimiter_step i on end b p =
    cond (eqb b (get_or (delimiter p) i 0))
    (cond (eqb (suc i) (length (delimiter p))) (at end p) (at (on (suc i)) p))
    (refuse 15 p)

-- a part's line: "lines as in the head with exactly one Content-Range (no other name counts here)"
abbrev pub part_field : Name → List ℕ → Parser → PartHead → Parser
part_field etag v p x = with_part (record { lines = suc x.lines; range = x.range }) p
part_field type v p x = with_part (record { lines = suc x.lines; range = x.range }) p
part_field range v p x = cond (has_range x.range) (refuse 15 p) (with_part (record { lines = suc x.lines; range = range_field v }) p)
part_field size v p x = with_part (record { lines = suc x.lines; range = x.range }) p
part_field transfer v p x = with_part (record { lines = suc x.lines; range = x.range }) p
part_field other v p x = with_part (record { lines = suc x.lines; range = x.range }) p

unfoldable pub part_line : List ℕ → Parser → Parser
part_line l p =
    cond (leb max_part_lines p.part.lines) (refuse 15 p)
    (cond (is_field l) (part_field (kind_of (name_of l)) (value_of l) p p.part) (refuse 15 p))

-- so many bytes of the body can still come after the next
abbrev pub holds : Framing → ℕ → Bool
holds f k = leb k f.after

-- "At a part's empty line, its data, CR LF and a closing mark must still fit"
abbrev pub fits : Parser → Bool
fits p = holds p.framing (span_of p.part.range + 2 + (length p.boundary + 4))

-- "A part's empty line: 15 for line counts, 14, 13, 15 for fit"
unfoldable pub part_end : ℕ → Parser → Parser
part_end n p =
    cond (eqb p.part.lines 0 || not (has_range p.part.range)) (refuse 15 p)
    (cond (is_wrong n p.part.range) (refuse 14 p)
    (cond (is_foreign n p.part.range) (refuse 13 p)
    (cond (fits p) (at (Data (first_of p.part.range) (span_of p.part.range)) (with_line [] false p))
    (refuse 15 p))))

abbrev pub part_step : ℕ → LineStep → Parser → Parser
part_step n (going l cr) p = with_line l cr p
part_step n (whole []) p = part_end n p
part_step n (whole (x ∷ l)) p = part_line (x ∷ l) p
part_step n broken p = refuse 15 p

-- a byte of a part's data, of which so many are still to come
abbrev pub data_step : ℕ → ℕ → Parser → Parser
data_step next zero p = refuse 15 p
data_step next (suc zero) p = at (Delimiter 0) p
data_step next (suc (suc k)) p = at (Data (suc next) (suc k)) p

-- a byte of the body, where the parser stands
abbrev pub body_step : ℕ → Stage → ℕ → Parser → Parser
body_step n Status b p = p
body_step n Fields b p = p
body_step n (Plain next) b p = at (Plain (suc next)) p
body_step n Skip b p = p
body_step n (Preamble k) b p =
    cond (eqb b carriage_return) (cond (ltb k max_preamble) (at (PreambleEnd k) p) (refuse 15 p))
    (cond (eqb b dash) (at (FirstDelimiter 3) p) (refuse 15 p))
body_step n (PreambleEnd k) b p = cond (eqb b line_feed) (at (Preamble (suc k)) p) (refuse 15 p)
body_step n (FirstDelimiter i) b p = delimiter_step i FirstDelimiter AfterFirstDelimiter b p
body_step n (Delimiter i) b p = delimiter_step i Delimiter AfterDelimiter b p
body_step n AfterFirstDelimiter b p = cond (eqb b carriage_return) (at PartBegin p) (refuse 15 p)
body_step n AfterDelimiter b p = cond (eqb b carriage_return) (at PartBegin p) (cond (eqb b dash) (at Closing p) (refuse 15 p))
body_step n PartBegin b p = cond (eqb b line_feed) (at PartLine (with_part (record { lines = 0; range = Absent }) p)) (refuse 15 p)
body_step n Closing b p = cond (eqb b dash) (at Epilogue p) (refuse 15 p)
body_step n PartLine b p = part_step n (line_step p.line p.cr b) p
body_step n (Data next left) b p = data_step next left p
body_step n Epilogue b p = p
body_step n Finished b p = p
body_step n (Refused k) b p = p

-- the last counted byte: finished, or 15 "if the closing mark is not then complete"
abbrev pub last_byte : Stage → Parser → Parser
last_byte Status p = refuse 15 p
last_byte Fields p = refuse 15 p
last_byte (Plain next) p = at Finished p
last_byte Skip p = at Finished p
last_byte (Preamble k) p = refuse 15 p
last_byte (PreambleEnd k) p = refuse 15 p
last_byte (FirstDelimiter i) p = refuse 15 p
last_byte (Delimiter i) p = refuse 15 p
last_byte AfterFirstDelimiter p = refuse 15 p
last_byte AfterDelimiter p = refuse 15 p
last_byte PartBegin p = refuse 15 p
last_byte Closing p = refuse 15 p
last_byte PartLine p = refuse 15 p
last_byte (Data next left) p = refuse 15 p
last_byte Epilogue p = at Finished p
last_byte Finished p = p
last_byte (Refused k) p = p

-- what a reader reports
abbrev pub report_of : Stage → Report
report_of Status = More
report_of Fields = More
report_of (Plain next) = More
report_of Skip = More
report_of (Preamble k) = More
report_of (PreambleEnd k) = More
report_of (FirstDelimiter i) = More
report_of (Delimiter i) = More
report_of AfterFirstDelimiter = More
report_of AfterDelimiter = More
report_of PartBegin = More
report_of Closing = More
report_of PartLine = More
report_of (Data next left) = More
report_of Epilogue = More
report_of Finished = AtEnd
report_of (Refused k) = ByNumber k

-- whether more is wanted
abbrev pub is_more : Report → Bool
is_more More = true
is_more AtEnd = false
is_more (ByNumber k) = false

-- whether it refuses
abbrev pub is_refusal : Report → Bool
is_refusal More = false
is_refusal AtEnd = false
is_refusal (ByNumber k) = true

abbrev pub is_refused : Stage → Bool
is_refused s = is_refusal (report_of s)

-- one of the bytes that Content-Length counts, with so many after it
abbrev pub count_byte : ℕ → Parser → Parser
count_byte zero p = last_byte p.stage p
count_byte (suc k) p = with_framing (counted_body k) p

-- one byte of the body by its framing
abbrev pub framed : Framing → Parser → Parser
framed f p = count_byte f.after p

-- what the next byte makes of the parser, for a copy under the tag t of n bytes
abbrev pub parse : List ℕ → ℕ → Stage → ℕ → Parser → Parser
parse t n Status b p = status_step (line_step p.line p.cr b) p
parse t n Fields b p = fields_step t n (line_step p.line p.cr b) p
parse t n (Plain next) b p = framed p.framing (body_step n (Plain next) b p)
parse t n Skip b p = framed p.framing (body_step n Skip b p)
parse t n (Preamble k) b p = framed p.framing (body_step n (Preamble k) b p)
parse t n (PreambleEnd k) b p = framed p.framing (body_step n (PreambleEnd k) b p)
parse t n (FirstDelimiter i) b p = framed p.framing (body_step n (FirstDelimiter i) b p)
parse t n (Delimiter i) b p = framed p.framing (body_step n (Delimiter i) b p)
parse t n AfterFirstDelimiter b p = framed p.framing (body_step n AfterFirstDelimiter b p)
parse t n AfterDelimiter b p = framed p.framing (body_step n AfterDelimiter b p)
parse t n PartBegin b p = framed p.framing (body_step n PartBegin b p)
parse t n Closing b p = framed p.framing (body_step n Closing b p)
parse t n PartLine b p = framed p.framing (body_step n PartLine b p)
parse t n (Data next left) b p = framed p.framing (body_step n (Data next left) b p)
parse t n Epilogue b p = framed p.framing (body_step n Epilogue b p)
parse t n Finished b p = p
parse t n (Refused k) b p = p

-- what the next byte is to the copy: nothing, or data at a position
abbrev pub event : Stage → Option ℕ
event Status = None
event Fields = None
event (Plain next) = Some next
event Skip = None
event (Preamble k) = None
event (PreambleEnd k) = None
event (FirstDelimiter i) = None
event (Delimiter i) = None
event AfterFirstDelimiter = None
event AfterDelimiter = None
event PartBegin = None
event Closing = None
event PartLine = None
event (Data next left) = Some next
event Epilogue = None
event Finished = None
event (Refused k) = None
