-- The tablet end's public functions on what its records mean: opening, request, begin, feed and complete, with the test for 19 that comes before all else.
use Rattle.std.specs.Prelude.{ℕ, suc, ◌+◌, Bool, true, false, not, cond, ◌&&◌, ◌||◌, List, [], leb, ltb, eqb, length, None}
use Rattle.std.specs.Prelude.{Option, None, Some}
use Rattle.rules_server.specs.Limits.{max_file, max_tag, max_boundary}
use Rattle.rules_server.specs.Octets.{codes, within}
use Rattle.rules_server.specs.Tags.{is_strong, bad_boundary}
use Rattle.rules_server.specs.declared.Run.{Run}
use Rattle.rules_tablet.specs.Limits.{max_runs, max_line, max_fields, max_part_lines, max_preamble, max_size}
use Rattle.rules_tablet.specs.Runs.{well_formed}
use Rattle.rules_tablet.specs.Copies.{bad_opening, is_complete}
use Rattle.rules_tablet.specs.Requests.{request_text, wanted, request_of, request_output}
use Rattle.rules_tablet.specs.Fields.{small, is_wrong, is_foreign, first_of}
use Rattle.rules_tablet.specs.Heads.{size_of, span_of, is_ok, is_parts, is_part, is_unsatisfied, head_refusal}
use Rattle.rules_tablet.specs.Parsers.{Parser, delimiter, report_of}
use Rattle.rules_tablet.specs.Feeding.{Tablet, Fed, feed}
use Rattle.rules_tablet.specs.declared.RangeField.{RangeField}
use Rattle.rules_tablet.specs.declared.RangeField.TheVariants.{Absent, Wrong, Span, Of}
use Rattle.rules_tablet.specs.declared.TypeField.{TypeField}
use Rattle.rules_tablet.specs.declared.TypeField.TheVariants.{Absent as NoType, Other, Multipart, Broken}
use Rattle.rules_tablet.specs.declared.Report.{Report}
use Rattle.rules_tablet.specs.declared.Report.TheVariants.{Refused as ByNumber}
use Rattle.rules_tablet.specs.declared.Head.{Head}
use Rattle.rules_tablet.specs.declared.Stage.{Stage}
use Rattle.rules_tablet.specs.declared.Stage.TheVariants.{Status, Fields, Plain, Skip, Preamble, PreambleEnd, FirstDelimiter, Delimiter}
use Rattle.rules_tablet.specs.declared.Stage.TheVariants.{AfterFirstDelimiter, AfterDelimiter, PartBegin, Closing, PartLine, Data, Epilogue, Finished}
use Rattle.rules_tablet.specs.declared.Stage.TheVariants.{Refused}

-- what a copy's record means
pub record State : Type 0 where
  pub tag : List ℕ
  pub length : ℕ
  pub runs : List Run

-- the copy's rule on what it means: "copy's tag not strong or over 64 bytes, .. length over limit 2", at most max_runs maximal runs of its positions
unfoldable pub copy_ok : State → Bool
copy_ok c = is_strong c.tag && leb (length c.tag) max_tag && leb c.length max_file && leb (length c.runs) max_runs && well_formed 0 c.length c.runs

-- opening: a fresh copy with no run held, or 19, which leaves the fresh copy of the tag `""` and length 0
unfoldable pub opened : List ℕ → ℕ → ℕ → State
opened tag n room = cond (bad_opening tag n room) (record { tag = codes "\"\""; length = 0; runs = [] }) (record { tag = tag; length = n; runs = [] })

-- a fresh reader
unfoldable pub fresh : Parser
fresh = record {
  stage = Status;
  framing = record { after = 0 };
  line = [];
  cr = false;
  head = record { status = 0; lines = 0; has_tag = false; media = NoType; range = Absent; size = None };
  part = record { lines = 0; range = Absent };
  tag = [];
  boundary = [];
}

abbrev pub range_ok : RangeField → Bool
range_ok Absent = true
range_ok Wrong = true
range_ok (Span a b) = small a && small b
range_ok (Of a b s) = small a && small b && small s

-- a multipart's type was read with its boundary
abbrev pub type_ok : TypeField → List ℕ → Bool
type_ok NoType b = true
type_ok Other b = true
type_ok Multipart b = not (bad_boundary b)
type_ok Broken b = true

-- a body stage: the head was accepted for the copy ("Head, at its empty line": none of 12, 11, 13, 14, 15), so its status is 200, 206 or 416, it had a
-- Content-Length, and but for a 416 the copy's tag; what is left of the body is at most Content-Length
abbrev pub body_ok : State → Parser → Bool
body_ok c p = eqb (head_refusal c.tag c.length p.head p.tag) 0 && ltb p.framing.after (size_of p.head.size)

-- the body of several parts, whose boundary is one by its type
abbrev pub parts_ok : State → Parser → Bool
parts_ok c p = body_ok c p && is_parts p.head

-- of the k positions from `first` on, those from `next` on are the last `left`
abbrev pub remains : ℕ → ℕ → ℕ → ℕ → Bool
remains first k next left = leb left k && eqb (next + left) (first + k)

-- data from `next` on of a 200 (from 0 on) or of a 206 of one part (from its Content-Range's first on)
abbrev pub plain_ok : ℕ → ℕ → Head → Bool
plain_ok next after h = (is_ok h || is_part h) && remains (first_of h.range) (size_of h.size) next (suc after)

-- data of a part, `left` bytes from `next` on: the rest of a Content-Range that is right for a copy of n bytes
abbrev pub data_ok : ℕ → ℕ → ℕ → RangeField → Bool
data_ok n next left r = leb 1 left && not (is_wrong n r) && not (is_foreign n r) && remains (first_of r) (span_of r) next left

-- where the reader stands; what is counted still holds a part's data, CR LF and the closing mark
abbrev pub stage_ok : State → Stage → Parser → Bool
stage_ok c Status p = true
stage_ok c Fields p = true
stage_ok c (Plain next) p = body_ok c p && plain_ok next p.framing.after p.head
stage_ok c Skip p = body_ok c p && is_unsatisfied p.head
stage_ok c (Preamble k) p = parts_ok c p && leb k max_preamble
stage_ok c (PreambleEnd k) p = parts_ok c p && ltb k max_preamble
stage_ok c (FirstDelimiter i) p = parts_ok c p && leb 3 i && ltb i (length (delimiter p))
stage_ok c (Delimiter i) p = parts_ok c p && ltb i (length (delimiter p))
stage_ok c AfterFirstDelimiter p = parts_ok c p
stage_ok c AfterDelimiter p = parts_ok c p
stage_ok c PartBegin p = parts_ok c p
stage_ok c Closing p = parts_ok c p
stage_ok c PartLine p = parts_ok c p
stage_ok c (Data next left) p =
    parts_ok c p && data_ok c.length next left p.part.range && leb (left + 2 + (length p.boundary + 4)) (suc p.framing.after)
stage_ok c Epilogue p = parts_ok c p
stage_ok c Finished p = true
stage_ok c (Refused k) p = within 11 17 k

-- the reader's rule on what it means, beside the copy that it is used with
unfoldable pub reader_ok : State → Parser → Bool
reader_ok c p =
    leb (length p.line) max_line
    && leb p.head.lines max_fields
    && leb p.part.lines max_part_lines
    && leb (length p.tag) max_tag
    && leb (length p.boundary) max_boundary
    && type_ok p.head.media p.boundary
    && range_ok p.head.range
    && range_ok p.part.range
    && leb (size_of p.head.size) max_size
    && ltb p.framing.after max_size
    && stage_ok c p.stage p

-- what a call of feed leaves and says
pub record Feeding : Type 0 where
  pub copy : State
  pub reader : Parser
  pub buffer : List ℕ
  pub taken : ℕ
  pub report : Report

abbrev pub tablet_of : State → Parser → List ℕ → Tablet
tablet_of c p buffer = record { held = record { runs = c.runs; bytes = buffer }; parser = p }

abbrev pub feeding_of : State → Fed → Feeding
feeding_of c r = record {
  copy = record { tag = c.tag; length = c.length; runs = r.tablet.held.runs };
  reader = r.tablet.parser;
  buffer = r.tablet.held.bytes;
  taken = r.taken;
  report = report_of r.tablet.parser.stage;
}

-- "Feeding: 19 before all else, nothing taken or changed"
unfoldable pub feedable : State → Parser → List ℕ → Bool
feedable c p buffer = copy_ok c && eqb (length buffer) c.length && reader_ok c p

unfoldable pub feed_call : State → Parser → List ℕ → List ℕ → Feeding
feed_call c p buffer piece =
    cond (feedable c p buffer)
    (feeding_of c (feed max_runs c.tag c.length piece (tablet_of c p buffer)))
    (record { copy = c; reader = p; buffer = buffer; taken = 0; report = ByNumber 19 })

-- "Request: 19, 18, 20"; none where it is written
unfoldable pub request_refusal : State → ℕ → Option ℕ
request_refusal c room = cond (copy_ok c) (request_of (wanted c.length c.runs) c.tag room) (Some 19)

-- the request's text, and what its buffer then holds
abbrev pub request_lines : State → List ℕ
request_lines c = request_text (wanted c.length c.runs) c.tag

unfoldable pub request_call : State → List ℕ → List ℕ
request_call c out = request_output (request_refusal c (length out)) (request_lines c) out

-- "It says complete exactly when no position of the file is missing"; 19 of a record that breaks its rule
unfoldable pub complete_call : State → Option Bool
complete_call c = cond (copy_ok c) (Some (is_complete c.length c.runs)) None
