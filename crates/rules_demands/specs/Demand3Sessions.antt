-- A list of calls on one copy: requests, beginnings of an answer, and pieces fed to the reader that was begun last (document 01, "A call writes a request,
-- begins an answer with a fresh reader, or feeds that reader a piece, perhaps empty").
use Rattle.std.specs.Prelude.{ℕ, ◌≡◌, true, List, [], ◌∷◌, ◌++◌, ℤ, length, take}
use Rattle.std.specs.Prelude.{Option, None}
use Rattle.rules_server.specs.Texts.{get}
use Rattle.rules_server.specs.Status.{Request, LastModified, Resource}
use Rattle.rules_server.specs.Answers.{Cell, answer, bytes_of}
use Rattle.rules_server.specs.Refusals.{refusal}
use Rattle.rules_tablet.specs.Parsers.{Parser}
use Rattle.rules_tablet.specs.Calls.{State, fresh, Feeding, feed_call, request_refusal}
use Rattle.rules_tablet.specs.declared.Report.{Report}
use Rattle.rules_demands.specs.Demand3Arrivals.{flat}
use Rattle.rules_demands.specs.Demand3Foreign.{under_another}

-- a call after a beginning: a piece for the reader, or a request into a buffer that holds these bytes
pub data Event : Type 0 where
  piece : List ℕ → Event
  ask : List ℕ → Event

-- the list starts with no reader: requests only, and then one beginning after the other, each with its calls
pub record Calls : Type 0 where
  pub asks : List (List ℕ)
  pub answers : List (List Event)

-- the delivered bytes of a beginning, end to end
abbrev pub delivered : List Event → List ℕ
delivered [] = []
delivered (piece l ∷ es) = l ++ delivered es
delivered (ask out ∷ es) = delivered es

-- the file with what a server says of it
abbrev pub resource_of : List ℕ → List ℕ → List ℕ → List ℕ → Option LastModified → ℤ → Resource
resource_of file tag media boundary modified reference =
    record { file = file; tag = tag; media = media; boundary = boundary; modified = modified; reference = reference }

-- our server's answer to a GET of the file, with its own Range, If-Range, type, boundary, Last-Modified, reference time and output length, broken off after
-- any byte
pub record Ours (file tag bytes : List ℕ) : Type 0 where
  pub request : Request
  pub media : List ℕ
  pub boundary : List ℕ
  pub modified : Option LastModified
  pub reference : ℤ
  pub room : ℕ
  pub is_get : request.method ≡ get
  pub answered : refusal request (resource_of file tag media boundary modified reference) room ≡ None
  pub rest : List ℕ
  pub front : bytes ++ rest ≡ bytes_of (answer request (resource_of file tag media boundary modified reference))

-- anyone's answer under another tag, broken off after any byte
pub record Other (tag bytes : List ℕ) : Type 0 where
  pub rest : List ℕ
  pub other : under_another tag (bytes ++ rest) ≡ true

pub data Source (file tag bytes : List ℕ) : Type 0 where
  ours : Ours file tag bytes → Source file tag bytes
  foreign : Other tag bytes → Source file tag bytes

-- each beginning for itself
abbrev pub Sources : List ℕ → List ℕ → List (List Event) → Type 0
Sources file tag [] = Unit {0}
Sources file tag (es ∷ rest) = Source file tag (delivered es) × Sources file tag rest

-- the cells of the bytes that arrived in answers of the file
abbrev pub cells_of : (file tag bytes : List ℕ) → Source file tag bytes → List Cell
cells_of file tag bytes (ours o) =
    take (length bytes) (flat (answer o.request (resource_of file tag o.media o.boundary o.modified o.reference)))
cells_of file tag bytes (foreign o) = []

-- what a call said: what was taken and reported, or a request's refusal
pub data Said : Type 0 where
  fed : ℕ → Report → Said
  asked : Option ℕ → Said

-- the copy, its buffer, the reader, and what the calls said, the last first
pub record Session : Type 0 where
  pub copy : State
  pub buffer : List ℕ
  pub reader : Parser
  pub said : List Said

abbrev pub after_feed : Session → Feeding → Session
after_feed s r = record { copy = r.copy; buffer = r.buffer; reader = r.reader; said = fed r.taken r.report ∷ s.said }

-- a request changes nothing but its own buffer
abbrev pub after_ask : Session → List ℕ → Session
after_ask s out = record { copy = s.copy; buffer = s.buffer; reader = s.reader; said = asked (request_refusal s.copy (length out)) ∷ s.said }

-- "Each call gets copy, buffer and reader as the last one left them"
abbrev pub run_events : List Event → Session → Session
run_events [] s = s
run_events (piece l ∷ es) s = run_events es (after_feed s (feed_call s.copy s.reader s.buffer l))
run_events (ask out ∷ es) s = run_events es (after_ask s out)

-- a beginning gives a fresh reader; the calls of an answer start with nothing said
abbrev pub begun : Session → Session
begun s = record { copy = s.copy; buffer = s.buffer; reader = fresh; said = [] }

abbrev pub run_answers : List (List Event) → Session → Session
run_answers [] s = s
run_answers (es ∷ rest) s = run_answers rest (run_events es (begun s))

abbrev pub run_asks : List (List ℕ) → Session → Session
run_asks [] s = s
run_asks (out ∷ rest) s = run_asks rest (after_ask s out)

abbrev pub run_calls : Calls → Session → Session
run_calls cs s = run_answers cs.answers (run_asks cs.asks s)
