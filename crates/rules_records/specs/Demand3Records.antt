-- Demand 3 down to the records: a list of calls of the tablet's public functions (copy::open, copy::complete, copy_request::request, copy_bytes::saving::save,
-- reader::fresh::begin, reader::feed, reader::pieces::feed_pieces, and begin and feed of reader_in_place), in which each call gets the records as the last one
-- left them, nobody else changes them, and what each returned meets its function's contract (RecordContracts). It is a session of demand 3.
use Rattle.std.specs.Prelude.{ℕ, ◌-◌, ◌≤◌, ◌<◌, ◌≡◌, ◌↔◌, true, List, [], ◌∷◌, length, get_or}
use Rattle.std.specs.Prelude.{Bool, Option, None, Some, Result, Ok, Err}
use Rattle.rules_server.specs.Limits.{max_tag, max_boundary, max_file}
use Rattle.rules_server.specs.Tags.{is_strong}
use Rattle.rules_tablet.specs.Limits.{max_runs, max_line}
use Rattle.rules_tablet.specs.Runs.{member}
use Rattle.rules_tablet.specs.Copies.{tag_of, runs_of, copy_rule}
use Rattle.rules_tablet.specs.Readers.{parser_in}
use Rattle.rules_tablet.specs.Calls.{request_refusal, request_call}
use Rattle.rules_tablet.specs.SavedCopies.{saved_bytes, save_refusal, save_call}
use Rattle.rules_tablet.specs.declared.Copy.{Copy}
use Rattle.rules_tablet.specs.declared.Reader.{Reader}
use Rattle.rules_tablet.specs.declared.Report.TheVariants.{Refused as Reported}
use Rattle.rules_demands.specs.Demand3Arrivals.{Set, arrive}
use Rattle.rules_demands.specs.Demand3Sessions.{Event, piece, ask, Calls, delivered, Sources, cells_of, Said, fed, asked, Session, run_calls}
use Rattle.rules_demands.specs.Demand3.{EachSaid, Not19, Told, Kept, TwoAnswers, held_at, held_after}
use Rattle.rules_demands.specs.Demand3Corollary.{NeverMixed}
use Rattle.copy.specs.States.{state_of, opened_copy, Opening, completeness}
use Rattle.copy_request.specs.Requested.{request_outcome, request_bytes}
use Rattle.copy_bytes.specs.SavedFiles.{saved_says, save_outcome, save_bytes}
use Rattle.reader.specs.Rules.{reader_rule}
use Rattle.reader.specs.Begun.{Begun}
use Rattle.reader.specs.Calls.{FedIs}
use Rattle.reader.specs.declared.fed.Fed.{Fed}
use Rattle.reader_in_place.specs.declared.Progress.{Progress}

-- what a caller keeps between calls: the copy's record, the copy's buffer, the reader's record
pub record Records : Type 0 where
  pub copy : Copy
  pub buffer : List ℕ
  pub reader : Reader

-- a call that takes the copy and leaves it as it was, with what it returned
pub data CopyCall : Type 0 where
  -- request: the buffer for it, what was returned, that buffer then
  requests : List ℕ → Result ℕ ℕ → List ℕ → CopyCall
  -- complete: what was returned
  completes : Result Bool ℕ → CopyCall
  -- save: the buffer for it, what was returned, that buffer then
  saves : List ℕ → Result ℕ ℕ → List ℕ → CopyCall

-- a call after a beginning, with what it returned
pub data Call : Type 0 where
  on_copy : CopyCall → Call
  -- feed, and feed_pieces: the piece, what was returned, the copy's buffer then
  feeds : List ℕ → Fed → List ℕ → Call
  -- feed in place: the piece, the records that then stand there, what was returned, the copy's buffer then
  feeds_in_place : List ℕ → Copy → Reader → Progress → List ℕ → Call

-- a beginning, by value or in place: the record that it gave, and the calls up to the next beginning
pub record Answered : Type 0 where
  pub begun : Reader
  pub calls : List Call

-- the list starts with no reader: calls on the copy only, and then one beginning after the other, each with its calls
pub record RecordCalls : Type 0 where
  pub first : List CopyCall
  pub answers : List Answered

-- What the calls leave.

-- what feed in place leaves, as feed by value returns it
abbrev pub in_place_call : Copy → Reader → Progress → Fed
in_place_call c r p = record { copy = c; reader = r; taken = p.taken; report = p.report }

abbrev pub after_call : Call → Records → Records
after_call (on_copy x) h = h
after_call (feeds l f bytes) h = record { copy = f.copy; buffer = bytes; reader = f.reader }
after_call (feeds_in_place l c r p bytes) h = record { copy = c; buffer = bytes; reader = r }

abbrev pub after_calls : List Call → Records → Records
after_calls [] h = h
after_calls (x ∷ xs) h = after_calls xs (after_call x h)

abbrev pub with_reader : Reader → Records → Records
with_reader r h = record { copy = h.copy; buffer = h.buffer; reader = r }

abbrev pub after_answers : List Answered → Records → Records
after_answers [] h = h
after_answers (a ∷ rest) h = after_answers rest (after_calls a.calls (with_reader a.begun h))

abbrev pub after_all : RecordCalls → Records → Records
after_all w h = after_answers w.answers h

-- What each call returned meets its function's contract, of the records as the calls before it left them.

abbrev pub CopyCallMeets : Copy → CopyCall → Type 0
CopyCallMeets c (requests out r written) = (r ≡ request_outcome c (length out)) × (written ≡ request_bytes c out)
CopyCallMeets c (completes r) = r ≡ completeness c
CopyCallMeets c (saves out r written) = (r ≡ save_outcome c (length out)) × (written ≡ save_bytes c out)

abbrev pub FirstMeet : List CopyCall → Copy → Type 0
FirstMeet [] c = Unit {0}
FirstMeet (x ∷ xs) c = CopyCallMeets c x × FirstMeet xs c

abbrev pub CallMeets : Call → Records → Type 0
CallMeets (on_copy x) h = CopyCallMeets h.copy x
CallMeets (feeds l f bytes) h = FedIs h.copy h.reader h.buffer l f bytes
CallMeets (feeds_in_place l c r p bytes) h = FedIs h.copy h.reader h.buffer l (in_place_call c r p) bytes

abbrev pub CallsMeet : List Call → Records → Type 0
CallsMeet [] h = Unit {0}
CallsMeet (x ∷ xs) h = CallMeets x h × CallsMeet xs (after_call x h)

abbrev pub AnswersMeet : List Answered → Records → Type 0
AnswersMeet [] h = Unit {0}
AnswersMeet (a ∷ rest) h =
    Begun a.begun × CallsMeet a.calls (with_reader a.begun h) × AnswersMeet rest (after_calls a.calls (with_reader a.begun h))

pub record Meet (w : RecordCalls) (h : Records) : Type 0 where
  pub first : FirstMeet w.first h.copy
  pub answers : AnswersMeet w.answers h

-- The session that records and calls mean.

abbrev pub session_of : Records → List Said → Session
session_of h said = record { copy = state_of h.copy; buffer = h.buffer; reader = parser_in h.reader; said = said }

-- a request's refusal
abbrev pub refusal_in : Result ℕ ℕ → Option ℕ
refusal_in (Ok k) = None
refusal_in (Err k) = Some k

-- the requests among calls on the copy; complete and save are no calls of demand 3's list
abbrev pub asks_of : List CopyCall → List (List ℕ)
asks_of [] = []
asks_of (requests out r written ∷ xs) = out ∷ asks_of xs
asks_of (completes r ∷ xs) = asks_of xs
asks_of (saves out r written ∷ xs) = asks_of xs

abbrev pub events_of : List Call → List Event
events_of [] = []
events_of (on_copy (requests out r written) ∷ xs) = ask out ∷ events_of xs
events_of (on_copy (completes r) ∷ xs) = events_of xs
events_of (on_copy (saves out r written) ∷ xs) = events_of xs
events_of (feeds l f bytes ∷ xs) = piece l ∷ events_of xs
events_of (feeds_in_place l c r p bytes ∷ xs) = piece l ∷ events_of xs

abbrev pub answers_of : List Answered → List (List Event)
answers_of [] = []
answers_of (a ∷ rest) = events_of a.calls ∷ answers_of rest

abbrev pub calls_of : RecordCalls → Calls
calls_of w = record { asks = asks_of w.first; answers = answers_of w.answers }

-- what was returned, the last first, behind what was returned before
abbrev pub said_first : List CopyCall → List Said → List Said
said_first [] said = said
said_first (requests out r written ∷ xs) said = said_first xs (asked (refusal_in r) ∷ said)
said_first (completes r ∷ xs) said = said_first xs said
said_first (saves out r written ∷ xs) said = said_first xs said

abbrev pub said_by : List Call → List Said → List Said
said_by [] said = said
said_by (on_copy (requests out r written) ∷ xs) said = said_by xs (asked (refusal_in r) ∷ said)
said_by (on_copy (completes r) ∷ xs) said = said_by xs said
said_by (on_copy (saves out r written) ∷ xs) said = said_by xs said
said_by (feeds l f bytes ∷ xs) said = said_by xs (fed f.taken f.report ∷ said)
said_by (feeds_in_place l c r p bytes ∷ xs) said = said_by xs (fed p.taken p.report ∷ said)

-- what was returned since the last beginning
abbrev pub said_last : List Answered → List Said → List Said
said_last [] said = said
said_last (a ∷ rest) said = said_last rest (said_by a.calls [])

-- the records behind the calls, with what was returned since the last beginning
abbrev pub session_after : RecordCalls → Records → Session
session_after w h = session_of (after_all w h) (said_last w.answers (said_first w.first []))

-- What holds of them.

-- a copy's record that meets its rule, under the file's tag and length, whose held bytes are all the file's; the other bytes of its buffer are any, and so is
-- the reader's record
pub record RecordsStart (file tag : List ℕ) (h : Records) : Type 0 where
  pub rule : copy_rule h.copy ≡ true
  pub under_tag : tag_of h.copy ≡ tag
  pub of_length : h.copy.length ≡ length file
  pub buffer_length : length h.buffer ≡ length file
  pub right : (p : ℕ) → member p (runs_of h.copy) ≡ true → get_or h.buffer p 0 ≡ get_or file p 0

-- complete's answer: complete exactly when no position of the file is missing, and then with every byte of it; 19 never
pub record CompleteRight (file : List ℕ) (h : Records) (r : Result Bool ℕ) : Type 0 where
  pub complete : (r ≡ Ok true) ↔ ((p : ℕ) → p < length file → member p (runs_of h.copy) ≡ true)
  pub whole : r ≡ Ok true → h.buffer ≡ file
  pub never : (k : ℕ) → r ≡ Err k → ⊥

-- a request's answer and its buffer: as of demand 3's request; 19 never
pub record RequestRight (h : Records) (out : List ℕ) (r : Result ℕ ℕ) (written : List ℕ) : Type 0 where
  pub says : refusal_in r ≡ request_refusal (state_of h.copy) (length out)
  pub writes : written ≡ request_call (state_of h.copy) out
  pub never : r ≡ Err 19 → ⊥

-- what save says, and its buffer: as of the state that the copy's record means; 19 never
pub record SaveRight (h : Records) (out : List ℕ) (r : Result ℕ ℕ) (written : List ℕ) : Type 0 where
  pub says : r ≡ saved_says (save_refusal (state_of h.copy) (length out)) (saved_bytes (state_of h.copy))
  pub writes : written ≡ save_call (state_of h.copy) out
  pub never : r ≡ Err 19 → ⊥

abbrev pub CopyCallRight : List ℕ → Records → CopyCall → Type 0
CopyCallRight file h (requests out r written) = RequestRight h out r written
CopyCallRight file h (completes r) = CompleteRight file h r
CopyCallRight file h (saves out r written) = SaveRight h out r written

-- of feed: 19 never
abbrev pub CallRight : List ℕ → Records → Call → Type 0
CallRight file h (on_copy x) = CopyCallRight file h x
CallRight file h (feeds l f bytes) = f.report ≡ Reported 19 → ⊥
CallRight file h (feeds_in_place l c r p bytes) = p.report ≡ Reported 19 → ⊥

abbrev pub FirstRight : List ℕ → List CopyCall → Records → Type 0
FirstRight file [] h = Unit {0}
FirstRight file (x ∷ xs) h = CopyCallRight file h x × FirstRight file xs h

-- before each call of an answer, and behind the last: both records meet their rules, and no held byte differs from the file's
pub record Between (file tag : List ℕ) (h : Records) : Type 0 where
  pub start : RecordsStart file tag h
  pub reader : reader_rule h.copy h.reader ≡ true

abbrev pub CallsRight : (file tag : List ℕ) → List Call → Records → Type 0
CallsRight file tag [] h = Between file tag h
CallsRight file tag (x ∷ xs) h = Between file tag h × CallRight file h x × CallsRight file tag xs (after_call x h)

-- every answer: its calls are right, and what they returned is as demand 3 says of the set of positions that was held at its beginning
abbrev pub AnswersRight : (file tag : List ℕ) (answers : List Answered) → Sources file tag (answers_of answers) → Set → Records → Type 0
AnswersRight file tag [] ss set h = Unit {0}
AnswersRight file tag (a ∷ rest) ss set h =
    CallsRight file tag a.calls (with_reader a.begun h)
    × Told file tag (delivered (events_of a.calls)) ss.0 set (said_by a.calls [])
    × AnswersRight file tag rest ss.1 (arrive max_runs (length file) (cells_of file tag (delivered (events_of a.calls)) ss.0) set)
    (after_calls a.calls (with_reader a.begun h))

-- the calls w on records h whose copy holds the positions of a set
pub record KeptFrom (file tag : List ℕ) (h : Records) (set : Set) (w : RecordCalls) (ss : Sources file tag (answers_of w.answers)) : Type 0 where
  -- the calls are a session of demand 3
  pub session : session_after w h ≡ run_calls (calls_of w) (session_of h [])
  -- so what demand 3 says of its end holds of the records
  pub kept : Kept file tag (session_of h []) (held_after file tag (answers_of w.answers) ss set) (session_after w h)
  pub mixed : NeverMixed file tag (session_after w h)
  pub two : length (runs_of (after_all w h).copy) ≤ max_runs - 1 → TwoAnswers file tag (session_after w h)
  -- what the calls returned
  pub asks_never : EachSaid Not19 (said_first w.first [])
  pub first : FirstRight file w.first h
  pub answers : AnswersRight file tag w.answers ss set h
  -- the end is such a start again, with a record that meets its rule
  pub again : RecordsStart file tag (after_all w h)

abbrev pub RecordsKept : (file tag : List ℕ) (h : Records) (w : RecordCalls) → Sources file tag (answers_of w.answers) → Type 0
RecordsKept file tag h w ss = KeptFrom file tag h (held_at (session_of h [])) w ss

-- demand 3 of records
abbrev pub Demand3OfRecords : Type 0
Demand3OfRecords = (file tag : List ℕ) (h : Records) (w : RecordCalls) (ss : Sources file tag (answers_of w.answers))
    → RecordsStart file tag h → Meet w h → RecordsKept file tag h w ss

-- what opening returns for a buffer, with any reader's record
abbrev pub opened_records : Copy → List ℕ → Reader → Records
opened_records c buffer r = record { copy = c; buffer = buffer; reader = r }

-- under a strong tag, a length and a buffer that are right, opening refuses nothing, and what it returns is such a start
pub record OpeningRight (file tag buffer : List ℕ) (o : Result Copy ℕ) : Type 0 where
  pub opens : is_strong tag ≡ true → length tag ≤ max_tag → length buffer ≡ length file → length file ≤ max_file → (c : Copy) × (o ≡ Ok c)
  pub starts : (c : Copy) → o ≡ Ok c → (r : Reader) → RecordsStart file tag (opened_records c buffer r)

abbrev pub OpeningOfRecords : Type 0
OpeningOfRecords = (file tag buffer : List ℕ) (o : Result Copy ℕ) → Opening tag (length file) (length buffer) o → OpeningRight file tag buffer o

-- No rule is one that no record meets.

-- arrays of their lengths
pub record CopySized (c : Copy) : Type 0 where
  pub tag : length c.tag ≡ max_tag
  pub runs : length c.runs ≡ max_runs

pub record ReaderSized (r : Reader) : Type 0 where
  pub line : length r.line ≡ max_line
  pub tag : length r.tag ≡ max_tag
  pub boundary : length r.boundary ≡ max_boundary

abbrev pub CallSized : Call → Type 0
CallSized (on_copy x) = Unit {0}
CallSized (feeds l f bytes) = CopySized f.copy × ReaderSized f.reader
CallSized (feeds_in_place l c r p bytes) = CopySized c × ReaderSized r

abbrev pub CallsSized : List Call → Type 0
CallsSized [] = Unit {0}
CallsSized (x ∷ xs) = CallSized x × CallsSized xs

abbrev pub AnswersSized : List Answered → Type 0
AnswersSized [] = Unit {0}
AnswersSized (a ∷ rest) = ReaderSized a.begun × CallsSized a.calls × AnswersSized rest

-- calls of the functions on records, by value, that mean a list of calls
pub record RecordsFor (h : Records) (cs : Calls) : Type 0 where
  pub calls : RecordCalls
  pub are : calls_of calls ≡ cs
  pub meet : Meet calls h
  pub sized : AnswersSized calls.answers

-- every list of calls of demand 3, on each copy's record that meets its rule with a buffer of its length, is one of records that meet the contracts
abbrev pub RecordsExist : Type 0
RecordsExist = (h : Records) (cs : Calls) → copy_rule h.copy ≡ true → length h.buffer ≡ h.copy.length → CopySized h.copy → RecordsFor h cs

-- and opening has a result, whatever it is given
pub record OpenedFor (tag : List ℕ) (n room : ℕ) : Type 0 where
  pub opened : Result Copy ℕ
  pub opening : Opening tag n room opened
  pub sized : CopySized (opened_copy opened)

abbrev pub OpeningExists : Type 0
OpeningExists = (tag : List ℕ) (n room : ℕ) → OpenedFor tag n room
