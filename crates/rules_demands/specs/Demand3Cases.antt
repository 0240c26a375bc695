-- Concrete cases of demand 3, so that its premises are seen to be possible: every kind of call and an answer that completes the copy, a start with runs held
-- and pieces behind the end of an answer. Copies at the limits: Demand3Limits.
use Rattle.std.specs.Prelude.{ℕ, ◌≡◌, false, List, [], ◌∷◌, ◌++◌, pos, length, take, drop}
use Prim.Native.String.{String}
use Rattle.std.specs.Prelude.{Option, None, Some}
use Rattle.rules_server.specs.Octets.{codes}
use Rattle.rules_server.specs.Texts.{get, status200, status206, status416}
use Rattle.rules_server.specs.Status.{Request, LastModified, Resource}
use Rattle.rules_server.specs.Answers.{answer, bytes_of}
use Rattle.rules_tablet.specs.Runs.{run}
use Rattle.rules_tablet.specs.Calls.{fresh, request_call}
use Rattle.rules_tablet.specs.declared.Report.TheVariants.{More, Finished, Refused}
use Rattle.rules_demands.specs.Demand3Sessions.{Event, piece, ask, Calls, delivered, resource_of, Ours, Other, ours, foreign, Said, fed, asked, Session}
use Rattle.rules_demands.specs.Demand3Sessions.{begun, run_events, run_asks, run_calls}
use Rattle.rules_demands.specs.Demand3.{Start, Round, after_round, Complete, TwoAnswers, Demand3}
use Rattle.rules_demands.specs.Demand3Corollary.{opened_session}
use Rattle.rules_demands.specs.AnchorSamples.{dots}

-- the tag of each file here
abbrev pub tag : List ℕ
tag = codes "\"k1\""

-- a fresh copy of a file
abbrev pub fresh_for : List ℕ → Session
fresh_for file = opened_session tag (length file) (dots (length file))

-- a GET with a Range, and one without
abbrev pub wants : String → Request
wants v = record { method = get; range = Some (codes v); if_range = None }

abbrev pub wants_all : Request
wants_all = record { method = get; range = None; if_range = None }

-- what our server says of a file, with this Last-Modified
abbrev pub resource : Option LastModified → List ℕ → Resource
resource modified file = resource_of file tag (codes "text/plain") (codes "B") modified (pos 0)

-- a Last-Modified
abbrev pub dated : Option LastModified
dated = Some (record { time = pos 784111777; strong = false })

-- our answer to a request, without a Last-Modified
abbrev pub reply : List ℕ → Request → List ℕ
reply file q = bytes_of (answer q (resource None file))

-- and with one
abbrev pub dated_reply : List ℕ → Request → List ℕ
dated_reply file q = bytes_of (answer q (resource dated file))

-- the bytes are a front of our answer to q, and begin with this status line
pub record AnswerTo (file : List ℕ) (q : Request) (status bytes : List ℕ) : Type 0 where
  pub source : Ours file tag bytes
  pub is_to : source.request ≡ q
  pub begins : take (length status) bytes ≡ status

-- what the calls of each answer said, the last call first
abbrev pub said_of : List (List Event) → Session → List (List Said)
said_of [] s = []
said_of (es ∷ rest) s = (run_events es (begun s)).said ∷ said_of rest (run_events es (begun s))

-- the lines of a request
abbrev pub lines_of : String → List ℕ
lines_of range = codes "Range: " ++ (codes range ++ codes "\r\nIf-Range: \"k1\"\r\n")

-- a `Round` of demand 3: the request that it writes has this Range, and the whole answer to it is fed in two pieces
pub record TakesRange (file : List ℕ) (s : Session) (range : String) : Type 0 where
  pub round : Round file tag s
  pub writes : take (length (lines_of range)) (request_call s.copy round.out) ≡ lines_of range
  pub in_two : length round.events ≡ 2

-- one that completes the copy
pub record Completes (file : List ℕ) (s : Session) (range : String) : Type 0 where
  pub takes : TakesRange file s range
  pub complete : Complete (after_round file tag s takes.round)
  pub whole : (after_round file tag s takes.round).buffer ≡ file

-- Every kind of call.

abbrev pub digits : List ℕ
digits = codes "0123456789"

abbrev pub multipart : List ℕ
multipart = reply digits (wants "bytes=0-2,6-7")

-- our multipart: split in its head, an empty piece, split in the first part's data, broken off in the second part's lines; in between a request into no room
-- and one that is written
abbrev pub broken : List Event
broken = piece (take 100 multipart) ∷ ask [] ∷ piece [] ∷ piece (take 76 (drop 100 multipart)) ∷ ask (dots 50) ∷ piece (take 14 (drop 176 multipart)) ∷ []

-- an answer under another tag
abbrev pub another : List Event
another = piece (codes "HTTP/1.1 200 OK\r\nETag: \"k2\"\r\nContent-Length: 10\r\n\r\nabcdefghij") ∷ []

-- our 200, broken off behind five bytes of the file
abbrev pub front : List Event
front = piece (take 82 (reply digits wants_all)) ∷ []

-- our 416
abbrev pub beyond : List Event
beyond = piece (reply digits (wants "bytes=10-")) ∷ []

-- our plain 206 with a Last-Modified, split in the line of its date
abbrev pub plain : List Event
plain = piece (take 80 (dated_reply digits (wants "bytes=8-8"))) ∷ piece (drop 80 (dated_reply digits (wants "bytes=8-8"))) ∷ []

-- these answers, behind a request into too little room and one that is written
abbrev pub calls : Calls
calls = record { asks = dots 10 ∷ dots 50 ∷ []; answers = broken ∷ another ∷ front ∷ beyond ∷ plain ∷ [] }

abbrev pub left : Session
left = run_calls calls (fresh_for digits)

pub record EveryKind : Type 0 where
  pub starts : Start digits tag (fresh_for digits)
  pub first : AnswerTo digits (wants "bytes=0-2,6-7") status206 (delivered broken)
  pub second : Other tag (delivered another)
  pub third : AnswerTo digits wants_all status200 (delivered front)
  pub fourth : AnswerTo digits (wants "bytes=10-") status416 (delivered beyond)
  pub fifth : AnswerTo digits (wants "bytes=8-8") status206 (delivered plain)
  -- demand 3 of these calls
  pub demand : Demand3 digits tag (fresh_for digits) calls
      (ours first.source, (foreign second, (ours third.source, (ours fourth.source, (ours fifth.source, tt)))))
  -- what they said
  pub asks : (run_asks calls.asks (begun (fresh_for digits))).said ≡ asked None ∷ asked (Some 20) ∷ []
  pub said : said_of calls.answers (run_asks calls.asks (fresh_for digits)) ≡
      (fed 14 More ∷ asked None ∷ fed 76 More ∷ fed 0 More ∷ asked (Some 20) ∷ fed 100 More ∷ [])
      ∷ (fed 50 (Refused 13) ∷ [])
      ∷ (fed 82 More ∷ [])
      ∷ (fed 84 Finished ∷ [])
      ∷ (fed 85 Finished ∷ fed 80 More ∷ [])
      ∷ []
  -- what the copy then holds
  pub runs : left.copy.runs ≡ run 0 4 ∷ run 8 8 ∷ []
  pub buffer : left.buffer ≡ codes "01234...8."
  -- and one whole answer completes it, as demand 3 says
  pub two : TwoAnswers digits tag left
  pub completes : Completes digits left "bytes=5-7,9-9"

-- A start that holds runs already: our answers over them, and pieces behind a refusal and behind a finish.

-- a copy of the ten digits with two runs held
abbrev pub two_held : Session
two_held = record { copy = record { tag = tag; length = 10; runs = run 0 2 ∷ run 6 7 ∷ [] }; buffer = codes "012...67.."; reader = fresh; said = [] }

-- an answer under another tag, refused at the end of its head; then pieces of its body, one of them empty
abbrev pub refused_then : List Event
refused_then =
    piece (codes "HTTP/1.1 200 OK\r\nETag: \"k2\"\r\nContent-Length: 10\r\n\r\nab") ∷ piece (codes "cde") ∷ piece [] ∷ piece (codes "fghij") ∷ []

-- a 416 with no tag, finished at the end of its head; then pieces, one of them empty, with bytes behind its end
abbrev pub finished_then : List Event
finished_then =
    piece (codes "HTTP/1.1 416 Range Not Satisfiable\r\nContent-Length: 0\r\n\r\n") ∷ piece (codes "HTTP/1.1 200 OK\r\nETag: \"k1\"\r\n") ∷ piece [] ∷ []

-- our 200, split in its data, and an empty piece behind it
abbrev pub whole : List Event
whole = piece (take 80 (reply digits wants_all)) ∷ piece (drop 80 (reply digits wants_all)) ∷ piece [] ∷ []

abbrev pub held_calls : Calls
held_calls = record { asks = dots 50 ∷ []; answers = refused_then ∷ front ∷ finished_then ∷ whole ∷ [] }

pub record RunsHeld : Type 0 where
  pub starts : Start digits tag two_held
  pub first : Other tag (delivered refused_then)
  pub second : AnswerTo digits wants_all status200 (delivered front)
  pub third : Other tag (delivered finished_then)
  pub fourth : AnswerTo digits wants_all status200 (delivered whole)
  pub demand : Demand3 digits tag two_held held_calls (foreign first, (ours second.source, (foreign third, (ours fourth.source, tt))))
  pub asks : (run_asks held_calls.asks (begun two_held)).said ≡ asked None ∷ []
  -- behind a refusal and behind a finish each piece takes nothing, and its report is the same
  pub said : said_of held_calls.answers (run_asks held_calls.asks two_held) ≡
      (fed 0 (Refused 13) ∷ fed 0 (Refused 13) ∷ fed 0 (Refused 13) ∷ fed 50 (Refused 13) ∷ [])
      ∷ (fed 82 More ∷ [])
      ∷ (fed 0 Finished ∷ fed 0 Finished ∷ fed 57 Finished ∷ [])
      ∷ (fed 0 Finished ∷ fed 7 Finished ∷ fed 80 More ∷ [])
      ∷ []
  -- the bytes of our first answer lengthen the first run; those of the second fill the holes
  pub longer : (run_calls (record { asks = []; answers = refused_then ∷ front ∷ [] }) two_held).copy.runs ≡ run 0 4 ∷ run 6 7 ∷ []
  pub runs : (run_calls held_calls two_held).copy.runs ≡ run 0 9 ∷ []
  pub buffer : (run_calls held_calls two_held).buffer ≡ digits
  pub complete : Complete (run_calls held_calls two_held)
