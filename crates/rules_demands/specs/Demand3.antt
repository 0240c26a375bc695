-- Demand 3: one statement over a whole list of calls on one copy, over both ends. Its right-hand side names neither the reader's parser nor the insertion into
-- runs: positions come from the server's answers, runs from the maximal runs of a set.
use Rattle.std.specs.Prelude.{ℕ, ◌+◌, ◌-◌, ◌≤◌, ◌<◌, ◌≡◌, ◌↔◌, ◌⊎◌, true, false, List, [], ◌∷◌, ℤ, length, get_or}
use Rattle.std.specs.Prelude.{Option, None, Some}
use Rattle.rules_server.specs.Tags.{is_strong}
use Rattle.rules_server.specs.Status.{LastModified}
use Rattle.rules_server.specs.Answers.{answer, bytes_of}
use Rattle.rules_server.specs.Refusals.{refusal}
use Rattle.rules_tablet.specs.Limits.{max_runs}
use Rattle.rules_tablet.specs.Runs.{member, maximal_runs}
use Rattle.rules_tablet.specs.Calls.{copy_ok, request_refusal, request_lines, request_call, complete_call}
use Rattle.rules_tablet.specs.declared.Report.TheVariants.{More, Finished, Refused}
use Rattle.rules_demands.specs.Demand3Arrivals.{Set, arrive, admitted}
use Rattle.rules_demands.specs.Demand3Sessions.{Event, Calls, delivered, Source, ours, Sources, cells_of, Said, fed, asked, Session}
use Rattle.rules_demands.specs.Demand3Sessions.{run_events, begun, run_asks, run_calls, resource_of}
use Rattle.rules_demands.specs.RequestReading.{request_in}

-- a copy opened under the file's strong tag and length, whose held bytes are all the file's; the other bytes of its buffer are any
pub record Start (file tag : List ℕ) (s : Session) : Type 0 where
  pub rule : copy_ok s.copy ≡ true
  pub strong : is_strong tag ≡ true
  pub under_tag : s.copy.tag ≡ tag
  pub of_length : s.copy.length ≡ length file
  pub buffer_length : length s.buffer ≡ length file
  pub right : (p : ℕ) → member p s.copy.runs ≡ true → get_or s.buffer p 0 ≡ get_or file p 0

-- the held positions at first
abbrev pub held_at : Session → Set
held_at s p = member p s.copy.runs

-- the held positions after the answers of a list
abbrev pub held_after : (file tag : List ℕ) (answers : List (List Event)) → Sources file tag answers → Set → Set
held_after file tag [] ss set = set
held_after file tag (es ∷ answers) ss set = held_after file tag answers ss.1 (arrive max_runs (length file) (cells_of file tag (delivered es) ss.0) set)

-- how many bytes were taken
abbrev pub taken_in : List Said → ℕ
taken_in [] = 0
taken_in (fed k r ∷ said) = k + taken_in said
taken_in (asked o ∷ said) = taken_in said

abbrev pub EachSaid : (Said → Type 0) → List Said → Type 0
EachSaid P [] = Unit {0}
EachSaid P (x ∷ said) = P x × EachSaid P said

-- 19 never occurs
abbrev pub Not19 : Said → Type 0
Not19 (fed k r) = r ≡ Refused 19 → ⊥
Not19 (asked o) = o ≡ Some 19 → ⊥

-- of our answers: more, finished or 16
abbrev pub OursSays : Said → Type 0
OursSays (fed k r) = (r ≡ More) ⊎ ((r ≡ Finished) ⊎ (r ≡ Refused 16))
OursSays (asked o) = Unit {0}

-- what the calls of one answer said, from a held set: 19 never; of ours only more, finished or 16, and each byte taken before the one that makes too many runs
pub record Told (file tag bytes : List ℕ) (x : Source file tag bytes) (set : Set) (said : List Said) : Type 0 where
  pub never : EachSaid Not19 said
  pub says : (o : _) → x ≡ ours o → EachSaid OursSays said
  pub takes : (o : _) → x ≡ ours o → taken_in said ≡ admitted max_runs (length file) (cells_of file tag bytes x) set

-- every answer of the list, from the session as the calls before it left it
abbrev pub ToldAll : (file tag : List ℕ) (answers : List (List Event)) → Sources file tag answers → Set → Session → Type 0
ToldAll file tag [] ss set s = Unit {0}
ToldAll file tag (es ∷ answers) ss set s =
    Told file tag (delivered es) ss.0 set (run_events es (begun s)).said
    × ToldAll file tag answers ss.1 (arrive max_runs (length file) (cells_of file tag (delivered es) ss.0) set) (run_events es (begun s))

-- the session e after the calls, against the session s before them and the set of positions that arrived
pub record Kept (file tag : List ℕ) (s : Session) (set : Set) (e : Session) : Type 0 where
  -- the copy's runs are the maximal runs of these positions
  pub runs : e.copy.runs ≡ maximal_runs (length file) set
  -- each held byte is the file's, every other byte of the buffer is as it was
  pub right : (p : ℕ) → p < length file → set p ≡ true → get_or e.buffer p 0 ≡ get_or file p 0
  pub others : (p : ℕ) → set p ≡ false → get_or e.buffer p 0 ≡ get_or s.buffer p 0
  pub buffer_length : length e.buffer ≡ length s.buffer
  pub tag_kept : e.copy.tag ≡ s.copy.tag
  pub length_kept : e.copy.length ≡ s.copy.length
  -- complete exactly when no position of the file is missing
  pub complete : (complete_call e.copy ≡ Some true) ↔ ((p : ℕ) → p < length file → set p ≡ true)
  pub incomplete : complete_call e.copy ≡ None → ⊥
  -- the end is such a start again
  pub again : Start file tag e

-- one whole answer to a GET with just the request that the copy has just written, fed in any splitting
pub record Round (file tag : List ℕ) (s : Session) : Type 0 where
  pub out : List ℕ
  pub asks : request_refusal s.copy (length out) ≡ None
  pub media : List ℕ
  pub boundary : List ℕ
  pub modified : Option LastModified
  pub reference : ℤ
  pub room : ℕ
  pub answered : refusal (request_in (request_call s.copy out)) (resource_of file tag media boundary modified reference) room ≡ None
  pub events : List Event
  pub fully : delivered events ≡ bytes_of (answer (request_in (request_call s.copy out)) (resource_of file tag media boundary modified reference))

abbrev pub after_round : (file tag : List ℕ) (s : Session) → Round file tag s → Session
after_round file tag s r = run_events r.events (begun s)

abbrev pub Complete : Session → Type 0
Complete s = complete_call s.copy ≡ Some true

-- a request is written into any buffer that is long enough, and a whole answer to it completes the copy
pub record OneMore (file tag : List ℕ) (s : Session) : Type 0 where
  pub written : (out : List ℕ) → length (request_lines s.copy) ≤ length out → request_refusal s.copy (length out) ≡ None
  pub completes : (r : Round file tag s) → Complete (after_round file tag s r)

-- "at most two whole answers .. complete it"; until then a request is written into any buffer that is long enough
pub record TwoAnswers (file tag : List ℕ) (s : Session) : Type 0 where
  pub says18 : (out : List ℕ) → (request_refusal s.copy (length out) ≡ Some 18) ↔ Complete s
  pub written : (out : List ℕ) → (Complete s → ⊥) → length (request_lines s.copy) ≤ length out → request_refusal s.copy (length out) ≡ None
  pub two : (r : Round file tag s) → Complete (after_round file tag s r) ⊎ OneMore file tag (after_round file tag s r)

pub record Demand3 (file tag : List ℕ) (s : Session) (cs : Calls) (ss : Sources file tag cs.answers) : Type 0 where
  pub kept : Kept file tag s (held_after file tag cs.answers ss (held_at s)) (run_calls cs s)
  pub told : ToldAll file tag cs.answers ss (held_at s) (run_asks cs.asks s)
  pub asks_never : EachSaid Not19 (run_asks cs.asks (begun s)).said
  pub two : length (run_calls cs s).copy.runs ≤ max_runs - 1 → TwoAnswers file tag (run_calls cs s)

-- the demand
abbrev pub Demand3Holds : Type 0
Demand3Holds = (file tag : List ℕ) (s : Session) (cs : Calls) (ss : Sources file tag cs.answers) → Start file tag s → Demand3 file tag s cs ss
