-- Demand 3 at the limits of specs, holes and runs, by their names: when one whole answer is not enough, and which byte makes too many runs.
use Rattle.std.specs.Prelude.{ℕ, suc, ◌+◌, ◌-◌, ◌*◌, ◌≤◌, ◌<◌, ◌≡◌, ◌↔◌, true, false, List, [], ◌∷◌, length, take, drop}
use Rattle.std.specs.Prelude.{None}
use Rattle.rules_server.specs.Limits.{max_specs, max_tag, max_file}
use Rattle.rules_server.specs.Octets.{codes}
use Rattle.rules_server.specs.Tags.{is_strong}
use Rattle.rules_server.specs.Status.{Request}
use Rattle.rules_server.specs.Answers.{Cell, from, own_then}
use Rattle.rules_server.specs.declared.Run.{Run}
use Rattle.rules_tablet.specs.Limits.{max_runs, max_holes}
use Rattle.rules_tablet.specs.Runs.{member, holes}
use Rattle.rules_tablet.specs.Requests.{request_text}
use Rattle.rules_tablet.specs.Calls.{request_lines}
use Rattle.rules_tablet.specs.declared.Stage.TheVariants.{Refused}
use Rattle.rules_demands.specs.Demand3Arrivals.{too_many}
use Rattle.rules_demands.specs.Demand3Sessions.{Event, delivered, Ours, ours, cells_of, Session, begun, run_events, run_calls}
use Rattle.rules_demands.specs.Demand3.{Start, held_at, taken_in, Round, after_round, Complete, OneMore}
use Rattle.rules_demands.specs.Demand3Corollary.{opened_session}
use Rattle.rules_demands.specs.Demand3Cases.{tag as case_tag}
use Rattle.rules_demands.specs.RequestReading.{request_in}
use Rattle.rules_demands.specs.AnchorSamples.{dots, repeat, singles}

-- a whole answer to the request that the copy has just written fills the first max_holes holes and no other; so it completes the copy exactly when there are no
-- more than these
pub record RoundFills (file tag : List ℕ) (s : Session) (r : Round file tag s) : Type 0 where
  pub left : holes (length file) (after_round file tag s r).copy.runs ≡ drop max_holes (holes (length file) s.copy.runs)
  pub completes : Complete (after_round file tag s r) ↔ (length (holes (length file) s.copy.runs) ≤ max_holes)

abbrev pub RoundFillsAlways : Type 0
RoundFillsAlways = (file tag : List ℕ) (s : Session) → Start file tag s → length s.copy.runs ≤ max_runs - 1 → (r : Round file tag s)
    → RoundFills file tag s r

-- neither the position nor one next to it is held
pub record Apart (rs : List Run) (p : ℕ) : Type 0 where
  pub own : member p rs ≡ false
  pub behind : member (suc p) rs ≡ false
  pub before : (q : ℕ) → suc q ≡ p → member q rs ≡ false

-- a position makes too many runs exactly when there are max_runs already and it is apart from them all
abbrev pub TooManyExactly : Type 0
TooManyExactly = (file tag : List ℕ) (s : Session) (p : ℕ) → Start file tag s → p < length file
    → (too_many max_runs (length file) p (held_at s) ≡ true) ↔ ((length s.copy.runs ≡ max_runs) × Apart s.copy.runs p)

-- Copies that our server's answers bring to these limits, from a fresh copy of any file that is long enough: every second position held.

-- a GET of k single positions two apart, from a on, as a tablet writes it
abbrev pub singly : List ℕ → ℕ → ℕ → Request
singly tag a k = request_in (request_text (singles a k) tag)

-- our whole answer to it, in the pieces of these calls
pub record SinglesFed (file tag : List ℕ) (a k : ℕ) (es : List Event) : Type 0 where
  pub source : Ours file tag (delivered es)
  pub is_to : source.request ≡ singly tag a k
  pub whole : source.rest ≡ []

-- a session behind answers in the pieces of these calls, from a fresh copy on
abbrev pub behind : (file tag buffer : List ℕ) → List (List Event) → Session
behind file tag buffer answers = run_calls (record { asks = []; answers = answers }) (opened_session tag (length file) buffer)

-- one hole more than a request asks for: each whole answer leaves the last hole, and each whole answer behind it completes the copy
pub record TwoNeededAt (file tag : List ℕ) (s : Session) : Type 0 where
  pub starts : Start file tag s
  pub runs : s.copy.runs ≡ singles 1 max_holes
  pub missing : holes (length file) s.copy.runs ≡ singles 0 (suc max_holes)
  pub lines : request_lines s.copy ≡ request_text (singles 0 max_holes) tag
  pub left : (r : Round file tag s) → holes (length file) (after_round file tag s r).copy.runs ≡ singles (2 * max_holes) 1
  pub lacks : (r : Round file tag s) → Complete (after_round file tag s r) → ⊥
  pub later : (r : Round file tag s) → OneMore file tag (after_round file tag s r)

abbrev pub TwoNeededAlways : Type 0
TwoNeededAlways = (file tag buffer : List ℕ) (es : List Event) → is_strong tag ≡ true → length tag ≤ max_tag → length file ≡ suc (2 * max_holes)
    → length buffer ≡ length file → SinglesFed file tag 1 max_holes es → TwoNeededAt file tag (behind file tag buffer (es ∷ []))

-- as many runs as there may be
pub record FullAt (file tag : List ℕ) (s : Session) : Type 0 where
  pub starts : Start file tag s
  pub runs : s.copy.runs ≡ singles 0 max_runs
  -- each position behind them that does not touch the last one makes too many
  pub more : (p : ℕ) → 2 * max_runs ≤ p → p < length file → too_many max_runs (length file) p (held_at s) ≡ true
  -- of an answer of ours whose first byte of the file has such a position just the bytes before it are taken; then the reader is refused by 16, the runs stay,
  -- and the session is a start again
  pub ends : (es : List Event) (o : Ours file tag (delivered es)) (front : List ℕ) (p b : ℕ) (rest : List Cell)
      → cells_of file tag (delivered es) (ours o) ≡ own_then front (from p b ∷ rest) → 2 * max_runs ≤ p → p < length file
      → (taken_in (run_events es (begun s)).said ≡ length front) × ((run_events es (begun s)).reader.stage ≡ Refused 16)
      × ((run_events es (begun s)).copy.runs ≡ singles 0 max_runs) × Start file tag (run_events es (begun s))
  -- our whole answer to a GET without a Range completes the copy, here and behind such an answer
  pub completes : (t : Session) → Start file tag t → t.copy.runs ≡ singles 0 max_runs → (es : List Event) (o : Ours file tag (delivered es))
      → o.request.range ≡ None → o.rest ≡ [] → Complete (run_events es (begun t))

abbrev pub FullAlways : Type 0
FullAlways = (file tag buffer : List ℕ) (es ds : List Event) → is_strong tag ≡ true → length tag ≤ max_tag → 2 * max_runs ≤ length file → length file ≤ max_file
    → length buffer ≡ length file → SinglesFed file tag 0 max_specs es → SinglesFed file tag (2 * max_specs) (max_runs - max_specs) ds
    → FullAt file tag (behind file tag buffer (es ∷ ds ∷ []))

-- Such answers, for files of digits: the premises can be met.

abbrev pub digits_file : ℕ → List ℕ
digits_file k = take k (repeat k (codes "0123456789"))

-- one byte more than twice the holes of a request; two more than twice the runs of a copy
abbrev pub odd_digits : List ℕ
odd_digits = digits_file (suc (2 * max_holes))

abbrev pub even_digits : List ℕ
even_digits = digits_file (2 * max_runs + 2)

-- an answer of ours whose first byte of the file has the position p
pub record FirstAt (file tag : List ℕ) (p : ℕ) : Type 0 where
  pub events : List Event
  pub source : Ours file tag (delivered events)
  pub front : List ℕ
  pub byte : ℕ
  pub rest : List Cell
  pub cells : cells_of file tag (delivered events) (ours source) ≡ own_then front (from p byte ∷ rest)

-- our whole answer to a GET without a Range
pub record WholeFed (file tag : List ℕ) : Type 0 where
  pub events : List Event
  pub source : Ours file tag (delivered events)
  pub unranged : source.request.range ≡ None
  pub whole : source.rest ≡ []

-- the session behind an answer
abbrev pub odd_behind : List Event → Session
odd_behind es = behind odd_digits case_tag (dots (length odd_digits)) (es ∷ [])

pub record LimitsReached : Type 0 where
  pub odd : List Event
  pub odd_fed : SinglesFed odd_digits case_tag 1 max_holes odd
  pub two : TwoNeededAt odd_digits case_tag (odd_behind odd)
  -- two whole answers, behind which the buffer is the file
  pub first : Round odd_digits case_tag (odd_behind odd)
  pub second : Round odd_digits case_tag (after_round odd_digits case_tag (odd_behind odd) first)
  pub whole : (after_round odd_digits case_tag (after_round odd_digits case_tag (odd_behind odd) first) second).buffer ≡ odd_digits
  pub lower : List Event
  pub lower_fed : SinglesFed even_digits case_tag 0 max_specs lower
  pub upper : List Event
  pub upper_fed : SinglesFed even_digits case_tag (2 * max_specs) (max_runs - max_specs) upper
  pub full : FullAt even_digits case_tag (behind even_digits case_tag (dots (length even_digits)) (lower ∷ upper ∷ []))
  pub apart : FirstAt even_digits case_tag (2 * max_runs)
  pub all : WholeFed even_digits case_tag
