-- Demand 2, the server's half: which status and reason, and which bytes of the file are sent, as sets of positions.
use Rattle.std.specs.Prelude.{ℕ, ◌≤◌, ◌<◌, ◌≡◌, ◌↔◌, ◌⊎◌, Bool, false, not, cond, ltb, eqb, length, get_or, drop}
use mathlib.Core.List.{List, [], ◌∷◌, ◌++◌, Memᴰ}
use Rattle.std.specs.Prelude.{None, Some}
use Rattle.rules_server.specs.Limits.{max_range, max_specs}
use Rattle.rules_server.specs.Octets.{codes, same}
use Rattle.rules_server.specs.Texts.{get, head}
use Rattle.rules_server.specs.Ranges.{ByteSpec, Reading, read_range, specs_of, invalid, satisfiable, any_spec}
use Rattle.rules_server.specs.Status.{Request, Resource, Row, failing, is_absent, is_other_unit, is_malformed, range_value, decide, status_of}
use Rattle.rules_server.specs.Answers.{Cell, from, from_then, ok_answer, unsatisfied_answer, answer, bytes_of, parts_for, partial_answer}
use Rattle.rules_server.specs.Refusals.{refusal, outcome, written_as, output}
use Rattle.rules_server.specs.declared.Run.{Run}
use Rattle.rules_server.specs.declared.Reason.{Reason}
use Rattle.rules_server.specs.declared.Reason.TheVariants.{Head, None as NoRange, Long, Unit as OtherUnit, Malformed, Many, ChangedFile, Invalid}
use Rattle.rules_server.specs.declared.Reason.TheVariants.{Unsatisfiable, Empty}
use Rattle.rules_server.specs.declared.Reason.TheVariants.{Partial}
use Rattle.rules_demands.specs.FirstRows.{FirstHolds, NoneHolds}
use Rattle.rules_demands.specs.GrammarRange.{RangeText}
use Rattle.rules_demands.specs.Positions.{Asked, Backward, Satisfiable, NonzeroSuffix, Some as SomeSpec, positions, times, Each, Pairs, Covers, RunIn, Separate}
use Rattle.rules_demands.specs.Positions.{EarliestAt}

-- the table of statuses, for a request q whose Range reads as x, and a resource f: each row with its reason
abbrev pub status_rows : Request → Reading → Resource → List Row
status_rows q x f =
    record { applies = same q.method head; reason = Head }
    ∷ record { applies = is_absent q.range; reason = NoRange }
    ∷ record { applies = ltb max_range (length (range_value q)); reason = Long }
    ∷ record { applies = is_other_unit x; reason = OtherUnit }
    ∷ record { applies = is_malformed x; reason = Malformed }
    ∷ record { applies = ltb max_specs (length (specs_of x)); reason = Many }
    ∷ record { applies = failing q.if_range f; reason = ChangedFile }
    ∷ record { applies = any_spec invalid (specs_of x); reason = Invalid }
    ∷ record { applies = not (any_spec (satisfiable (length f.file)) (specs_of x)); reason = Unsatisfiable }
    ∷ record { applies = eqb (length f.file) 0; reason = Empty }
    ∷ []

abbrev pub status_table : Request → Resource → List Row
status_table q f = status_rows q (read_range (range_value q)) f

-- the test of a row
abbrev pub applying : Row → Bool
applying r = r.applies

-- the first row that applies carries the reason x
pub record FirstReason (rows : List Row) (x : Reason) : Type 0 where
  pub row : Row
  pub first : FirstHolds applying rows row
  pub carries : row.reason ≡ x

-- the status line of a status
abbrev pub status_text : ℕ → List ℕ
status_text k =
    cond (eqb k 200) (codes "HTTP/1.1 200 OK") (cond (eqb k 206) (codes "HTTP/1.1 206 Partial Content") (codes "HTTP/1.1 416 Range Not Satisfiable"))

-- each reason but that of a 206 exactly when the first row that applies carries it, and that of a 206 exactly when none applies; the answer carries the
-- reason's status line, and a 200 the whole file unless HEAD asked
pub record Decided (q : Request) (f : Resource) : Type 0 where
  pub sent : (answer q f).status ≡ status_text (status_of (decide q f))
  pub whole : status_of (decide q f) ≡ 200 → (decide q f ≡ Head → ⊥) → answer q f ≡ ok_answer f (from_then 0 f.file [])
  pub head_only : decide q f ≡ Head → answer q f ≡ ok_answer f []
  pub exactly : (x : Reason) → (x ≡ Partial → ⊥) → (decide q f ≡ x) ↔ FirstReason (status_table q f) x
  pub partly : (decide q f ≡ Partial) ↔ NoneHolds applying (status_table q f)

-- "a GET .. with a well-formed Range within our limits and no failing If-Range": the grammar of Range derives these specs from the trimmed value
pub record Wanted (q : Request) (f : Resource) (v : List ℕ) (ss : List ByteSpec) : Type 0 where
  pub is_get : q.method ≡ get
  pub ranged : q.range ≡ Some v
  pub short : length (range_value q) ≤ max_range
  pub well_formed : RangeText (range_value q) ss
  pub few : length ss ≤ max_specs
  pub unfailing : failing q.if_range f ≡ false

-- a body that carries just the bytes asked for
pub record Carries (file : List ℕ) (ss : List ByteSpec) (body : List Cell) : Type 0 where
  -- a position is sent exactly when a spec asks for it
  pub asked : (p : ℕ) → Memᴰ p (positions body) → Asked (length file) ss p
  pub sent : (p : ℕ) → Asked (length file) ss p → Memᴰ p (positions body)
  -- each once
  pub once : (p : ℕ) → times p (positions body) ≤ 1
  -- each byte is the file's at its position
  pub right : (p b : ℕ) → Memᴰ (from p b) body → (p < length file) × (b ≡ get_or file p 0)

-- the parts: maximal runs of the positions asked for, in the order of the earliest spec inside each
pub record Parted (n : ℕ) (ss : List ByteSpec) (rs : List Run) : Type 0 where
  pub some : rs ≡ [] → ⊥
  pub runs : Each (RunIn n) rs
  pub separate : Pairs Separate rs
  -- a position lies in a part exactly when a spec asks for it
  pub covers : (p : ℕ) → Covers p rs ↔ Asked n ss p
  pub inside : Each (λ (r : Run). (i : ℕ) × EarliestAt n r ss i) rs
  pub ordered : Pairs (λ (r s : Run). (i j : ℕ) → EarliestAt n r ss i → EarliestAt n s ss j → i < j) rs

pub record Demand2 (q : Request) (f : Resource) (ss : List ByteSpec) : Type 0 where
  -- "that no refusal stops": what is said is the decision, and what is written is the answer, of which the others speak
  pub said : (out : List ℕ) → refusal q f (length out) ≡ None →
      (outcome q f (length out) ≡ written_as (decide q f) (status_of (decide q f)) (length (bytes_of (answer q f))))
      × (output q f out ≡ bytes_of (answer q f) ++ drop (length (bytes_of (answer q f))) out)
  -- "416 exactly when some range ends before it begins or none is satisfiable"
  pub refused : (status_of (decide q f) ≡ 416) ↔ (SomeSpec Backward ss ⊎ (SomeSpec (Satisfiable (length f.file)) ss → ⊥))
  pub unsatisfied : status_of (decide q f) ≡ 416 → answer q f ≡ unsatisfied_answer (length f.file)
  -- "or 200 where that 206 would be of an empty file": the file's 200, without a byte behind its head
  pub empty : (status_of (decide q f) ≡ 416 → ⊥) → length f.file ≡ 0 →
      (decide q f ≡ Empty) × (status_of (decide q f) ≡ 200) × (answer q f ≡ ok_answer f [])
  -- which is "asked for a nonzero suffix", no range ending before it begins
  pub suffixed : length f.file ≡ 0 → (decide q f ≡ Empty) ↔ (SomeSpec NonzeroSuffix ss × (SomeSpec Backward ss → ⊥))
  -- "otherwise 206 with the satisfiable bytes and no others"
  pub partial : (status_of (decide q f) ≡ 416 → ⊥) → (length f.file ≡ 0 → ⊥) →
      (decide q f ≡ Partial)
      × (status_of (decide q f) ≡ 206)
      × (answer q f ≡ partial_answer f (parts_for q f))
      × Carries f.file ss (answer q f).body
      × Parted (length f.file) ss (parts_for q f)

-- the statements: Decided of every request; Demand2 of each that is Wanted
abbrev pub DecidedAlways : Type 0
DecidedAlways = (q : Request) (f : Resource) → Decided q f

abbrev pub Demand2Holds : Type 0
Demand2Holds = (q : Request) (f : Resource) (v : List ℕ) (ss : List ByteSpec) → Wanted q f v ss → Demand2 q f ss
