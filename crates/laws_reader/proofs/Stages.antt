-- Laws of stages by a test of them, or by their numbers in the enum as an arm of a match is told them: one row for each stage, in the enum's order.
-- Assumes nothing.
use Prim.Native.Nat.{ℕ}
use mathlib.Core.Bool.{Bool, true, false, not, false≢true}
use mathlib.Core.List.{List}
use Rattle.std.specs.Prelude.{Option, None, Some}
use mathlib.Core.Path.{◌≡◌, refl}
use lib.Dec.{T}
use mir.Val.{has_key}
use denote.Enum.Declared.{tag_of}
use types.Run.{OneOf, miss}
use Rattle.rules_tablet.specs.contracts.Stage.{the_type}
use Rattle.rules_tablet.specs.Parsers.{is_refused, event}
use Rattle.rules_tablet.specs.declared.Stage.{Stage}
use Rattle.rules_tablet.specs.declared.Stage.TheVariants.{Status, Fields, Plain, Skip, Preamble, PreambleEnd, FirstDelimiter, Delimiter, AfterFirstDelimiter}
use Rattle.rules_tablet.specs.declared.Stage.TheVariants.{AfterDelimiter, PartBegin, Closing, PartLine, Data, Epilogue, Finished, Refused}

-- what is asked of a stage that meets the test, and nothing of the others
abbrev pub Row : Bool → Type 0 → Type 0
Row true A = A
Row false A = Unit {0}

-- a row for each stage
abbrev pub Rows : (Stage → Bool) → (Stage → Type 0) → Type 0
Rows f P =
    Row (f Status) (P Status)
    × Row (f Fields) (P Fields)
    × ((next : ℕ) → Row (f (Plain next)) (P (Plain next)))
    × Row (f Skip) (P Skip)
    × ((k : ℕ) → Row (f (Preamble k)) (P (Preamble k)))
    × ((k : ℕ) → Row (f (PreambleEnd k)) (P (PreambleEnd k)))
    × ((i : ℕ) → Row (f (FirstDelimiter i)) (P (FirstDelimiter i)))
    × ((i : ℕ) → Row (f (Delimiter i)) (P (Delimiter i)))
    × Row (f AfterFirstDelimiter) (P AfterFirstDelimiter)
    × Row (f AfterDelimiter) (P AfterDelimiter)
    × Row (f PartBegin) (P PartBegin)
    × Row (f Closing) (P Closing)
    × Row (f PartLine) (P PartLine)
    × ((next left : ℕ) → Row (f (Data next left)) (P (Data next left)))
    × Row (f Epilogue) (P Epilogue)
    × Row (f Finished) (P Finished)
    × ((k : ℕ) → Row (f (Refused k)) (P (Refused k)))

-- the row of a stage that meets the test
asked : {A : Type 0} (b : Bool) → Row b A → b ≡ true → A
asked true a e = a
asked false a e = absurd (false≢true e)

-- what the rows say holds of every stage that meets the test
pub where_met : (f : Stage → Bool) (P : Stage → Type 0) → Rows f P → (s : Stage) → f s ≡ true → P s
where_met f P r Status e = asked _ r.0 e
where_met f P r Fields e = asked _ r.1 e
where_met f P r (Plain next) e = asked _ (r.2 next) e
where_met f P r Skip e = asked _ r.3 e
where_met f P r (Preamble k) e = asked _ (r.4 k) e
where_met f P r (PreambleEnd k) e = asked _ (r.5 k) e
where_met f P r (FirstDelimiter i) e = asked _ (r.6 i) e
where_met f P r (Delimiter i) e = asked _ (r.7 i) e
where_met f P r AfterFirstDelimiter e = asked _ r.8 e
where_met f P r AfterDelimiter e = asked _ r.9 e
where_met f P r PartBegin e = asked _ r.10 e
where_met f P r Closing e = asked _ r.11 e
where_met f P r PartLine e = asked _ r.12 e
where_met f P r (Data next left) e = asked _ (r.13 next left) e
where_met f P r Epilogue e = asked _ r.14 e
where_met f P r Finished e = asked _ r.15 e
where_met f P r (Refused k) e = asked _ (r.16 k) e

-- the stage's number is among these
abbrev pub has_number : List ℕ → Stage → Bool
has_number keys s = has_key keys (tag_of the_type s)

-- a number that an arm of a match is told is among the arm's
among : (keys : List ℕ) (k : ℕ) → OneOf keys k → has_key keys k ≡ true
among keys k h = decided (has_key keys k) (λ m. miss keys k m h)
  where
    decided : (b : Bool) → (T (not b) → ⊥) → b ≡ true
    decided true n = refl
    decided false n = absurd (n tt)

-- what the rows say holds of every stage of the arm
pub by_number : (keys : List ℕ) (P : Stage → Type 0) → Rows (has_number keys) P → (s : Stage) → OneOf keys (tag_of the_type s) → P s
by_number keys P r s h = where_met (has_number keys) P r s (among keys (tag_of the_type s) h)

-- what the rows say of all stages
pub each : (P : Stage → Type 0) → Rows (λ s. true) P → (s : Stage) → P s
each P r s = where_met (λ x. true) P r s refl

-- what holds of every refusal holds of a refused stage
pub by_refusal : (P : Stage → Type 0) → ((k : ℕ) → P (Refused k)) → (s : Stage) → is_refused s ≡ true → P s
by_refusal P r =
    where_met is_refused P (tt, tt, λ next. tt, tt, λ k. tt, λ k. tt, λ i. tt, λ i. tt, tt, tt, tt, tt, tt, λ next left. tt, tt, tt, r)

-- whether the byte is data at a position
abbrev pub has_position : Option ℕ → Bool
has_position None = false
has_position (Some next) = true

-- what holds of both stages of data holds where the next byte is data
pub by_data : (P : Stage → Type 0) → ((next : ℕ) → P (Plain next)) → ((next left : ℕ) → P (Data next left))
    → (s : Stage) → has_position (event s) ≡ true → P s
by_data P plain part =
    where_met (λ x. has_position (event x)) P
    (tt, tt, plain, tt, λ k. tt, λ k. tt, λ i. tt, λ i. tt, tt, tt, tt, tt, tt, part, tt, tt, λ k. tt)
