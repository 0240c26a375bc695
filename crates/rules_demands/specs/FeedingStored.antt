-- What feeding does with bytes that the parser follows, and with an answer under another tag.
use Rattle.std.specs.Prelude.{ℕ, ◌≤◌, ◌<◌, ◌≡◌, ◌⊎◌, true, false, List, [], ◌∷◌, ◌++◌, map, length, get_or}
use Rattle.rules_server.specs.Tags.{is_strong}
use Rattle.rules_server.specs.Answers.{Cell, own, from, byte_of}
use Rattle.rules_tablet.specs.Runs.{maximal_runs}
use Rattle.rules_tablet.specs.Feeding.{Held, Tablet, Fed, feed}
use Rattle.rules_tablet.specs.Calls.{fresh}
use Rattle.rules_tablet.specs.declared.Stage.TheVariants.{Refused}
use Rattle.rules_demands.specs.Demand3Arrivals.{Set, arrive, admitted}
use Rattle.rules_demands.specs.Demand3Foreign.{under_another}
use Rattle.rules_demands.specs.FeedingFollowed.{Tracks, after}

-- the bytes of the file at their positions
abbrev pub RightCell : List ℕ → Cell → Type 0
RightCell file (own b) = Unit {0}
RightCell file (from p b) = (p < length file) × (b ≡ get_or file p 0)

abbrev pub RightCells : List ℕ → List Cell → Type 0
RightCells file [] = Unit {0}
RightCells file (c ∷ cs) = RightCell file c × RightCells file cs

-- what is held is a set of the file's positions, with the file's bytes
pub record Holds (file : List ℕ) (set : Set) (h : Held) : Type 0 where
  pub runs : h.runs ≡ maximal_runs (length file) set
  pub room : length h.bytes ≡ length file
  pub right : (p : ℕ) → p < length file → set p ≡ true → get_or h.bytes p 0 ≡ get_or file p 0

-- after cells that the parser follows: the set of the rule on sets; the other bytes as before; what was taken; the parser at its place, or refused by 16
pub record StoresCells (lim : ℕ) (file tag : List ℕ) (cells : List Cell) (set : Set) (t : Tablet) (r : Fed) : Type 0 where
  pub holds : Holds file (arrive lim (length file) cells set) r.tablet.held
  pub others : (p : ℕ) → arrive lim (length file) cells set p ≡ false → get_or r.tablet.held.bytes p 0 ≡ get_or t.held.bytes p 0
  pub taken : r.taken ≡ admitted lim (length file) cells set
  pub place : (r.tablet.parser ≡ after tag (length file) t.parser cells) ⊎ (r.tablet.parser.stage ≡ Refused 16)
  pub all : admitted lim (length file) cells set ≡ length cells → r.tablet.parser ≡ after tag (length file) t.parser cells
  pub cut : admitted lim (length file) cells set < length cells → r.tablet.parser.stage ≡ Refused 16

-- from a set of at most lim runs
abbrev pub TakesAlways : Type 0
TakesAlways = (lim : ℕ) (file tag : List ℕ) (cells : List Cell) (set : Set) (t : Tablet)
    → Holds file set t.held → length (maximal_runs (length file) set) ≤ lim → Tracks tag (length file) t.parser cells → RightCells file cells
    → StoresCells lim file tag cells set t (feed lim tag (length file) (map byte_of cells) t)

-- an answer under another tag leaves what is held and the buffer as they were
abbrev pub ForeignAlways : Type 0
ForeignAlways = (lim : ℕ) (tag : List ℕ) (n : ℕ) (bytes rest : List ℕ) (h : Held) → is_strong tag ≡ true → under_another tag (bytes ++ rest) ≡ true
    → (feed lim tag n bytes (record { held = h; parser = fresh })).tablet.held ≡ h
