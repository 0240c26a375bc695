-- What a copy takes of an acceptable answer: its data agrees with what is held and with its own earlier data, and the limit of runs is never passed.
use Rattle.std.specs.Prelude.{ℕ, ◌≤◌, ◌≡◌, true, false, List, [], ◌∷◌, length, get_or, set}
use Rattle.rules_server.specs.Limits.{max_tag}
use Rattle.rules_server.specs.Octets.{is_nil}
use Rattle.rules_server.specs.Answers.{Cell, own, from}
use Rattle.rules_tablet.specs.Runs.{member, insert, WellFormed}
use Rattle.rules_tablet.specs.Calls.{fresh}
use Rattle.rules_tablet.specs.Feeding.{Held, feed}
use Rattle.rules_tablet.specs.declared.Stage.TheVariants.{Finished}
use Rattle.rules_demands.specs.AcceptanceGrammar.{Acceptable}

-- bytes with their positions, taken one after the other: "A byte for a held position must equal it", and storing another makes at most lim runs; what is held
-- behind them
pub data Agrees (lim : ℕ) : Held → List Cell → Held → Type 0 where
  done : {h last : Held} {cells : List Cell} → cells ≡ [] → last ≡ h → Agrees lim h cells last
  framing : {h last : Held} {cells : List Cell} (b : ℕ) (rest : List Cell) → cells ≡ own b ∷ rest → Agrees lim h rest last → Agrees lim h cells last
  again : {h last : Held} {cells : List Cell} (p b : ℕ) (rest : List Cell) → cells ≡ from p b ∷ rest → member p h.runs ≡ true → get_or h.bytes p 0 ≡ b
      → Agrees lim h rest last → Agrees lim h cells last
  new : {h last : Held} {cells : List Cell} (p b : ℕ) (rest : List Cell) → cells ≡ from p b ∷ rest → member p h.runs ≡ false
      → length (insert p h.runs) ≤ lim
      → Agrees lim (record { runs = insert p h.runs; bytes = set h.bytes p b }) rest last → Agrees lim h cells last

-- a fresh reader fed a whole answer takes all of it and has finished, and then this is held
pub record TakesWhole (lim : ℕ) (tag : List ℕ) (n : ℕ) (h : Held) (bytes : List ℕ) (last : Held) : Type 0 where
  pub all : (feed lim tag n bytes (record { held = h; parser = fresh })).taken ≡ length bytes
  pub ends : (feed lim tag n bytes (record { held = h; parser = fresh })).tablet.parser.stage ≡ Finished
  pub holds : (feed lim tag n bytes (record { held = h; parser = fresh })).tablet.held ≡ last

-- an acceptable answer whose data agrees is taken whole
abbrev pub AcceptableTaken : Type 0
AcceptableTaken =
    (lim : ℕ) (tag : List ℕ) (n : ℕ) (h last : Held) (bytes : List ℕ) (cells : List Cell) → length tag ≤ max_tag → Acceptable tag n bytes cells
    → Agrees lim h cells last
    → TakesWhole lim tag n h bytes last

-- an answer that is taken whole is acceptable, and its data agrees
pub record TakenAcceptable (lim : ℕ) (tag : List ℕ) (n : ℕ) (h last : Held) (bytes : List ℕ) : Type 0 where
  pub cells : List Cell
  pub acceptable : Acceptable tag n bytes cells
  pub agrees : Agrees lim h cells last

-- of every answer
abbrev pub OnlyAcceptableTaken : Type 0
OnlyAcceptableTaken =
    (lim : ℕ) (tag : List ℕ) (n : ℕ) (h last : Held) (bytes : List ℕ) → is_nil tag ≡ false → length tag ≤ max_tag → TakesWhole lim tag n h bytes last
    → TakenAcceptable lim tag n h last bytes

-- each byte with a position stands there, and the position is held
abbrev pub Stands : Held → List Cell → Type 0
Stands last [] = Unit {0}
Stands last (own b ∷ cells) = Stands last cells
Stands last (from p b ∷ cells) = ((member p last.runs ≡ true) × (get_or last.bytes p 0 ≡ b)) × Stands last cells

-- of an acceptable answer whose data agrees, for a copy with well-formed runs and room for n bytes
abbrev pub BytesStand : Type 0
BytesStand =
    (lim : ℕ) (tag : List ℕ) (n : ℕ) (h last : Held) (bytes : List ℕ) (cells : List Cell) → WellFormed 0 n h.runs → n ≤ length h.bytes
    → Acceptable tag n bytes cells → Agrees lim h cells last
    → Stands last cells
