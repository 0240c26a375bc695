-- Feeding an answer from a fresh reader: at which byte it is refused and with which number, and when it is not.
use Rattle.std.specs.Prelude.{ℕ, ◌≤◌, ◌≡◌, ◌↔◌, false, List, ◌∷◌, ◌++◌, map, length}
use Rattle.rules_server.specs.Limits.{max_tag}
use Rattle.rules_server.specs.Octets.{is_nil}
use Rattle.rules_server.specs.Answers.{Cell, byte_of}
use Rattle.rules_tablet.specs.Feeding.{Held, Fed, is_over, feed}
use Rattle.rules_tablet.specs.Calls.{fresh}
use Rattle.rules_tablet.specs.declared.Stage.TheVariants.{Finished, Refused}
use Rattle.rules_demands.specs.AcceptanceByCopy.{Agrees, TakenAcceptable}
use Rattle.rules_demands.specs.RefusalFronts.{Front, Refuses}

-- an answer is refused by k at its byte number i (the first is 0), and `last` is held: the bytes before it are a front whose data agrees, and the byte is
-- refused there
pub record RefusedAt (lim : ℕ) (tag : List ℕ) (n : ℕ) (h : Held) (bytes : List ℕ) (i k : ℕ) (last : Held) : Type 0 where
  pub cells : List Cell
  pub byte : ℕ
  pub rest : List ℕ
  pub front : Front tag n cells
  pub agrees : Agrees lim h cells last
  pub why : Refuses lim tag n last cells front byte k
  pub text : bytes ≡ map byte_of cells ++ (byte ∷ rest)
  pub place : length cells ≡ i

-- an answer so far goes on, and `last` is held: it is a front whose data agrees
pub record GoesOn (lim : ℕ) (tag : List ℕ) (n : ℕ) (h : Held) (bytes : List ℕ) (last : Held) : Type 0 where
  pub cells : List Cell
  pub front : Front tag n cells
  pub agrees : Agrees lim h cells last
  pub text : bytes ≡ map byte_of cells

-- an answer has ended behind i bytes, and `last` is held: they are an acceptable answer whose data agrees
pub record EndedAt (lim : ℕ) (tag : List ℕ) (n : ℕ) (h : Held) (bytes : List ℕ) (i : ℕ) (last : Held) : Type 0 where
  pub answer : List ℕ
  pub rest : List ℕ
  pub whole : TakenAcceptable lim tag n h last answer
  pub text : bytes ≡ answer ++ rest
  pub place : length answer ≡ i

-- feeding these bytes to a fresh reader, where h is held
abbrev pub fed : ℕ → List ℕ → ℕ → Held → List ℕ → Fed
fed lim tag n h bytes = feed lim tag n bytes (record { held = h; parser = fresh })

-- feeding has refused by k, has taken i bytes and left `last` held
pub record FedRefused (lim : ℕ) (tag : List ℕ) (n : ℕ) (h : Held) (bytes : List ℕ) (i k : ℕ) (last : Held) : Type 0 where
  pub stage : (fed lim tag n h bytes).tablet.parser.stage ≡ Refused k
  pub taken : (fed lim tag n h bytes).taken ≡ i
  pub holds : (fed lim tag n h bytes).tablet.held ≡ last

-- feeding has taken all bytes and waits for more
pub record FedOn (lim : ℕ) (tag : List ℕ) (n : ℕ) (h : Held) (bytes : List ℕ) (last : Held) : Type 0 where
  pub stage : is_over (fed lim tag n h bytes).tablet.parser.stage ≡ false
  pub taken : (fed lim tag n h bytes).taken ≡ length bytes
  pub holds : (fed lim tag n h bytes).tablet.held ≡ last

-- feeding has finished behind i bytes
pub record FedEnded (lim : ℕ) (tag : List ℕ) (n : ℕ) (h : Held) (bytes : List ℕ) (i : ℕ) (last : Held) : Type 0 where
  pub stage : (fed lim tag n h bytes).tablet.parser.stage ≡ Finished
  pub taken : (fed lim tag n h bytes).taken ≡ i
  pub holds : (fed lim tag n h bytes).tablet.held ≡ last

-- each number is given exactly when, at its byte, and so are the two other reports
pub record Exactly (lim : ℕ) (tag : List ℕ) (n : ℕ) (h : Held) (bytes : List ℕ) : Type 0 where
  pub refused : (i k : ℕ) (last : Held) → RefusedAt lim tag n h bytes i k last ↔ FedRefused lim tag n h bytes i k last
  pub going : (last : Held) → GoesOn lim tag n h bytes last ↔ FedOn lim tag n h bytes last
  pub ended : (i : ℕ) (last : Held) → EndedAt lim tag n h bytes i last ↔ FedEnded lim tag n h bytes i last

-- for any bytes and anything held, under a tag that is neither empty nor too long
abbrev pub RefusesExactly : Type 0
RefusesExactly = (lim : ℕ) (tag : List ℕ) (n : ℕ) (h : Held) (bytes : List ℕ) → is_nil tag ≡ false → length tag ≤ max_tag → Exactly lim tag n h bytes

-- an answer is refused, goes on or has ended
pub data Outcome (lim : ℕ) (tag : List ℕ) (n : ℕ) (h : Held) (bytes : List ℕ) : Type 0 where
  refused : (i k : ℕ) (last : Held) → RefusedAt lim tag n h bytes i k last → Outcome lim tag n h bytes
  going : (last : Held) → GoesOn lim tag n h bytes last → Outcome lim tag n h bytes
  ended : (i : ℕ) (last : Held) → EndedAt lim tag n h bytes i last → Outcome lim tag n h bytes

-- and no two of these, nor one in two ways
pub record OneOutcome (lim : ℕ) (tag : List ℕ) (n : ℕ) (h : Held) (bytes : List ℕ) : Type 0 where
  pub some_outcome : Outcome lim tag n h bytes
  pub one_refusal : (i j k m : ℕ) (last other : Held) → RefusedAt lim tag n h bytes i k last → RefusedAt lim tag n h bytes j m other
      → (i ≡ j) × (k ≡ m) × (last ≡ other)
  pub one_end : (i j : ℕ) (last other : Held) → EndedAt lim tag n h bytes i last → EndedAt lim tag n h bytes j other → (i ≡ j) × (last ≡ other)
  pub refused_going : (i k : ℕ) (last other : Held) → RefusedAt lim tag n h bytes i k last → GoesOn lim tag n h bytes other → ⊥
  pub refused_ended : (i j k : ℕ) (last other : Held) → RefusedAt lim tag n h bytes i k last → EndedAt lim tag n h bytes j other → ⊥
  pub going_ended : (j : ℕ) (last other : Held) → GoesOn lim tag n h bytes last → EndedAt lim tag n h bytes j other → ⊥

-- for any bytes and anything held, under a tag that is neither empty nor too long
abbrev pub OneOutcomeAlways : Type 0
OneOutcomeAlways = (lim : ℕ) (tag : List ℕ) (n : ℕ) (h : Held) (bytes : List ℕ) → is_nil tag ≡ false → length tag ≤ max_tag → OneOutcome lim tag n h bytes

-- no other number is given
abbrev pub NumbersAlways : Type 0
NumbersAlways = (lim : ℕ) (tag : List ℕ) (n : ℕ) (h : Held) (bytes : List ℕ) (i k : ℕ) (last : Held) → RefusedAt lim tag n h bytes i k last
    → (11 ≤ k) × (k ≤ 17)
