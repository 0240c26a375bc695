-- The reader's parser follows our server's answers: each byte's event is the position that the byte carries, and no byte is refused.
use Rattle.std.specs.Prelude.{ℕ, ◌≡◌, true, false, List, [], ◌∷◌, length}
use Rattle.std.specs.Prelude.{Option, None, Some}
use Rattle.rules_server.specs.Tags.{is_strong}
use Rattle.rules_server.specs.Answers.{Cell, own, from, byte_of, answer}
use Rattle.rules_tablet.specs.Parsers.{Parser, parse, event, is_refused}
use Rattle.rules_tablet.specs.Feeding.{is_over}
use Rattle.rules_tablet.specs.Calls.{fresh}
use Rattle.rules_tablet.specs.declared.Stage.TheVariants.{Finished}
use Rattle.rules_demands.specs.Demand3Arrivals.{flat}
use Rattle.rules_demands.specs.Demand3Sessions.{Ours, resource_of}

-- the position that a byte carries
abbrev pub position_of : Cell → Option ℕ
position_of (own b) = None
position_of (from p b) = Some p

-- the parser after a byte
abbrev pub next : List ℕ → ℕ → Parser → Cell → Parser
next tag n p c = parse tag n p.stage (byte_of c) p

-- byte by byte: not at an end before, the event is the byte's position, not refused after
pub record Follows (tag : List ℕ) (n : ℕ) (p : Parser) (c : Cell) : Type 0 where
  pub going : is_over p.stage ≡ false
  pub carries : event p.stage ≡ position_of c
  pub allowed : is_refused (next tag n p c).stage ≡ false

abbrev pub Tracks : List ℕ → ℕ → Parser → List Cell → Type 0
Tracks tag n p [] = Unit {0}
Tracks tag n p (c ∷ cs) = Follows tag n p c × Tracks tag n (next tag n p c) cs

-- the parser after all bytes
abbrev pub after : List ℕ → ℕ → Parser → List Cell → Parser
after tag n p [] = p
after tag n p (c ∷ cs) = after tag n (next tag n p c) cs

-- of every answer of ours, from a fresh reader of a copy under the file's strong tag and length: followed to its end
pub record OwnTracks (file tag bytes : List ℕ) (o : Ours file tag bytes) : Type 0 where
  pub tracks : Tracks tag (length file) fresh (flat (answer o.request (resource_of file tag o.media o.boundary o.modified o.reference)))
  pub ends :
      (after tag (length file) fresh (flat (answer o.request (resource_of file tag o.media o.boundary o.modified o.reference)))).stage ≡ Finished

abbrev pub OwnTracksAlways : Type 0
OwnTracksAlways = (file tag bytes : List ℕ) (o : Ours file tag bytes) → is_strong tag ≡ true → OwnTracks file tag bytes o
