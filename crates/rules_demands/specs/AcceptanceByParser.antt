-- The parser and the grammar of an acceptable answer: an acceptable answer is followed byte by byte to its end, and an answer that the parser finishes is
-- acceptable.
use Rattle.std.specs.Prelude.{ℕ, ◌≤◌, ◌≡◌, false, List, [], ◌∷◌, map, length}
use Rattle.rules_server.specs.Limits.{max_tag}
use Rattle.rules_server.specs.Octets.{is_nil}
use Rattle.rules_server.specs.Answers.{Cell, byte_of}
use Rattle.rules_tablet.specs.Parsers.{Parser, parse}
use Rattle.rules_tablet.specs.Feeding.{is_over}
use Rattle.rules_tablet.specs.Calls.{fresh}
use Rattle.rules_tablet.specs.declared.Stage.TheVariants.{Finished}
use Rattle.rules_demands.specs.FeedingFollowed.{Tracks, after}
use Rattle.rules_demands.specs.AcceptanceGrammar.{Acceptable}

-- the parser of a fresh reader follows these bytes, each at its position, refuses none, and has finished behind the last and not before
pub record Followed (tag : List ℕ) (n : ℕ) (bytes : List ℕ) (cells : List Cell) : Type 0 where
  pub tracks : Tracks tag n fresh cells
  pub ends : (after tag n fresh cells).stage ≡ Finished
  pub text : map byte_of cells ≡ bytes

-- every acceptable answer is followed, for a copy under a tag that is not too long
abbrev pub AcceptableFollowed : Type 0
AcceptableFollowed = (tag : List ℕ) (n : ℕ) (bytes : List ℕ) (cells : List Cell) → length tag ≤ max_tag → Acceptable tag n bytes cells
    → Followed tag n bytes cells

-- the parser reads all of these bytes, is at no end before the last (neither finished nor refused), and has finished behind it
abbrev pub Finishes : List ℕ → ℕ → Parser → List ℕ → Type 0
Finishes tag n p [] = p.stage ≡ Finished
Finishes tag n p (b ∷ l) = (is_over p.stage ≡ false) × Finishes tag n (parse tag n p.stage b p) l

-- the positions that an acceptable answer's bytes have
pub record AcceptableSome (tag : List ℕ) (n : ℕ) (bytes : List ℕ) : Type 0 where
  pub cells : List Cell
  pub acceptable : Acceptable tag n bytes cells

-- every answer that a fresh reader's parser finishes is acceptable, for a copy under a tag that is neither empty nor too long
abbrev pub FinishedAcceptable : Type 0
FinishedAcceptable = (tag : List ℕ) (n : ℕ) (bytes : List ℕ) → is_nil tag ≡ false → length tag ≤ max_tag → Finishes tag n fresh bytes → AcceptableSome tag n bytes
