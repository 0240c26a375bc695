-- What holds of cells holds of a front of them.
-- Assumes nothing.
use Prim.Native.Nat.{ℕ, zero, suc}
use mathlib.Core.List.{List, [], ◌∷◌}
use lib.ListN.{take}
use Rattle.rules_server.specs.Answers.{Cell}
use Rattle.rules_tablet.specs.Parsers.{Parser}
use Rattle.rules_demands.specs.FeedingFollowed.{next, Tracks}
use Rattle.rules_demands.specs.FeedingStored.{RightCells}

-- a front of cells with the file's bytes has the file's bytes
pub right_take : (file : List ℕ) (k : ℕ) (cells : List Cell) → RightCells file cells → RightCells file (take k cells)
right_take file zero cells h = tt
right_take file (suc k) [] h = tt
right_take file (suc k) (c ∷ cs) h = (h.0, right_take file k cs h.1)

-- a front of cells that the parser follows is followed
pub tracks_take : (tag : List ℕ) (n : ℕ) (p : Parser) (k : ℕ) (cells : List Cell) → Tracks tag n p cells → Tracks tag n p (take k cells)
tracks_take tag n p zero cells h = tt
tracks_take tag n p (suc k) [] h = tt
tracks_take tag n p (suc k) (c ∷ cs) h = (h.0, tracks_take tag n (next tag n p c) k cs h.1)
