-- What placing a run among the first `count` of a list of runs gives.
use Rattle.std.specs.Prelude.{ℕ, ◌≡◌, Option, List, length, take}
use Rattle.std.specs.List.{position}
use Rattle.rules_server.specs.declared.Run.{Run}
use Rattle.rules_server.specs.Limits.{merge_gap}
use Rattle.rules_server.specs.Parts.{near, place}
use Rattle.server_ranges.specs.Listing.{room_of, listing, Lists}

-- the index of the first run that is near r
abbrev pub first_near : Run → List Run → Option ℕ
first_near r runs = position (near merge_gap r) runs

-- r was placed among the first `count` parts, if there was room for it, and there are k then; the slice kept its length
pub record Placed (r : Run) (count : ℕ) (runs : List Run) (k : ℕ) (runs_then : List Run) : Type 0 where
  pub parts : Lists k runs_then (take (room_of runs) (place merge_gap r (listing count runs)))
  pub size : length runs_then ≡ length runs
