-- The runs of a slice that are parts, and the parts that there is room for, at literal values.
use Rattle.std.specs.Prelude.{ℕ, ◌≡◌, [], ◌∷◌, replicate}
use Rattle.rules_server.specs.Ranges.{span}
use Rattle.rules_server.specs.declared.Run.{Run}
use Rattle.server_ranges.specs.Listing.{room_of, listing}
use Rattle.server_ranges.specs.RangeSets.{parts_in}

abbrev pub run : ℕ → ℕ → Run
run a b = record { first = a; last = b }

pub record ListingsAre : Type 0 where
  -- as many runs as counted, in their order
  pub pairs : listing 2 (run 3 4 ∷ run 7 9 ∷ []) ≡ run 3 4 ∷ run 7 9 ∷ []
  -- no more runs than counted, and than the slice has
  pub counted : listing 1 (run 3 4 ∷ run 7 9 ∷ []) ≡ run 3 4 ∷ []
  pub shorter : listing 2 (run 3 4 ∷ []) ≡ run 3 4 ∷ []
  -- room for as many as the slice has, and for no more than 64
  pub room_of_one : room_of (run 1 1 ∷ []) ≡ 1
  pub room_of_many : room_of (replicate 65 (run 0 0)) ≡ 64
  -- a run that finds no room is left out; one that meets a part is joined with it all the same
  pub no_room : parts_in 0 10 (span 1 1 ∷ []) ≡ []
  pub for_one : parts_in 1 10 (span 1 1 ∷ span 5 5 ∷ []) ≡ run 1 1 ∷ []
  pub joined : parts_in 1 10 (span 1 1 ∷ span 5 5 ∷ span 2 3 ∷ []) ≡ run 1 3 ∷ []
  pub for_two : parts_in 2 10 (span 5 5 ∷ span 1 1 ∷ span 8 8 ∷ []) ≡ run 5 5 ∷ run 1 1 ∷ []
