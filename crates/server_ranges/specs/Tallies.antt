-- The loop over the specs of a range set as a fold: what is known of the specs read so far, and what the rest of the list makes of it.
use Rattle.std.specs.Prelude.{ℕ, ◌+◌, ◌≡◌, Bool, false, cond, ◌||◌, List, [], ◌∷◌, length, take, Result, Ok, Err}
use Rattle.rules_server.specs.Limits.{merge_gap}
use Rattle.rules_server.specs.Ranges.{ByteSpec, Reading, other_unit, malformed, listed, invalid, satisfiable}
use Rattle.rules_server.specs.Parts.{run_of, place}
use Rattle.rules_server.specs.declared.Run.{Run}
use Rattle.server_ranges.specs.Listing.{room_of, listing}
use Rattle.server_ranges.specs.declared.Unread.{Unread}
use Rattle.server_ranges.specs.declared.Unread.TheVariants.{Malformed}
use Rattle.server_ranges.specs.declared.RangeSet.{RangeSet}

-- a range set with its parts as a list and their count
pub record Tally : Type 0 where
  pub count : ℕ
  pub invalid : Bool
  pub satisfiable : Bool
  pub runs : List Run
  pub number : ℕ

abbrev pub tally_of : RangeSet → List Run → Tally
tally_of t runs = record { count = t.count; invalid = t.invalid; satisfiable = t.satisfiable; runs = listing t.parts runs; number = t.parts }

-- no spec
abbrev pub no_specs : Tally
no_specs = record { count = 0; invalid = false; satisfiable = false; runs = []; number = 0 }

-- one spec more, where there is room for so many parts
abbrev pub with_spec : ℕ → ℕ → Tally → ByteSpec → Tally
with_spec room n t s = record {
  count = t.count + 1;
  invalid = t.invalid || invalid s;
  satisfiable = t.satisfiable || satisfiable n s;
  runs = cond (satisfiable n s) (take room (place merge_gap (run_of n s) t.runs)) t.runs;
  number = cond (satisfiable n s) (length (take room (place merge_gap (run_of n s) t.runs))) t.number;
}

-- no parts
abbrev pub without_parts : Tally → Tally
without_parts t = record { count = t.count; invalid = t.invalid; satisfiable = t.satisfiable; runs = []; number = 0 }

abbrev pub tally_from : ℕ → ℕ → Tally → List ByteSpec → Tally
tally_from room n t [] = t
tally_from room n t (s ∷ ss) = tally_from room n (with_spec room n t s) ss

-- the specs so far, then a rest of the list that reads as x
abbrev pub go_on : ℕ → ℕ → Tally → Reading → Result Tally Unread
go_on room n t other_unit = Err Malformed
go_on room n t malformed = Err Malformed
go_on room n t (listed ss) = Ok (tally_from room n t ss)

-- a range set and its parts say what the range set before says with the spec s more; the slice kept its length
pub record SpecTallied (n : ℕ) (t : RangeSet) (s : ByteSpec) (runs : List Run) (r : RangeSet) (runs_then : List Run) : Type 0 where
  pub says : tally_of r runs_then ≡ with_spec (room_of runs) n (tally_of t runs) s
  pub size : length runs_then ≡ length runs

-- what is read, with its parts in a slice
abbrev pub tally_read : Result RangeSet Unread → List Run → Result Tally Unread
tally_read (Ok t) runs = Ok (tally_of t runs)
tally_read (Err e) runs = Err e

-- it says what x says; the slice kept its length
pub record Tallied (x : Result Tally Unread) (r : Result RangeSet Unread) (runs runs_then : List Run) : Type 0 where
  pub says : tally_read r runs_then ≡ x
  pub size : length runs_then ≡ length runs
