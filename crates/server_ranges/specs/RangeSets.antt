-- What is read of a Range value: how it reads, and of its specs just what the table of statuses asks.
use Rattle.std.specs.Prelude.{ℕ, ◌≡◌, cond, List, [], leb, length, Result, Ok, Err}
use Rattle.rules_server.specs.Limits.{max_specs, merge_gap}
use Rattle.rules_server.specs.Ranges.{ByteSpec, Reading, other_unit, malformed, listed, specs_of, invalid, satisfiable, any_spec}
use Rattle.rules_server.specs.Parts.{spec_runs}
use Rattle.rules_server.specs.declared.Run.{Run}
use Rattle.server_ranges.specs.Listing.{room_of, Lists, capped}
use Rattle.server_ranges.specs.declared.Unread.{Unread}
use Rattle.server_ranges.specs.declared.Unread.TheVariants.{Unit as OtherUnit, Malformed}
use Rattle.server_ranges.specs.declared.RangeSet.{RangeSet}

-- the parts of an answer, as many as there is room for: all of them where there is room for max_specs, and no more specs than that
abbrev pub parts_in : ℕ → ℕ → List ByteSpec → List Run
parts_in room n ss = capped room merge_gap (spec_runs n ss) []

-- none beyond max_specs specs, where no answer has parts
abbrev pub parts_within : ℕ → ℕ → List ByteSpec → List Run
parts_within room n ss = cond (leb (length ss) max_specs) (parts_in room n ss) []

-- of a list of specs, for a file of n bytes, with the parts in a slice
pub record RangeSetIs (n : ℕ) (ss : List ByteSpec) (t : RangeSet) (runs : List Run) : Type 0 where
  pub count : t.count ≡ length ss
  pub invalid : t.invalid ≡ any_spec invalid ss
  pub satisfiable : t.satisfiable ≡ any_spec (satisfiable n) ss
  pub parts : Lists t.parts runs (parts_within (room_of runs) n ss)

-- of a value that reads as x
abbrev pub ReadAs : ℕ → Reading → Result RangeSet Unread → List Run → Type 0
ReadAs n x (Ok t) runs = (x ≡ listed (specs_of x)) × RangeSetIs n (specs_of x) t runs
ReadAs n x (Err OtherUnit) runs = x ≡ other_unit
ReadAs n x (Err Malformed) runs = x ≡ malformed

-- so it was read into a slice, which kept its length
pub record RangeSetRead (n : ℕ) (x : Reading) (r : Result RangeSet Unread) (runs runs_then : List Run) : Type 0 where
  pub is : ReadAs n x r runs_then
  pub size : length runs_then ≡ length runs
