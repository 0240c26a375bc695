-- Where a line is read.
use Rattle.std.specs.Prelude.{Bool, true, ◌||◌, List, ◌≡◌, ℕ}
use Rattle.rules_tablet.specs.declared.Stage.{Stage}
use Rattle.reader_state.specs.Looks.{look_of, is_head_line, is_part_line}
use Rattle.reader_state.specs.States.{ArraysSized}
use Rattle.reader_state.specs.declared.ReaderState.{ReaderState}

-- the status line, a field line of the head or a line of a part
abbrev pub is_line : Stage → Bool
is_line s = is_head_line (look_of s) || is_part_line (look_of s)

-- a line is read, the arrays have their sizes, and the lengths are within them
pub record LineReady (s : ReaderState) (line tag boundary : List ℕ) : Type 0 where
  pub arrays : ArraysSized s line tag boundary
  pub reads : is_line s.stage ≡ true
