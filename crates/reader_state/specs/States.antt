-- What the scalars of a reader and the arrays beside them mean.
use Rattle.std.specs.Prelude.{ℕ, ◌≤◌, ◌≡◌, Bool, true, false, List, length, take, drop}
use Rattle.rules_server.specs.Limits.{max_tag, max_boundary}
use Rattle.rules_tablet.specs.Limits.{max_line}
use Rattle.rules_tablet.specs.Parsers.{Parser}
use Rattle.rules_tablet.specs.Lines.{LineStep, going, whole, broken}
use Rattle.rules_tablet.specs.declared.Framing.{Framing}
use Rattle.rules_tablet.specs.declared.Head.{Head}
use Rattle.rules_tablet.specs.declared.PartHead.{PartHead}
use Rattle.rules_tablet.specs.declared.Stage.{Stage}
use Rattle.reader_state.specs.Rooms.{Roomy}
use Rattle.reader_state.specs.declared.ReaderState.{ReaderState}
use Rattle.reader_state.specs.declared.LineOut.{LineOut}
use Rattle.reader_state.specs.declared.LineOut.TheVariants.{Going, Ending, Whole, Broken}

-- the parser of the scalars, the line, the kept tag and the boundary; what lies in the arrays beyond their lengths means nothing, and each function leaves it
-- as it was
abbrev pub parser_of : ReaderState → List ℕ → List ℕ → List ℕ → Parser
parser_of s line tag boundary = record {
  stage = s.stage;
  framing = s.framing;
  line = take s.line_len line;
  cr = s.cr;
  head = s.head;
  part = s.part;
  tag = take s.tag_len tag;
  boundary = take s.boundary_len boundary;
}

-- the lengths are within the arrays
pub record Within (s : ReaderState) : Type 0 where
  pub line_fits : s.line_len ≤ max_line
  pub tag_fits : s.tag_len ≤ max_tag
  pub boundary_fits : s.boundary_len ≤ max_boundary

-- the line's array has its size, and a line of len bytes is within it
pub record LineSized (len : ℕ) (line : List ℕ) : Type 0 where
  pub line_room : length line ≡ max_line
  pub line_fits : len ≤ max_line

-- the arrays have their sizes, and the lengths are within them
pub record ArraysSized (s : ReaderState) (line tag boundary : List ℕ) : Type 0 where
  pub line_room : length line ≡ max_line
  pub tag_room : length tag ≡ max_tag
  pub boundary_room : length boundary ≡ max_boundary
  pub within : Within s

-- and the stage's numbers leave room
pub record Sized (s : ReaderState) (line tag boundary : List ℕ) : Type 0 where
  pub arrays : ArraysSized s line tag boundary
  pub stage_fits : Roomy s.stage s.framing.after s.boundary_len

-- what lies in the arrays beyond the lengths of s is as it was
pub record Beyond (s : ReaderState) (line tag boundary line' tag' boundary' : List ℕ) : Type 0 where
  pub line_end : drop s.line_len line' ≡ drop s.line_len line
  pub tag_end : drop s.tag_len tag' ≡ drop s.tag_len tag
  pub boundary_end : drop s.boundary_len boundary' ≡ drop s.boundary_len boundary

-- nothing is changed: neither the scalars nor the arrays
pub record Unchanged (s : ReaderState) (line tag boundary : List ℕ) (r : ReaderState) (line' tag' boundary' : List ℕ) : Type 0 where
  pub same_state : r ≡ s
  pub same_line : line' ≡ line
  pub same_tag : tag' ≡ tag
  pub same_boundary : boundary' ≡ boundary

-- what one byte makes of a line that is held in an array: `line` as it is then, `len` as it was
abbrev pub line_meaning : LineOut → ℕ → List ℕ → LineStep
line_meaning (Going k) len line = going (take k line) false
line_meaning Ending len line = going (take len line) true
line_meaning Whole len line = whole (take len line)
line_meaning Broken len line = broken

-- how long the line then is
abbrev pub length_of : LineOut → ℕ → ℕ
length_of (Going k) len = k
length_of Ending len = len
length_of Whole len = len
length_of Broken len = len

-- the scalars with a change
abbrev pub state_at : Stage → ReaderState → ReaderState
state_at x s = record {
  stage = x;
  framing = s.framing;
  line_len = s.line_len;
  cr = s.cr;
  head = s.head;
  part = s.part;
  tag_len = s.tag_len;
  boundary_len = s.boundary_len;
}

abbrev pub state_line : ℕ → Bool → ReaderState → ReaderState
state_line k cr s = record {
  stage = s.stage;
  framing = s.framing;
  line_len = k;
  cr = cr;
  head = s.head;
  part = s.part;
  tag_len = s.tag_len;
  boundary_len = s.boundary_len;
}

abbrev pub state_head : Head → ℕ → ℕ → ReaderState → ReaderState
state_head h k j s = record { stage = s.stage; framing = s.framing; line_len = 0; cr = false; head = h; part = s.part; tag_len = k; boundary_len = j }

abbrev pub state_part : PartHead → ReaderState → ReaderState
state_part x s = record {
  stage = s.stage;
  framing = s.framing;
  line_len = 0;
  cr = false;
  head = s.head;
  part = x;
  tag_len = s.tag_len;
  boundary_len = s.boundary_len;
}

abbrev pub state_framing : Framing → ReaderState → ReaderState
state_framing f s = record {
  stage = s.stage;
  framing = f;
  line_len = s.line_len;
  cr = s.cr;
  head = s.head;
  part = s.part;
  tag_len = s.tag_len;
  boundary_len = s.boundary_len;
}
