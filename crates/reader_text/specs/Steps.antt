-- A step over the front of a piece: what it makes of the tablet, and how many bytes it takes.
use Rattle.std.specs.Prelude.{ℕ, ◌+◌, ◌-◌, ◌≤◌, ◌<◌, ◌^◌, ◌≡◌, Bool, true, false, cond, List, ◌++◌, ltb, length, get_or, take}
use Rattle.std.specs.Prelude.{Option, None, Some}
use Rattle.rules_server.specs.Limits.{max_tag, max_boundary}
use Rattle.rules_server.specs.Octets.{all, carriage_return, line_feed}
use Rattle.rules_tablet.specs.Limits.{max_runs, max_line, max_fields, max_preamble}
use Rattle.rules_tablet.specs.Lines.{is_line_byte}
use Rattle.rules_tablet.specs.Heads.{with_field_lines}
use Rattle.rules_tablet.specs.Parsers.{Parser, at, with_part, with_framing, counted_body, parse, event, is_refused}
use Rattle.rules_tablet.specs.Feeding.{Held, Tablet, Fed, is_over, feed}
use Rattle.rules_tablet.specs.Readers.{parser_in}
use Rattle.rules_tablet.specs.declared.PartHead.{PartHead}
use Rattle.rules_tablet.specs.declared.Reader.{Reader}
use Rattle.rules_tablet.specs.declared.Stage.{Stage}
use Rattle.rules_tablet.specs.declared.Stage.TheVariants.{Status, Fields, Plain, Skip, Preamble, PreambleEnd, FirstDelimiter, Delimiter, AfterFirstDelimiter}
use Rattle.rules_tablet.specs.declared.Stage.TheVariants.{AfterDelimiter, PartBegin, Closing, PartLine, Data, Epilogue, Finished, Refused}
use Rattle.reader_state.specs.States.{parser_of, ArraysSized, Sized, Unchanged}
use Rattle.reader_state.specs.declared.ReaderState.{ReaderState}
use Rattle.reader_text.specs.Lines.{is_line}
use Rattle.reader_text.specs.declared.PartAhead.{PartAhead}
use Rattle.reader_text.specs.declared.Took.{Took}
use Rattle.reader_head.specs.Lines.{other_lines}
use Rattle.reader_head.specs.declared.uncounted_fields.OtherLines.{OtherLines}
use Rattle.reader_multipart.specs.Passing.{is_between}

-- what feeding gives, with k bytes taken before it
abbrev pub later : ℕ → Fed → Fed
later k f = record { tablet = f.tablet; taken = k + f.taken }

-- a step over the front of a piece: so many bytes are taken, whatever follows them; or the piece is not taken at all
pub data Went (tag : List ℕ) (n : ℕ) (piece : List ℕ) (t : Tablet) (k : ℕ) (u : Tablet) : Type 0 where
  on : 1 ≤ k → k ≤ length piece → ((rest : List ℕ) → feed max_runs tag n (take k piece ++ rest) t ≡ later k (feed max_runs tag n rest u)) → Went tag n piece t k u
  off : k ≡ 0 → feed max_runs tag n piece t ≡ record { tablet = u; taken = 0 } → Went tag n piece t k u

-- the reader of its scalars and its arrays
abbrev pub reader_of : ReaderState → List ℕ → List ℕ → List ℕ → Reader
reader_of s line tag boundary = record {
  stage = s.stage;
  framing = s.framing;
  line = line;
  line_len = s.line_len;
  cr = s.cr;
  head = s.head;
  part = s.part;
  tag = tag;
  tag_len = s.tag_len;
  boundary = boundary;
  boundary_len = s.boundary_len;
}

-- a reader whose lengths lie within its arrays
pub record Fits (r : Reader) : Type 0 where
  pub line : r.line_len ≤ max_line
  pub tag : r.tag_len ≤ max_tag
  pub boundary : r.boundary_len ≤ max_boundary

-- bytes of a line are read here
pub record Going (s : Stage) : Type 0 where
  pub going : is_over s ≡ false
  pub bare : event s ≡ None
  pub line : is_line s ≡ true

-- a byte that is refused changes only where the parser stands
abbrev pub settled_at : Parser → Parser → Parser
settled_at p q = cond (is_refused q.stage) (at q.stage p) q

-- the reader x is r behind the byte b
pub record ByteIs (t : List ℕ) (n : ℕ) (b : ℕ) (r x : Reader) : Type 0 where
  pub fits : Fits x
  pub is : parser_in x ≡ settled_at (parser_in r) (parse t n r.stage b (parser_in r))

-- what a step without data leaves, whatever is held: the reader x, behind k bytes
pub record TextIs (t : List ℕ) (n : ℕ) (piece : List ℕ) (r : Reader) (k : ℕ) (x : Reader) : Type 0 where
  pub fits : Fits x
  pub went : (h : Held) → Went t n piece (record { held = h; parser = parser_in r }) k (record { held = h; parser = parser_in x })

-- the same of a reader taken apart: its scalars beside its arrays
abbrev pub TextFrom : List ℕ → ℕ → List ℕ → ReaderState → List ℕ → List ℕ → List ℕ → ℕ → ReaderState → List ℕ → List ℕ → List ℕ → Type 0
TextFrom t n piece s line tag boundary k x line' tag' boundary' = TextIs t n piece (reader_of s line tag boundary) k (reader_of x line' tag' boundary')

-- what skipping leaves, of a piece of so many bytes
abbrev pub SkipIs : ℕ → ReaderState → ℕ → ReaderState → Type 0
SkipIs size s k x = (line tag boundary : List ℕ) → Fits (reader_of s line tag boundary) → (t : List ℕ) (n : ℕ) (piece : List ℕ) → length piece ≡ size
    → TextFrom t n piece s line tag boundary k x line tag boundary

-- so many bytes at the front, at most `most`, may stand in a line
pub record LineRun (piece : List ℕ) (most k : ℕ) : Type 0 where
  pub within : k ≤ length piece
  pub few : k ≤ most
  pub fit : all is_line_byte (take k piece) ≡ true

-- a line behind the status line is read
abbrev pub is_fields : Stage → Bool
is_fields Fields = true
is_fields Status = false
is_fields (Plain next) = false
is_fields Skip = false
is_fields (Preamble k) = false
is_fields (PreambleEnd k) = false
is_fields (FirstDelimiter i) = false
is_fields (Delimiter i) = false
is_fields AfterFirstDelimiter = false
is_fields AfterDelimiter = false
is_fields PartBegin = false
is_fields Closing = false
is_fields PartLine = false
is_fields (Data next left) = false
is_fields Epilogue = false
is_fields Finished = false
is_fields (Refused k) = false

-- CR LF stands behind the first k bytes of a piece, whose length is a number of the code
pub record LineEnds (piece : List ℕ) (k : ℕ) : Type 0 where
  pub within : k + 2 ≤ length piece
  pub small : k + 2 < 2 ^ 64
  pub cr : get_or piece k 0 ≡ carriage_return
  pub lf : get_or piece (k + 1) 0 ≡ line_feed

-- a line of k bytes that begins here lies whole at the front of a piece: with its CR it has fewer than `room`
pub record WholeAhead (len : ℕ) (cr : Bool) (room : ℕ) (piece : List ℕ) (k : ℕ) : Type 0 where
  pub empty : len ≡ 0
  pub unended : cr ≡ false
  pub few : k + 1 < room
  pub run : LineRun piece max_line k
  pub ends : LineEnds piece k

-- what a whole line of the head leaves, whatever line is kept: it is taken, or nothing that the reader means is changed
abbrev pub LineIs : List ℕ → ℕ → List ℕ → ReaderState → List ℕ → List ℕ → Option Took → List ℕ → List ℕ → Type 0
LineIs t n piece s tag boundary (Some x) tag' boundary' = (line : List ℕ) → Sized s line tag boundary
    → TextFrom t n piece s line tag boundary x.taken x.state line tag' boundary'
LineIs t n piece s tag boundary None tag' boundary' = (line : List ℕ) → Sized s line tag boundary → parser_of s line tag' boundary' ≡ parser_of s line tag boundary

-- k bytes at the front of a piece take the parser from p to q, whatever is held and whatever follows them
abbrev pub Leads : ℕ → List ℕ → ℕ → Parser → Parser → Type 0
Leads n piece k p q = (t : List ℕ) (h : Held) (rest : List ℕ)
    → feed max_runs t n (take k piece ++ rest) (record { held = h; parser = p }) ≡ later k (feed max_runs t n rest (record { held = h; parser = q }))

-- before a line of a part with the head x, and so many bytes of the body after the next
abbrev pub before_line : PartHead → ℕ → Parser → Parser
before_line x after p = at PartLine (with_framing (counted_body after) (with_part x p))

-- what whole lines of a part leave, with a boundary of so many bytes: they are taken only where a line begins
pub record PartAheadIs (n : ℕ) (piece : List ℕ) (len : ℕ) (cr : Bool) (x : PartHead) (size after : ℕ) (r : PartAhead) : Type 0 where
  pub begins : (r.taken ≡ 0 → ⊥) → (len ≡ 0) × (cr ≡ false)
  pub within : r.taken ≤ length piece
  pub leads : (p : Parser) → length p.boundary ≡ size → Leads n piece r.taken (before_line x after p) (at r.stage (before_line r.part r.after p))

-- the whole field lines at the front of a piece whose names do not count, where a line begins behind the status line and so many lines came before
pub record Ahead (s : Stage) (len : ℕ) (cr : Bool) (lines : ℕ) (piece : List ℕ) (r : OtherLines) : Type 0 where
  pub stage : s ≡ Fields
  pub empty : len ≡ 0
  pub unended : cr ≡ false
  pub few : lines ≤ max_fields
  pub is : r ≡ other_lines (max_fields - lines) piece
  pub some : 1 ≤ r.taken

-- with so many field lines more
abbrev pub state_lines : ℕ → ReaderState → ReaderState
state_lines k s = record {
  stage = s.stage;
  framing = s.framing;
  line_len = s.line_len;
  cr = s.cr;
  head = with_field_lines (s.head.lines + k) s.head;
  part = s.part;
  tag_len = s.tag_len;
  boundary_len = s.boundary_len;
}

-- what bytes between parts leave, by the boundary
abbrev pub BetweenIs : List ℕ → List ℕ → ReaderState → ℕ → ReaderState → Type 0
BetweenIs boundary piece s k x = (t : List ℕ) (n : ℕ) (line tag array : List ℕ) → Sized s line tag array → take s.boundary_len array ≡ boundary
    → is_between s.stage ≡ true → 1 ≤ length piece
    → TextFrom t n piece s line tag array k x line tag array

-- no data comes next, and between parts the numbers of the stage are those of an empty line, or of a delimiter with a boundary of so many bytes
abbrev pub room_for : Stage → ℕ → Bool
room_for Status k = true
room_for Fields k = true
room_for (Plain next) k = false
room_for Skip k = true
room_for (Preamble j) k = true
room_for (PreambleEnd j) k = ltb j max_preamble
room_for (FirstDelimiter i) k = ltb i (k + 4)
room_for (Delimiter i) k = ltb i (k + 4)
room_for AfterFirstDelimiter k = true
room_for AfterDelimiter k = true
room_for PartBegin k = true
room_for Closing k = true
room_for PartLine k = true
room_for (Data next left) k = false
room_for Epilogue k = true
room_for Finished k = true
room_for (Refused j) k = true

-- a step can be made: the arrays have their sizes, the numbers leave room, and a byte comes next
pub record StepReady (s : ReaderState) (line tag boundary piece : List ℕ) : Type 0 where
  pub arrays : ArraysSized s line tag boundary
  pub room : room_for s.stage s.boundary_len ≡ true
  pub given : 1 ≤ length piece

-- what a step leaves: how many bytes it takes no definition fixes, only that these and no others are taken as feeding takes them; where it cannot be made
-- nothing is changed
pub record StepIs (t : List ℕ) (n : ℕ) (piece : List ℕ) (s : ReaderState) (line tag boundary : List ℕ) (k : ℕ) (x : ReaderState)
    (line' tag' boundary' : List ℕ) : Type 0 where
  pub ready : StepReady s line tag boundary piece → TextFrom t n piece s line tag boundary k x line' tag' boundary'
  pub other : (StepReady s line tag boundary piece → ⊥) → (k ≡ 0) × Unchanged s line tag boundary x line' tag' boundary'
