-- The rule of a reader's record, beside the copy that it is used with (docs/RECORDS.md; document 01, row 19).
use Rattle.std.specs.Prelude.{ℕ, Bool, false, ◌&&◌, List, [], leb, ltb}
use Rattle.rules_server.specs.Limits.{max_tag, max_boundary}
use Rattle.rules_tablet.specs.Limits.{max_line, max_fields, max_part_lines, max_size}
use Rattle.rules_tablet.specs.Heads.{size_of}
use Rattle.rules_tablet.specs.Parsers.{Parser, counted_body}
use Rattle.rules_tablet.specs.Calls.{State, range_ok, type_ok, reader_ok}
use Rattle.rules_tablet.specs.Readers.{parser_in}
use Rattle.rules_tablet.specs.declared.Copy.{Copy}
use Rattle.rules_tablet.specs.declared.Reader.{Reader}
use Rattle.rules_tablet.specs.declared.Head.{Head}
use Rattle.rules_tablet.specs.declared.PartHead.{PartHead}
use Rattle.rules_tablet.specs.declared.Stage.TheVariants.{Status}
use Rattle.copy.specs.States.{state_of}

-- the lengths lie within the arrays, and what the record means meets the rule
unfoldable pub reader_rule : Copy → Reader → Bool
reader_rule c r = leb r.line_len max_line && leb r.tag_len max_tag && leb r.boundary_len max_boundary && reader_ok (state_of c) (parser_in r)

-- a copy of which only the tag and the length are looked at
abbrev pub copy_with : List ℕ → ℕ → State
copy_with tag n = record { tag = tag; length = n; runs = [] }

-- a parser of which its stage and its line are not looked at
abbrev pub parser_with : ℕ → Head → PartHead → List ℕ → List ℕ → Parser
parser_with after head part tag boundary = record {
  stage = Status;
  framing = counted_body after;
  line = [];
  cr = false;
  head = head;
  part = part;
  tag = tag;
  boundary = boundary;
}

-- the tests that hold wherever a reader stands, but for those of the lengths
abbrev pub frame_ok : Head → PartHead → ℕ → List ℕ → Bool
frame_ok h x after boundary =
    leb h.lines max_fields
    && leb x.lines max_part_lines
    && type_ok h.media boundary
    && range_ok h.range
    && range_ok x.range
    && leb (size_of h.size) max_size
    && ltb after max_size
