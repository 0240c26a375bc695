-- The tablet's reader: what its record means, and a fresh one (document 01, "The tablet's copy and reader").
use Rattle.std.specs.Prelude.{take, replicate, false, None}
use Rattle.rules_server.specs.Limits.{max_tag, max_boundary}
use Rattle.rules_tablet.specs.Limits.{max_line}
use Rattle.rules_tablet.specs.Parsers.{Parser}
use Rattle.rules_tablet.specs.declared.Reader.{Reader}
use Rattle.rules_tablet.specs.declared.Stage.TheVariants.{Status}
use Rattle.rules_tablet.specs.declared.RangeField.TheVariants.{Absent as NoRange}
use Rattle.rules_tablet.specs.declared.TypeField.TheVariants.{Absent as NoType}

-- what a reader's record means: its arrays cut to their lengths
abbrev pub parser_in : Reader → Parser
parser_in r = record {
  stage = r.stage;
  framing = r.framing;
  line = take r.line_len r.line;
  cr = r.cr;
  head = r.head;
  part = r.part;
  tag = take r.tag_len r.tag;
  boundary = take r.boundary_len r.boundary;
}

-- the record of a fresh reader
abbrev pub fresh_reader : Reader
fresh_reader = record {
  stage = Status;
  framing = record { after = 0 };
  line = replicate max_line 0;
  line_len = 0;
  cr = false;
  head = record { status = 0; lines = 0; has_tag = false; media = NoType; range = NoRange; size = None };
  part = record { lines = 0; range = NoRange };
  tag = replicate max_tag 0;
  tag_len = 0;
  boundary = replicate max_boundary 0;
  boundary_len = 0;
}
