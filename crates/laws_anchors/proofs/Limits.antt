-- The limits are document 01's numbers, and what stands at each and one beyond it is as the tables say.
use mathlib.Core.Path.{refl}
use lib.ListN.{length}
use borrow.Author.Tests.{lt-ltb, le-ltb}
use Rattle.rules_server.specs.Tags.{is_tag, matches_tag, bad_tag, is_multipart_type, bad_type, bad_boundary}
use Rattle.rules_server.specs.Ranges.{read_range}
use Rattle.rules_server.specs.Parts.{near, parts_of}
use Rattle.rules_server.specs.Status.{failing, rows, decide}
use Rattle.rules_server.specs.Refusals.{bad_length}
use Rattle.rules_tablet.specs.Copies.{bad_opening}
use Rattle.rules_tablet.specs.Fields.{is_size, range_field}
use Rattle.rules_demands.specs.AnchorTables.{Agree, literals}
use Rattle.rules_demands.specs.AnchorLimits.{limits, FilesRefused, lengths, fields, lines, reasons, runs, LimitsAre}

-- files by their length alone
files-refused : FilesRefused
unfolding bad_length
files-refused = record {
  at_most = λ file h. le-ltb 1099511627776 (length file) h;
  over = λ file h. lt-ltb 1099511627776 (length file) h;
}

-- what the tables compute by
unfoldable computes : Unit {0}
unfolding is_tag failing matches_tag bad_tag is_multipart_type bad_type bad_boundary read_range near parts_of rows decide bad_opening is_size range_field
computes = tt

limits_agree : Agree limits
unfolding limits computes
limits_agree = refl {a = literals limits}

lengths_agree : Agree lengths
unfolding lengths computes
lengths_agree = refl {a = literals lengths}

fields_agree : Agree fields
unfolding fields computes
fields_agree = refl {a = literals fields}

lines_agree : Agree lines
unfolding lines computes
lines_agree = refl {a = literals lines}

reasons_agree : Agree reasons
unfolding reasons computes
reasons_agree = refl {a = literals reasons}

runs_agree : Agree runs
unfolding runs computes
runs_agree = refl {a = literals runs}

pub limits_are : LimitsAre
limits_are = record {
  numbers = limits_agree;
  files = files-refused;
  lengths = lengths_agree;
  fields = fields_agree;
  lines = lines_agree;
  reasons = reasons_agree;
  runs = runs_agree;
}
