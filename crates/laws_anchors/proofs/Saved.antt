-- What states are saved as and bytes are read as is as the tables say, by computation.
use mathlib.Core.Path.{refl}
use Rattle.rules_server.specs.Numbers.{in_bytes}
use Rattle.rules_tablet.specs.Calls.{copy_ok}
use Rattle.rules_tablet.specs.SavedCopies.{saved_under, save_refusal, save_call, read_units, saved_read}
use Rattle.rules_demands.specs.AnchorTables.{Agree, literals}
use Rattle.rules_demands.specs.AnchorSaved.{numbers, values, files, longest, saves, buffers, marks, tags, lengths, runs, versions, SavedAre}

-- what the tables compute by
unfoldable computes : Unit {0}
unfolding in_bytes copy_ok saved_under save_refusal save_call read_units saved_read
computes = tt

numbers_agree : Agree numbers
unfolding numbers computes
numbers_agree = refl {a = literals numbers}

values_agree : Agree values
unfolding values computes
values_agree = refl {a = literals values}

files_agree : Agree files
unfolding files computes
files_agree = refl {a = literals files}

longest_agree : Agree longest
unfolding longest computes
longest_agree = refl {a = literals longest}

saves_agree : Agree saves
unfolding saves computes
saves_agree = refl {a = literals saves}

buffers_agree : Agree buffers
unfolding buffers computes
buffers_agree = refl {a = literals buffers}

marks_agree : Agree marks
unfolding marks computes
marks_agree = refl {a = literals marks}

tags_agree : Agree tags
unfolding tags computes
tags_agree = refl {a = literals tags}

lengths_agree : Agree lengths
unfolding lengths computes
lengths_agree = refl {a = literals lengths}

runs_agree : Agree runs
unfolding runs computes
runs_agree = refl {a = literals runs}

versions_agree : Agree versions
unfolding versions computes
versions_agree = refl {a = literals versions}

pub saved_are : SavedAre
saved_are = record {
  numbers = numbers_agree;
  values = values_agree;
  files = files_agree;
  longest = longest_agree;
  saves = saves_agree;
  buffers = buffers_agree;
  marks = marks_agree;
  tags = tags_agree;
  lengths = lengths_agree;
  runs = runs_agree;
  versions = versions_agree;
}
