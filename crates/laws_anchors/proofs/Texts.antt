-- The fixed texts are spelled so, by computation.
use mathlib.Core.Path.{refl}
use Rattle.rules_server.specs.Numerals.{print}
use Rattle.rules_server.specs.Tags.{is_tag, is_multipart_type, bad_type, bad_boundary}
use Rattle.rules_server.specs.Answers.{multipart_line, range_line, unsatisfied_line, length_line, part_head, closing}
use Rattle.rules_server.specs.Refusals.{bad_method}
use Rattle.rules_tablet.specs.Requests.{range_text, request_text}
use Rattle.rules_tablet.specs.Fields.{is_status_line, is_field, kind_of, is_size, type_field, range_field}
use Rattle.rules_demands.specs.AnchorTables.{Agree, literals}
use Rattle.rules_demands.specs.AnchorTexts.{named, texts, lines, tests, numerals, specs, names, types, ranges, TextsAre}

-- what the tables compute by
unfoldable computes : Unit {0}
unfolding print is_tag is_multipart_type bad_type bad_boundary multipart_line range_line unsatisfied_line length_line part_head closing bad_method range_text request_text
    is_status_line is_field kind_of is_size type_field range_field
computes = tt

named_agree : Agree named
unfolding named computes
named_agree = refl {a = literals named}

texts_agree : Agree texts
unfolding texts computes
texts_agree = refl {a = literals texts}

lines_agree : Agree lines
unfolding lines computes
lines_agree = refl {a = literals lines}

tests_agree : Agree tests
unfolding tests computes
tests_agree = refl {a = literals tests}

numerals_agree : Agree numerals
unfolding numerals computes
numerals_agree = refl {a = literals numerals}

specs_agree : Agree specs
unfolding specs computes
specs_agree = refl {a = literals specs}

names_agree : Agree names
unfolding names computes
names_agree = refl {a = literals names}

types_agree : Agree types
unfolding types computes
types_agree = refl {a = literals types}

ranges_agree : Agree ranges
unfolding ranges computes
ranges_agree = refl {a = literals ranges}

pub texts_are : TextsAre
texts_are = record {
  named = named_agree;
  texts = texts_agree;
  lines = lines_agree;
  tests = tests_agree;
  numerals = numerals_agree;
  specs = specs_agree;
  names = names_agree;
  types = types_agree;
  ranges = ranges_agree;
}
