-- What the tablet end says of the examples is as the tables say, by computation.
use mathlib.Core.Path.{refl}
use Rattle.rules_server.specs.Numerals.{print}
use Rattle.rules_server.specs.Tags.{is_multipart_type, bad_boundary}
use Rattle.rules_tablet.specs.Copies.{bad_opening, is_complete}
use Rattle.rules_tablet.specs.Requests.{range_text, request_text}
use Rattle.rules_tablet.specs.Fields.{is_status_line, is_field, kind_of, is_size, type_field, range_field}
use Rattle.rules_tablet.specs.Heads.{other_status, broken_head, unlike_copy, wrong_range, empty_parts, head_refusal, body_stage}
use Rattle.rules_tablet.specs.Parsers.{field_line, head_end, status_line, part_line, part_end}
use Rattle.rules_tablet.specs.Feeding.{store, feed_byte}
use Rattle.rules_tablet.specs.Calls.{copy_ok, opened, fresh, reader_ok, feedable, feed_call, request_refusal, request_call, complete_call}
use Rattle.rules_demands.specs.AnchorTables.{Agree, literals}
use Rattle.rules_demands.specs.AnchorReadings.{openings, refusals, requests, completions, heads, bodies, lasts, untaken, ReadingsAre}

-- what the tables compute by
unfoldable computes : Unit {0}
unfolding print is_multipart_type bad_boundary bad_opening is_complete range_text request_text is_status_line is_field kind_of is_size type_field range_field other_status
    broken_head unlike_copy wrong_range empty_parts head_refusal body_stage field_line head_end status_line part_line part_end store feed_byte copy_ok opened fresh
    reader_ok feedable feed_call request_refusal request_call complete_call
computes = tt

openings_agree : Agree openings
unfolding openings computes
openings_agree = refl {a = literals openings}

refusals_agree : Agree refusals
unfolding refusals computes
refusals_agree = refl {a = literals refusals}

requests_agree : Agree requests
unfolding requests computes
requests_agree = refl {a = literals requests}

completions_agree : Agree completions
unfolding completions computes
completions_agree = refl {a = literals completions}

heads_agree : Agree heads
unfolding heads computes
heads_agree = refl {a = literals heads}

bodies_agree : Agree bodies
unfolding bodies computes
bodies_agree = refl {a = literals bodies}

lasts_agree : Agree lasts
unfolding lasts computes
lasts_agree = refl {a = literals lasts}

untaken_agree : Agree untaken
unfolding untaken computes
untaken_agree = refl {a = literals untaken}

pub readings_are : ReadingsAre
readings_are = record {
  openings = openings_agree;
  refusals = refusals_agree;
  requests = requests_agree;
  completions = completions_agree;
  heads = heads_agree;
  bodies = bodies_agree;
  lasts = lasts_agree;
  untaken = untaken_agree;
}
