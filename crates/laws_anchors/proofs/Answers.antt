-- What the server end says and writes of the examples is as the tables say, by computation.
use mathlib.Core.Path.{refl}
use Rattle.rules_server.specs.Numerals.{print}
use Rattle.rules_server.specs.Ranges.{read_range}
use Rattle.rules_server.specs.Parts.{near, parts_of}
use Rattle.rules_server.specs.Tags.{is_tag, matches_tag, bad_tag, is_multipart_type, bad_type, bad_boundary}
use Rattle.rules_server.specs.Calendar.{bad_time}
use Rattle.rules_server.specs.Status.{failing, rows, decide, specs}
use Rattle.rules_server.specs.Answers.{head_then, bytes_of, multipart_line, range_line, unsatisfied_line, length_line, part_head, closing, ok_answer, unsatisfied_answer}
use Rattle.rules_server.specs.Answers.{plain_answer, multipart_answer, parts_for, answer}
use Rattle.rules_server.specs.Refusals.{bad_method, bad_length, bad_times, bad_delimiter, bad_room, refusal_rows, refusal, outcome, output}
use Rattle.rules_demands.specs.AnchorTables.{Agree, literals}
use Rattle.rules_demands.specs.AnchorAnswers.{written, matching, given, matching_dates, times, decided, rooms, delimiters, ordered, AnswersAre}
use Rattle.laws_anchors.proofs.Dates.{dates_compute}

-- what the tables compute by
unfoldable computes : Unit {0}
unfolding print read_range near parts_of is_tag matches_tag failing bad_tag is_multipart_type bad_type bad_boundary bad_time rows decide specs head_then bytes_of
    multipart_line range_line unsatisfied_line length_line part_head closing ok_answer unsatisfied_answer plain_answer multipart_answer parts_for answer bad_method
    bad_length bad_times bad_delimiter bad_room refusal_rows refusal outcome output
computes = tt

written_agree : Agree written
unfolding written computes dates_compute
written_agree = refl {a = literals written}

matching_agree : Agree matching
unfolding matching computes
matching_agree = refl {a = literals matching}

given_agree : Agree given
unfolding given
given_agree = refl {a = literals given}

dates_agree : Agree matching_dates
unfolding matching_dates computes dates_compute
dates_agree = refl {a = literals matching_dates}

times_agree : Agree times
unfolding times computes dates_compute
times_agree = refl {a = literals times}

decided_agree : Agree decided
unfolding decided computes
decided_agree = refl {a = literals decided}

rooms_agree : Agree rooms
unfolding rooms computes
rooms_agree = refl {a = literals rooms}

delimiters_agree : Agree delimiters
unfolding delimiters computes
delimiters_agree = refl {a = literals delimiters}

ordered_agree : Agree ordered
unfolding ordered computes
ordered_agree = refl {a = literals ordered}

pub answers_are : AnswersAre
answers_are = record {
  written = written_agree;
  matching = matching_agree;
  given = given_agree;
  matching_dates = dates_agree;
  times = times_agree;
  decided = decided_agree;
  rooms = rooms_agree;
  delimiters = delimiters_agree;
  ordered = ordered_agree;
}
