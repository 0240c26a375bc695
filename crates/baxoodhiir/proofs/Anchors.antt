-- The numbers for C are these, by computation.
use Prim.Native.Nat.{ℕ}
use mathlib.Core.Path.{◌≡◌, refl}
use mathlib.Core.Bool.{true}
use Rattle.std.specs.Prelude.{None}
use Rattle.rules_server.specs.Numerals.{print}
use Rattle.rules_server.specs.Ranges.{read_range}
use Rattle.rules_server.specs.Parts.{near, parts_of}
use Rattle.rules_server.specs.Tags.{is_tag, matches_tag, bad_tag, is_multipart_type, bad_type, bad_boundary}
use Rattle.rules_server.specs.Calendar.{is_valid, day_number, second_of_day, second_number, second_of, weekday, bad_time, date_of}
use Rattle.rules_server.specs.Dates.{fixdate_text, read_fixdate, read_form, read_date, date_read, time_text}
use Rattle.rules_server.specs.Status.{Resource, matches, failing, rows, decide, specs}
use Rattle.rules_server.specs.Answers.{head_then, bytes_of, multipart_line, range_line, unsatisfied_line, length_line, part_head, closing, ok_answer, unsatisfied_answer}
use Rattle.rules_server.specs.Answers.{plain_answer, multipart_answer, parts_for, answer}
use Rattle.rules_server.specs.Refusals.{bad_method, bad_length, bad_times, bad_delimiter, bad_room, refusal_rows, refusal, outcome}
use Rattle.rules_tablet.specs.Copies.{copy_rule, is_complete}
use Rattle.rules_tablet.specs.Requests.{range_text, request_text}
use Rattle.rules_tablet.specs.Fields.{is_status_line, is_field, kind_of, is_size, type_field, range_field}
use Rattle.rules_tablet.specs.Heads.{other_status, broken_head, unlike_copy, wrong_range, empty_parts, head_refusal, body_stage}
use Rattle.rules_tablet.specs.Parsers.{field_line, head_end, status_line, part_line, part_end}
use Rattle.rules_tablet.specs.Feeding.{store, feed_byte}
use Rattle.rules_tablet.specs.Calls.{copy_ok, fresh, reader_ok, feedable, feed_call, request_refusal}
use Rattle.copy_request.specs.Requested.{request_outcome}
use Rattle.rules_server.specs.Numbers.{in_bytes}
use Rattle.rules_tablet.specs.SavedCopies.{saved_under, save_refusal, save_call, read_units, saved_read}
use Rattle.copy_bytes.specs.SavedFiles.{save_outcome, save_bytes}
use Rattle.copy_bytes.specs.Lists.{number_at, runs_from, list_bytes, is_copy}
use Rattle.baxoodhiir.specs.Reads.{is_readable, read_number}
use Rattle.baxoodhiir.specs.Requests.{request_said}
use Rattle.baxoodhiir.specs.Saves.{save_said, save_left, is_memory, load_said, load_left}
use Rattle.baxoodhiir.specs.Anchors.{ReasonsNumbered, OutcomesNumbered, ReportsNumbered, asking, answers, RefusalsNumbered, DatesAnswered, SavesNumbered}
use Rattle.baxoodhiir.specs.Anchors.{ListsSpelled}

pub reasons_numbered : ReasonsNumbered
reasons_numbered = record {
  head = refl;
  none = refl;
  long = refl;
  unit = refl;
  malformed = refl;
  many = refl;
  changed_file = refl;
  invalid = refl;
  unsatisfiable = refl;
  empty = refl;
  partial = refl;
}

pub outcomes_numbered : OutcomesNumbered
outcomes_numbered = record {
  status = λ r s n. refl;
  reason = λ r s n. refl;
  length = λ r s n. refl;
  refused = λ k. refl;
  no_reason = λ k. refl;
  no_length = λ k. refl;
}

pub reports_numbered : ReportsNumbered
reports_numbered = record {
  more = refl;
  finished = refl;
  refused = λ k. refl;
  written = λ n. refl;
  length = λ n. refl;
  not_written = λ k. refl;
  no_length = λ k. refl;
}

-- what the cases compute by
unfoldable computes : Unit {0}
unfolding print read_range near parts_of is_tag matches_tag failing bad_tag is_multipart_type bad_type bad_boundary bad_time bad_times rows decide specs head_then
    bytes_of multipart_line range_line unsatisfied_line length_line part_head closing ok_answer unsatisfied_answer plain_answer multipart_answer parts_for answer
    bad_method bad_length bad_delimiter bad_room refusal_rows refusal outcome copy_rule is_complete range_text request_text is_status_line is_field kind_of is_size
    type_field range_field other_status broken_head unlike_copy wrong_range empty_parts head_refusal body_stage field_line head_end status_line part_line part_end
    store feed_byte copy_ok fresh reader_ok feedable feed_call request_refusal request_outcome number_at in_bytes runs_from list_bytes is_copy is_readable
    read_number request_said is_valid day_number second_of_day second_number second_of weekday date_of fixdate_text read_fixdate read_form read_date date_read
    time_text matches saved_under save_refusal save_call read_units saved_read save_outcome save_bytes save_said save_left is_memory load_said load_left
computes = tt

-- a file that is too long, behind a method that is none to refuse
too_long : (f : Resource) (room : ℕ) → bad_length f.file ≡ true → answers (asking "GET" None) f room ≡ 2
unfolding bad_method refusal_rows refusal outcome
too_long f room h = rw h

pub refusals_numbered : RefusalsNumbered
unfolding computes
refusals_numbered = record {
  bad_method = refl;
  file_too_long = too_long;
  bad_tag = refl;
  bad_type = refl;
  bad_boundary = refl;
  boundary_in_data = refl;
  answer_too_long = refl;
  bad_time = refl;
  bad_head = refl;
  bad_status = refl;
  other_file = refl;
  bad_content_range = refl;
  bad_multipart = refl;
  too_many_runs = refl;
  byte_differs = refl;
  copy_complete = refl;
  bad_copy = refl;
  request_too_long = refl;
  bad_mark = refl;
  unknown_version = refl;
  bad_saved_tag = refl;
  saved_length_too_long = refl;
  too_many_saved_runs = refl;
  bad_saved_runs = refl;
  saved_run_too_far = refl;
  saved_cut_short = refl;
  saved_trailing = refl;
}

pub saves_numbered : SavesNumbered
unfolding computes
saves_numbered = record {
  written = refl;
  writes = refl;
  too_long = refl;
  no_copy = refl;
  no_list = refl;
  number = λ n. refl;
  length = λ n. refl;
  refused = λ k. refl;
  no_length = λ k. refl;
  loaded = refl;
  loaded_under_1 = refl;
  too_many_under_1 = refl;
  leaves = refl;
  stays = refl;
  short_tag = refl;
  long_tag = refl;
  short_list = refl;
  long_list = refl;
  unfit = refl;
}

pub dates_answered : DatesAnswered
unfolding computes
dates_answered = record { reference = refl; line = refl; same_second = refl; next_second = refl }

pub lists_spelled : ListsSpelled
unfolding computes
lists_spelled = record { size = refl; bytes = refl; number = refl; behind = refl }
