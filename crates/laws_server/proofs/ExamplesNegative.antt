-- Examples at the edges of document 01's rules: every row of the table is what the definitions give, by computation.
use Prim.Native.Nat.{ℕ}
use mathlib.Core.Path.{refl}
use mathlib.Core.Bool.{true, false}
use mathlib.Core.List.{[], ◌∷◌}
use Rattle.rules_server.specs.Numerals.{print}
use Rattle.rules_server.specs.Tags.{is_tag, matches_tag, bad_tag, is_multipart_type, bad_type, bad_boundary}
use Rattle.rules_server.specs.Calendar.{bad_time}
use Rattle.rules_server.specs.Ranges.{spec_at, read_list, read_range}
use Rattle.rules_server.specs.Parts.{near, parts_of}
use Rattle.rules_server.specs.Status.{Row, failing, rows, decide, specs}
use Rattle.rules_server.specs.Answers.{head_then, bytes_of, multipart_line, range_line, unsatisfied_line, length_line, part_head, closing, ok_answer, unsatisfied_answer}
use Rattle.rules_server.specs.Answers.{plain_answer, multipart_answer, parts_for, answer}
use Rattle.rules_server.specs.Refusals.{bad_method, bad_length, bad_times, bad_delimiter, bad_room, RefusalRow, refusal_rows, refusal, outcome, output}
use Rattle.rules_server.specs.declared.Reason.{Reason}
use Rattle.rules_server.specs.declared.Reason.TheVariants.{Head, None, Long, Unit as OtherUnit, Malformed, Many, ChangedFile, Invalid, Unsatisfiable, Empty}
use Rattle.rules_demands.specs.ExamplesNegative.{edge_of, edges, EdgesHold, EdgeRows}

-- a line `unfolding computes` opens all of these
unfoldable computes : Unit {0}
unfolding print is_tag matches_tag bad_tag is_multipart_type bad_type bad_boundary bad_time spec_at read_list read_range near parts_of failing rows decide specs
    head_then bytes_of multipart_line range_line unsatisfied_line length_line part_head closing ok_answer unsatisfied_answer plain_answer multipart_answer parts_for answer
    bad_method bad_length bad_times bad_delimiter bad_room refusal_rows refusal outcome output
computes = tt

pub edges_hold : EdgesHold
unfolding computes edge_of edges
edges_hold = refl

-- rows that do not hold
abbrev passed : ℕ → RefusalRow
passed k = record { holds = false; number = k }

abbrev skipped : Reason → Row
skipped x = record { applies = false; reason = x }

pub edge_rows : EdgeRows
unfolding computes
edge_rows =
    record {
      delimiter =
          record {
            row = record { holds = true; number = 6 };
            first =
                record {
                  before = passed 1 ∷ passed 2 ∷ passed 3 ∷ passed 4 ∷ passed 5 ∷ passed 9 ∷ [];
                  behind = record { holds = true; number = 7 } ∷ [];
                  split = refl;
                  earlier = (refl, (refl, (refl, (refl, (refl, (refl, tt))))));
                  here = refl;
                };
            carries = refl;
          };
      weak =
          record {
            row = record { applies = true; reason = ChangedFile };
            first =
                record {
                  before = skipped Head ∷ skipped None ∷ skipped Long ∷ skipped OtherUnit ∷ skipped Malformed ∷ skipped Many ∷ [];
                  behind = skipped Invalid ∷ skipped Unsatisfiable ∷ skipped Empty ∷ [];
                  split = refl;
                  earlier = (refl, (refl, (refl, (refl, (refl, (refl, tt))))));
                  here = refl;
                };
            carries = refl;
          };
      fitting = (refl, (refl, (refl, (refl, (refl, (refl, (refl, (refl, tt))))))));
    }
