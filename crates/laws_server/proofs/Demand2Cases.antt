-- Requests that demand 2 speaks of: the derivations of their Range by hand, the rest by computation.
use mathlib.Core.Path.{refl}
use mathlib.Core.List.{[], ◌∷◌}
use native.Mathlib.Omega.{arith}
use Rattle.rules_server.specs.Octets.{codes}
use Rattle.rules_server.specs.Numerals.{print}
use Rattle.rules_server.specs.Tags.{matches_tag}
use Rattle.rules_server.specs.Ranges.{span, onward, suffix, read_range}
use Rattle.rules_server.specs.Parts.{near, parts_of}
use Rattle.rules_server.specs.Calendar.{is_valid, day_number, second_of_day, second_number, second_of, weekday, bad_time, date_of}
use Rattle.rules_server.specs.Dates.{fixdate_text, rfc850_text, asctime_text, is_within50_years, chosen_year, read_fixdate, read_asctime, read_rfc850, read_form}
use Rattle.rules_server.specs.Dates.{read_date, date_read, time_text}
use Rattle.rules_server.specs.Status.{range_value, failing, rows, decide, specs}
use Rattle.rules_server.specs.Answers.{multipart_line, range_line, unsatisfied_line, length_line, part_head, closing, ok_answer, unsatisfied_answer, plain_answer}
use Rattle.rules_server.specs.Answers.{multipart_answer, parts_for, answer}
use Rattle.rules_demands.specs.GrammarRange.{RangeText, first_last, open_end, last_bytes, Leading, Following}
use Rattle.rules_demands.specs.Demand2Server.{Wanted}
use Rattle.rules_demands.specs.Demand2Cases.{asking, tagged_file, asking_by_date, dated_file, Demand2Cases}
use Rattle.laws_server.proofs.grammar.Letters.{fold_any}
use Rattle.laws_server.proofs.Demand2.{demand_2}

-- a line `unfolding computes` opens all of these
unfoldable computes : Unit {0}
unfolding print read_range near parts_of matches_tag failing rows decide specs multipart_line range_line unsatisfied_line length_line part_head closing ok_answer
    unsatisfied_answer plain_answer multipart_answer parts_for answer
computes = tt

-- what dates compute by
unfoldable dates_compute : Unit {0}
unfolding is_valid day_number second_of_day second_number second_of weekday bad_time date_of fixdate_text rfc850_text asctime_text is_within50_years chosen_year read_fixdate
    read_asctime read_rfc850 read_form read_date date_read time_text
dates_compute = tt

-- ` Bytes=,7-,<tab>0-1 , -2,`, trimmed
several_text : RangeText (range_value (asking (codes " Bytes=,7-,\t0-1 , -2,"))) (onward 7 ∷ span 0 1 ∷ suffix 2 ∷ [])
several_text =
    record {
      unit = codes "Bytes=";
      set = codes ",7-,\t0-1 , -2,";
      is_unit = fold_any (codes "Bytes=") (codes "bytes=") refl;
      members =
          record {
            lead = codes ",";
            one = codes "7-";
            rest = codes ",\t0-1 , -2,";
            first = onward 7;
            others = span 0 1 ∷ suffix 2 ∷ [];
            leading = Leading.comma_then [] [] refl (Leading.none refl) refl;
            spec = open_end (codes "7") (record { some = refl; digits = refl }) refl refl;
            following =
                Following.spec [] (codes "\t") (codes "0-1") (codes " , -2,") (span 0 1) (suffix 2 ∷ []) refl refl
                (first_last (codes "0") (codes "1") (record { some = refl; digits = refl }) (record { some = refl; digits = refl }) refl refl)
                (Following.spec (codes " ") (codes " ") (codes "-2") (codes ",") (suffix 2) [] refl refl
                (last_bytes (codes "2") (record { some = refl; digits = refl }) refl refl)
                (Following.empty [] [] refl (Following.none refl refl) refl) refl refl)
                refl refl;
            text = refl;
            specs = refl;
          };
      text = refl;
    }

-- `bytes=5-,-1`
empty_text : RangeText (range_value (asking (codes "bytes=5-,-1"))) (onward 5 ∷ suffix 1 ∷ [])
empty_text =
    record {
      unit = codes "bytes=";
      set = codes "5-,-1";
      is_unit = fold_any (codes "bytes=") (codes "bytes=") refl;
      members =
          record {
            lead = [];
            one = codes "5-";
            rest = codes ",-1";
            first = onward 5;
            others = suffix 1 ∷ [];
            leading = Leading.none refl;
            spec = open_end (codes "5") (record { some = refl; digits = refl }) refl refl;
            following =
                Following.spec [] [] (codes "-1") [] (suffix 1) [] refl refl
                (last_bytes (codes "1") (record { some = refl; digits = refl }) refl refl)
                (Following.none refl refl) refl refl;
            text = refl;
            specs = refl;
          };
      text = refl;
    }

-- `bytes=0-0,2-1`
backward_text : RangeText (range_value (asking (codes "bytes=0-0,2-1"))) (span 0 0 ∷ span 2 1 ∷ [])
backward_text =
    record {
      unit = codes "bytes=";
      set = codes "0-0,2-1";
      is_unit = fold_any (codes "bytes=") (codes "bytes=") refl;
      members =
          record {
            lead = [];
            one = codes "0-0";
            rest = codes ",2-1";
            first = span 0 0;
            others = span 2 1 ∷ [];
            leading = Leading.none refl;
            spec = first_last (codes "0") (codes "0") (record { some = refl; digits = refl }) (record { some = refl; digits = refl }) refl refl;
            following =
                Following.spec [] [] (codes "2-1") [] (span 2 1) [] refl refl
                (first_last (codes "2") (codes "1") (record { some = refl; digits = refl }) (record { some = refl; digits = refl }) refl refl)
                (Following.none refl refl) refl refl;
            text = refl;
            specs = refl;
          };
      text = refl;
    }

-- `bytes=7-,0-1`
dated_text : RangeText (range_value (asking_by_date (codes "bytes=7-,0-1"))) (onward 7 ∷ span 0 1 ∷ [])
dated_text =
    record {
      unit = codes "bytes=";
      set = codes "7-,0-1";
      is_unit = fold_any (codes "bytes=") (codes "bytes=") refl;
      members =
          record {
            lead = [];
            one = codes "7-";
            rest = codes ",0-1";
            first = onward 7;
            others = span 0 1 ∷ [];
            leading = Leading.none refl;
            spec = open_end (codes "7") (record { some = refl; digits = refl }) refl refl;
            following =
                Following.spec [] [] (codes "0-1") [] (span 0 1) [] refl refl
                (first_last (codes "0") (codes "1") (record { some = refl; digits = refl }) (record { some = refl; digits = refl }) refl refl)
                (Following.none refl refl) refl refl;
            text = refl;
            specs = refl;
          };
      text = refl;
    }

several_wanted : Wanted (asking (codes " Bytes=,7-,\t0-1 , -2,")) (tagged_file (codes "01234567")) (codes " Bytes=,7-,\t0-1 , -2,")
    (onward 7 ∷ span 0 1 ∷ suffix 2 ∷ [])
unfolding computes
several_wanted = record { is_get = refl; ranged = refl; short = omega arith; well_formed = several_text; few = omega arith; unfailing = refl }

empty_wanted : Wanted (asking (codes "bytes=5-,-1")) (tagged_file []) (codes "bytes=5-,-1") (onward 5 ∷ suffix 1 ∷ [])
unfolding computes
empty_wanted = record { is_get = refl; ranged = refl; short = omega arith; well_formed = empty_text; few = omega arith; unfailing = refl }

backward_wanted : Wanted (asking (codes "bytes=0-0,2-1")) (tagged_file (codes "01234567")) (codes "bytes=0-0,2-1") (span 0 0 ∷ span 2 1 ∷ [])
unfolding computes
backward_wanted = record { is_get = refl; ranged = refl; short = omega arith; well_formed = backward_text; few = omega arith; unfailing = refl }

dated-wanted : Wanted (asking_by_date (codes "bytes=7-,0-1")) (dated_file (codes "01234567")) (codes "bytes=7-,0-1") (onward 7 ∷ span 0 1 ∷ [])
unfolding computes dates_compute
dated-wanted = record { is_get = refl; ranged = refl; short = omega arith; well_formed = dated_text; few = omega arith; unfailing = refl }

pub demand_2_cases : Demand2Cases
unfolding computes dates_compute
demand_2_cases =
    record {
      several = record { wanted = several_wanted; demanded = demand_2 _ _ _ _ several_wanted; reason = refl; sent = refl };
      empty = record { wanted = empty_wanted; demanded = demand_2 _ _ _ _ empty_wanted; reason = refl; sent = refl };
      backward = record { wanted = backward_wanted; demanded = demand_2 _ _ _ _ backward_wanted; reason = refl; sent = refl };
      dated = record { wanted = dated-wanted; demanded = demand_2 _ _ _ _ dated-wanted; reason = refl; sent = refl };
    }
