-- What values read as and times are written as is as the tables say, by computation.
use mathlib.Core.Path.{refl}
use Rattle.rules_server.specs.Calendar.{is_valid, day_number, second_of_day, second_number, second_of, weekday, bad_time, date_of}
use Rattle.rules_server.specs.Dates.{fixdate_text, rfc850_text, asctime_text, is_within50_years, chosen_year, read_fixdate, read_asctime, read_rfc850, read_form}
use Rattle.rules_server.specs.Dates.{read_date, date_read, time_text}
use Rattle.rules_demands.specs.AnchorTables.{Agree, literals}
use Rattle.rules_demands.specs.AnchorDates.{readings, writings, name_tables, digit_texts, judged, DatesAre}

-- what dates compute by
unfoldable pub dates_compute : Unit {0}
unfolding is_valid day_number second_of_day second_number second_of weekday bad_time date_of fixdate_text rfc850_text asctime_text is_within50_years chosen_year read_fixdate
    read_asctime read_rfc850 read_form read_date date_read time_text
dates_compute = tt

readings_agree : Agree readings
unfolding readings dates_compute
readings_agree = refl {a = literals readings}

writings_agree : Agree writings
unfolding writings dates_compute
writings_agree = refl {a = literals writings}

names_agree : Agree name_tables
unfolding name_tables
names_agree = refl {a = literals name_tables}

digits_agree : Agree digit_texts
unfolding digit_texts
digits_agree = refl {a = literals digit_texts}

judged_agree : Agree judged
unfolding judged dates_compute
judged_agree = refl {a = literals judged}

pub dates_are : DatesAre
dates_are = record {
  readings = readings_agree;
  writings = writings_agree;
  name_tables = names_agree;
  digit_texts = digits_agree;
  judged = judged_agree;
}
