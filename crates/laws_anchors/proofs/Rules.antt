-- The copy's rule and the reader's rule hold of the examples as the tables say, by computation.
use mathlib.Core.Path.{refl}
use Rattle.rules_server.specs.Tags.{bad_boundary}
use Rattle.rules_tablet.specs.Copies.{copy_rule}
use Rattle.rules_tablet.specs.Heads.{other_status, broken_head, unlike_copy, wrong_range, empty_parts, head_refusal}
use Rattle.rules_tablet.specs.Calls.{copy_ok, fresh, reader_ok}
use Rattle.rules_demands.specs.AnchorTables.{Agree, literals}
use Rattle.rules_demands.specs.AnchorRules.{copies, records, fresh_records, readers, stages, accepted_heads, RulesAre}

-- what the tables compute by
unfoldable computes : Unit {0}
unfolding bad_boundary copy_rule other_status broken_head unlike_copy wrong_range empty_parts head_refusal copy_ok fresh reader_ok
computes = tt

copies_agree : Agree copies
unfolding copies computes
copies_agree = refl {a = literals copies}

records_agree : Agree records
unfolding records computes
records_agree = refl {a = literals records}

readers_agree : Agree readers
unfolding readers computes
readers_agree = refl {a = literals readers}

stages_agree : Agree stages
unfolding stages computes
stages_agree = refl {a = literals stages}

accepted_heads_agree : Agree accepted_heads
unfolding accepted_heads computes
accepted_heads_agree = refl {a = literals accepted_heads}

fresh_records_agree : Agree fresh_records
unfolding fresh_records computes
fresh_records_agree = refl {a = literals fresh_records}

pub rules_are : RulesAre
rules_are = record {
  copies = copies_agree;
  records = records_agree;
  readers = readers_agree;
  stages = stages_agree;
  accepted_heads = accepted_heads_agree;
  fresh_records = fresh_records_agree;
}
