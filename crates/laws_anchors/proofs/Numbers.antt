-- The status and the number of each reason, and the number of each refusal, by computation.
use mathlib.Core.Path.{refl}
use Rattle.rules_demands.specs.AnchorTables.{Agree, literals}
use Rattle.rules_demands.specs.AnchorNumbers.{statuses, numbers, refusals, ReasonsAre}

statuses_agree : Agree statuses
unfolding statuses
statuses_agree = refl {a = literals statuses}

numbers_agree : Agree numbers
unfolding numbers
numbers_agree = refl {a = literals numbers}

refusals_agree : Agree refusals
unfolding refusals
refusals_agree = refl {a = literals refusals}

pub reasons_are : ReasonsAre
reasons_are = record { statuses = statuses_agree; numbers = numbers_agree; refusals = refusals_agree }
