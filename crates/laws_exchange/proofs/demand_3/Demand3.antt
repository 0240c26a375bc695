-- Demand 3, with nothing assumed: the list of calls, and the two answers that complete the copy.
use Rattle.rules_demands.specs.Demand3.{Demand3Holds}
use Rattle.laws_reader.proofs.own_answers.Own.{own_tracks}
use Rattle.laws_reader.proofs.rules_kept.Demand1.{splits, fair_always, asking_always}
use Rattle.laws_exchange.proofs.calls.Calls.{calls_kept}
use Rattle.laws_exchange.proofs.completion.Round.{two_answers}

pub demand_3 : Demand3Holds
demand_3 file tag s cs ss h =
    let x = calls_kept own_tracks splits fair_always asking_always file tag s cs ss h in
    record {
      kept = x.0;
      told = x.1;
      asks_never = x.2;
      two = λ few. two_answers own_tracks splits fair_always asking_always file tag _ x.0.again few;
    }
