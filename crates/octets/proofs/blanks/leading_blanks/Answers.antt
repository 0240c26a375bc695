use Rattle.std.proofs.Common.{rules, tests}
use Rattle.std.proofs.lemmas.Iterator.{YieldsList-from_slice}
use Rattle.rules_server.specs.Octets.{is_blank}
use Rattle.octets.proofs.Fronts.{counted}
use Rattle.octets.proofs.blanks.Laws.{trim_start_is}
use Rattle.octets.proofs.blanks.leading_blanks.Goals as goal

pub returns-clause-rest : goal.returns-clause-rest
returns-clause-rest c =
    let v = c.args.v.now in
    let e =
    counted is_blank c.take_while.result (YieldsList-from_slice v cc) c.take_while.ensures.closure c.take_while.ensures.done
    (λ x b q k. search (rules, tests)) _ c.count.ensures.ran in
    rw e (trim_start_is v)
