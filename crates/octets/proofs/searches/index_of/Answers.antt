use Rattle.std.proofs.Common.{drop, rules, tests}
use Rattle.std.proofs.Math.Seq.{take-add}
use Rattle.std.proofs.lemmas.Iterator.{YieldsList-from_slice}
use Rattle.octets.specs.Alike.{is_other}
use Rattle.octets.proofs.Fronts.{counted}
use Rattle.octets.proofs.strings.Laws.{part_to_end}
use Rattle.octets.proofs.searches.Laws.{before_is}
use Rattle.octets.proofs.searches.index_of.Goals as goal

pub returns-clause-rest : goal.returns-clause-rest
returns-clause-rest c =
    let v = c.args.v.now in
    let passed = c.blocks_before-passed.result in
    let whole = part_to_end v passed in
    let e =
    counted (is_other c.args.c) c.take_while.result (YieldsList-from_slice (drop passed v) cc)
    c.take_while.ensures.closure c.take_while.ensures.done (λ x b q k. search (rules, tests)) _ c.count.ensures.ran in
    rw (e, take-add passed _ v, before_is c.args.c (drop passed v)) c.blocks_before-passed.ensures.rest
