use Rattle.std.proofs.Common.{eqb, drop, rules, tests}
use Rattle.std.proofs.lemmas.Iterator.{YieldsList-from_slice}
use Rattle.rules_server.specs.Numerals.{digit}
use Rattle.octets.proofs.Fronts.{counted}
use Rattle.octets.proofs.strings.Laws.{part_to_end}
use Rattle.numerals.proofs.zeros.Laws.{zeros-front, significant_is}
use Rattle.numerals.proofs.zeros.without_zeros.Goals as goal

pub returns : goal.returns
returns c =
    let d = c.args.d.now in
    let k = c.blocks_of_zeros in
    let rest = drop k.result d in
    let whole = part_to_end d k.result in
    let e = (counted (λ b. eqb (digit b) 0) c.take_while.result (YieldsList-from_slice rest cc) c.take_while.ensures.closure c.take_while.ensures.done
    (λ x b q k. search (rules, tests)) _ c.count.ensures.ran) in
    rw (whole, part_to_end rest c.count.result, e, significant_is rest) (zeros-front k.result d k.ensures.within k.ensures.zeros)
