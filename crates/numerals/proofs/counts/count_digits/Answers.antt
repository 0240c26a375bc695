use Rattle.std.proofs.Common.{drop, rules, tests}
use Rattle.std.proofs.lemmas.Iterator.{YieldsList-from_slice}
use Rattle.rules_server.specs.Octets.{is_digit}
use Rattle.octets.proofs.Fronts.{counted}
use Rattle.octets.proofs.strings.Laws.{part_to_end}
use Rattle.numerals.proofs.counts.Laws.{zeros-front, digits_is}
use Rattle.numerals.proofs.counts.count_digits.Goals as goal

pub returns-clause-count : goal.returns-clause-count
returns-clause-count c =
    let m = c.args.m.now in
    let k = c.blocks_of_zeros-zeros in
    let rest = drop k.result m in
    let whole = part_to_end m k.result in
    let e = (counted is_digit c.take_while.result (YieldsList-from_slice rest cc) c.take_while.ensures.closure c.take_while.ensures.done
    (λ x b q k. search (rules, tests)) _ c.count.ensures.ran) in
    rw (e, digits_is rest) (zeros-front k.result m k.ensures.within k.ensures.zeros)
