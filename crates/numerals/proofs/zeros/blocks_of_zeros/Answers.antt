use Rattle.std.proofs.Common.{◌≡◌, ◌/◌, true, length, take, arith, rules, tests, refl}
use Rattle.rules_server.specs.Octets.{all, digit_zero}
use Rattle.octets.specs.Alike.{is_byte}
use Rattle.octets.proofs.Fronts.{counted, YieldsList-from_chunks_exact, blocks_pass}
use Rattle.numerals.proofs.zeros.Laws.{more_zeros}
use Rattle.numerals.proofs.zeros.blocks_of_zeros.Goals as goal

pub returns-clause-zeros : goal.returns-clause-zeros
returns-clause-zeros c =
    let d = c.args.d.now in
    let zeros = all (is_byte digit_zero) in
    let e = (counted zeros c.take_while.result (YieldsList-from_chunks_exact 8 c.take_while.result.iter d (omega arith) (cc) cc)
    c.take_while.ensures.closure c.take_while.ensures.done (λ x b q k. search (rules, tests)) _ c.count.ensures.ran) in
    rw e (blocks_pass zeros 8 (λ m w. zeros (take m w) ≡ true) (λ w. refl) (λ m w u t h. more_zeros w 8 m t h) (length d / 8) d (omega arith))
