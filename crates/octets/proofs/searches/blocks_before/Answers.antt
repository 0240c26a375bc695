use Rattle.std.proofs.Common.{◌≡◌, ◌++◌, ◌/◌, length, take, drop, arith, rules, tests, refl}
use Rattle.rules_server.specs.Octets.{all, before}
use Rattle.octets.specs.Alike.{is_other}
use Rattle.octets.proofs.Fronts.{counted, YieldsList-from_chunks_exact, blocks_pass}
use Rattle.octets.proofs.searches.Laws.{before_more}
use Rattle.octets.proofs.searches.blocks_before.Goals as goal

pub returns-clause-rest : goal.returns-clause-rest
returns-clause-rest c =
    let v = c.args.v.now in
    let b = c.args.c in
    let e =
    counted (all (is_other b)) c.take_while.result (YieldsList-from_chunks_exact 16 c.take_while.result.iter v (omega arith) (cc) cc)
    c.take_while.ensures.closure c.take_while.ensures.done (λ x b q k. search (rules, tests)) _ c.count.ensures.ran in
    rw e
    (blocks_pass (all (is_other b)) 16 (λ m w. take m w ++ before b (drop m w) ≡ before b w) (λ w. refl) (λ m w u t h. before_more b 16 m w u t h)
    (length v / 16) v (omega arith))
