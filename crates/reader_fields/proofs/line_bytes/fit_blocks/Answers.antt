-- `fit_blocks` passes the blocks in front whose bytes may stand in a line.
use Rattle.std.proofs.Common.{◌≡◌, ◌+◌, ◌/◌, length, drop, arith, rules, tests}
use Rattle.rules_server.specs.Octets.{all}
use Rattle.rules_tablet.specs.Lines.{is_line_byte}
use Rattle.octets.proofs.Fronts.{counted, YieldsList-from_chunks_exact, blocks_pass}
use Rattle.reader_fields.specs.Runs.{leading}
use Rattle.reader_fields.proofs.line_bytes.Laws.{leading_more}
use Rattle.reader_fields.proofs.line_bytes.fit_blocks.Goals as goal

pub returns-clause-rest : goal.returns-clause-rest
returns-clause-rest c =
    let part = c.args.part.now in
    let e =
    counted (all is_line_byte) c.take_while.result (YieldsList-from_chunks_exact 16 c.take_while.result.iter part (omega arith) (cc) cc)
    c.take_while.ensures.closure c.take_while.ensures.done (λ x b q k. search (rules, tests)) _ c.count.ensures.ran in
    rw e
    (blocks_pass (all is_line_byte) 16 (λ m w. leading w ≡ m + leading (drop m w)) (λ w. omega arith) (λ m w u t h. leading_more 16 m w u t h)
    (length part / 16) part (omega arith))
