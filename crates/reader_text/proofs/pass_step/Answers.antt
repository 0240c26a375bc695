-- `pass_step` passes the bytes between parts, where the first is not refused.
-- Assumes nothing.
use Rattle.reader_text.proofs.Byte.{between_taken, between_refused}
use Rattle.reader_text.proofs.pass_step.Goals as goal

pub returns-then-x-eq0 : goal.returns-then-x-eq0
returns-then-x-eq0 c =
    let a = c.args in
    let x = c.pass-x in
    λ t n line tag array w eb f given.
    rw c.with_stage-state.ensures (between_refused t n a.s line tag array w f a.piece.now given x.result (rw eb x.ensures) c.if-x-eq0.true)

pub returns-else-x-eq0 : goal.returns-else-x-eq0
returns-else-x-eq0 c =
    let a = c.args in
    let x = c.pass-x in
    λ t n line tag array w eb f given.
    between_taken t n a.s line tag array w f a.piece.now given x.result (rw eb x.ensures) c.if-x-eq0.false c.passed_to-state.result
    (c.passed_to-state.ensures.step line tag array) c.passed_to-state.ensures.within
