-- `stretch_step` stores a stretch and goes on behind it, or stands at its refusal.
-- Assumes nothing.
use Rattle.std.proofs.Common.{None, arith}
use Rattle.reader.proofs.pieces.Data.{data_is, data_refused}
use Rattle.reader.proofs.pieces.stretch_step.Goals as goal

pub returns-in-None : goal.returns-in-None
returns-in-None c =
    let a = c.args in
    let s = c.store_stretch-s in
    rw (c.stage_behind.ensures, c.saturating_sub.ensures)
    (data_is a.l a.buffer.now a.piece.now c.requires.0 c.within_runs.result (omega arith) a.d c.requires.1
    (record { runs = s.result.runs; taken = s.result.taken; refusal = None }) s.new.buffer (rw c.in-None.is at s.ensures.is))

pub returns-in-Some : goal.returns-in-Some
returns-in-Some c =
    let a = c.args in
    let s = c.store_stretch-s in
    rw c.number.ensures (data_refused a.l a.buffer.now a.piece.now c.requires.0 0 (omega arith) a.d c.requires.1 _ s.new.buffer (rw c.in-Some.is at s.ensures.is))
