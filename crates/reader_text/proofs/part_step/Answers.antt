-- `part_step` takes the whole lines of a part, else bytes of one.
-- Assumes nothing.
use Rattle.reader_text.proofs.Text.{part_look}
use Rattle.reader_text.proofs.Part.{part_is}
use Rattle.reader_text.proofs.part_step.Goals as goal

pub returns-then-x-ne0 : goal.returns-then-x-ne0
returns-then-x-ne0 c =
    let a = c.args in
    rw c.with_part.ensures (part_is a.wanted.now.tag.now a.wanted.now.length a.piece.now a.s a.line.now a.tag.now a.boundary.now
    c.part_ahead-x.result c.requires.0
    (part_look a.s.stage c.requires.1) c.part_ahead-x.ensures c.if-x-ne0.true)
