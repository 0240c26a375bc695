-- `head_step` takes lines whose names do not count at once, where there are some, else a whole line, else bytes of one.
-- Assumes nothing.
use Rattle.reader_text.proofs.Byte.{sized_fits}
use Rattle.reader_text.proofs.Whole.{lines_room, lines_is}
use Rattle.reader_text.proofs.head_step.Goals as goal

pub with_lines-requires : goal.with_lines-requires
with_lines-requires c = lines_room c.in-Some.ensures

pub returns-in-Some : goal.returns-in-Some
returns-in-Some c =
    let a = c.args in
    rw c.with_lines.ensures (lines_is a.wanted.now.tag.now a.wanted.now.length a.piece.now a.s a.line.now a.tag.now a.boundary.now
    c.in-Some.o c.in-Some.ensures
    (sized_fits a.s a.line.now a.tag.now a.boundary.now c.requires.0))
