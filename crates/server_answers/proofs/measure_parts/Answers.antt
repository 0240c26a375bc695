-- `measure_parts`: what an enormous skip leaves behind the lines of a part, the parts and the closing line tells the length of the body.
use native.Mathlib.Omega.{arith}
use Rattle.writing.proofs.window.Laws.{skips_text}
use Rattle.server_answers.proofs.Multiparts.{body_left}
use Rattle.server_answers.proofs.measure_parts.Goals as goal

pub overflow_sub-lines : goal.overflow_sub-lines
overflow_sub-lines c = omega (arith, skips_text c.put_part_head.ensures)

pub overflow_sub-result : goal.overflow_sub-result
overflow_sub-result c = omega (arith, skips_text c.put_closing.ensures)

pub returns : goal.returns
returns c =
    let f = c.args.f.now in
    body_left f.boundary.now f.media.now f.file.now c.args.parts.now
    (rw c.passing-lines.ensures.skip at (skips_text c.put_part_head.ensures)) c.pass_parts-left.ensures
    (rw c.passing-end.ensures.skip at (skips_text c.put_closing.ensures))
