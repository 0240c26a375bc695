-- `line_run` passes blocks and then bytes, of the front of the piece.
use Rattle.std.proofs.Common.{arith, ◌∙◌, drop, take}
use Rattle.octets.proofs.strings.Laws.{part_to_end}
use Rattle.reader_fields.proofs.line_bytes.Laws.{leading_is, leading_le, leading-take}
use Rattle.reader_fields.proofs.line_bytes.line_run.Goals as goal

pub overflow_add-result : goal.overflow_add-result
overflow_add-result c =
    let piece = c.args.piece.now in
    let front = take c.min.result piece in
    let passed = c.fit_blocks-passed.result in
    let rest = rw (part_to_end front passed) at c.fit_bytes.ensures ∙ leading_is (drop passed front) in
    omega (arith, rest, c.fit_blocks-passed.ensures.rest, leading-take c.min.result piece, leading_le piece)

pub returns : goal.returns
returns c =
    let piece = c.args.piece.now in
    let front = take c.min.result piece in
    let passed = c.fit_blocks-passed.result in
    let rest = rw (part_to_end front passed) at c.fit_bytes.ensures ∙ leading_is (drop passed front) in
    omega (arith, rest, c.fit_blocks-passed.ensures.rest, leading-take c.min.result piece, leading_le piece)
