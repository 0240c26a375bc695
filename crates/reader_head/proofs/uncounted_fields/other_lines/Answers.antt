-- `other_lines` takes a line at a time: those taken and those that stand at the front of the rest are those of the piece.
use native.Mathlib.Omega.{arith}
use mathlib.Core.Path.{◌≡◌, refl, sym, ◌∙◌}
use lib.ListN.{drop}
use Rattle.octets.proofs.strings.Laws.{part_to_end}
use Rattle.reader_head.specs.Lines.{other_line}
use Rattle.reader_head.proofs.uncounted_fields.Counts.{count_end, count_on, taken_within, count_full, none_bytes, some_bytes_lem}
use Rattle.reader_head.proofs.uncounted_fields.other_lines.Goals as goal

pub returns-in_default : goal.returns-in_default
returns-in_default c =
    let piece = c.args.piece.now in
    let taken = c.loop-lines.taken in
    let e = sym c.in_default.is ∙ rw part_to_end at c.other_line.ensures in
    count_end c.args.most piece c.loop-lines.lines taken (other_line (drop taken piece)) (omega arith) refl (none_bytes (other_line (drop taken piece)) e)
    c.loop-lines.invariant.1

pub overflow_add-taken : goal.overflow_add-taken
overflow_add-taken c =
    let piece = c.args.piece.now in
    let taken = c.loop-lines.taken in
    let s = some_bytes_lem (other_line (drop taken piece)) c.in-Some.k (sym c.in-Some.is ∙ rw part_to_end at c.other_line.ensures) in
    omega (arith, taken_within piece taken c.in-Some.k c.loop-lines.invariant.0 s.0)

pub loop-lines-preserved : goal.loop-lines-preserved
loop-lines-preserved c =
    let piece = c.args.piece.now in
    let taken = c.loop-lines.taken in
    let s = some_bytes_lem (other_line (drop taken piece)) c.in-Some.k (sym c.in-Some.is ∙ rw part_to_end at c.other_line.ensures) in (
      omega (arith, taken_within piece taken c.in-Some.k c.loop-lines.invariant.0 s.0),
      count_on c.args.most piece c.loop-lines.lines taken c.in-Some.k (omega arith) s.0 s.1 c.loop-lines.invariant.1,
    )

pub returns : goal.returns
returns c =
    let e : c.loop-lines.lines ≡ c.args.most = omega arith in
    count_full c.args.most c.args.piece.now c.args.most c.loop-lines.taken (omega arith) (rw e at c.loop-lines.invariant.1)
