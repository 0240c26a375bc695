-- `part_ahead` takes line for line; the invariant is what it ensures, before a line.
-- Assumes nothing.
use Rattle.std.proofs.Common.{◌≡◌, ◌+◌, ◌-◌, refl, arith}
use Rattle.octets.proofs.strings.Laws.{part_to_end}
use Rattle.reader_text.specs.Steps.{before_line}
use Rattle.reader_text.proofs.Part.{line_more}
use Rattle.reader_text.proofs.part_ahead.Goals as goal

pub loop-k-preserved : goal.loop-k-preserved
loop-k-preserved c =
    let a = c.args in
    let x = c.loop-k.x in
    let k = c.in-Some.k in
    let m : (x.taken + k) - x.taken ≡ k = omega arith in
    rw c.loop-k.invariant.1 (
      line_more a.n a.piece.now a.len a.cr a.part a.boundary_len a.after x k c.loop-k.invariant.1 c.loop-k.invariant.0
          (rw (part_to_end a.piece.now) at c.in-Some.ensures) _ _
          (λ p h. rw (c.in-Ok-Lines.is, c.in-Ok-Lines.field-0-is) at (rw m at (c.part_line.ensures (before_line x.part (x.after - (k + 1)) p) refl refl h))) refl,
      refl,
    )

pub returns-in-Ok-Data : goal.returns-in-Ok-Data
returns-in-Ok-Data c =
    let a = c.args in
    let x = c.loop-k.x in
    let k = c.in-Some.k in
    let m : (x.taken + k) - x.taken ≡ k = omega arith in
    line_more a.n a.piece.now a.len a.cr a.part a.boundary_len a.after x k c.loop-k.invariant.1 c.loop-k.invariant.0
    (rw (part_to_end a.piece.now) at c.in-Some.ensures) _ _
    (λ p h. rw (c.in-Ok-Data.is, c.in-Ok-Data.field-0-is) at (rw m at (c.part_line.ensures (before_line x.part (x.after - (k + 1)) p) refl refl h))) refl
