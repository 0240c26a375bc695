use Rattle.std.proofs.Common.{◌≡◌, ◌∙◌, ◌-◌, sym, ap, arith}
use Rattle.program_io.specs.Packed.{field_at, place_from}
use Rattle.program_io.proofs.packed.Laws.{next-place, last-place, end-stays}
use Rattle.program_io.proofs.packed.item.Goals as goal
use Rattle.program_io.proofs.packed.item.Goals.{else-loop-i-test, then-loop-i-test+then-at-v}

pub loop-i-preserved : goal.loop-i-preserved
loop-i-preserved c = let e = next-place c.args.v.now c.loop-i.at c.args.k c.loop-i.i (c.loop-i-test.true) in cc

pub returns : goal.returns
returns c =
    let v = c.args.v.now in
    let at = c.loop-i.at in
    let left = c.args.k - c.loop-i.i in
    let inv : place_from v at left ≡ place_from v 0 c.args.k = c.loop-i.invariant in
    let here : at ≡ place_from v 0 c.args.k = elim c.loop-i-test.branch [
      | else-loop-i-test w ↦ sym (last-place v at left (omega (arith, w.loop-i-test.false, c.loop-i.auto.i-end))) ∙ inv
      | then-loop-i-test+then-at-v w ↦ sym (end-stays v at left w.if-at-v.true) ∙ inv
    ]
    in
    c.field.ensures ∙ ap (field_at v) here
