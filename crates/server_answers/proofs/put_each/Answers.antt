-- `put_each`: a part written behind those before, and the parts that are then left. At the end none is left.
use mathlib.Core.Path.{refl, sym, ◌∙◌}
use native.Mathlib.Numerals.{add-one}
use lib.ListN.{drop_of_length-le}
use lib.Seq.{drop-cons}
use Rattle.writing.specs.Window.{window_of}
use Rattle.writing.proofs.window.Laws.{nothing, both}
use Rattle.server_answers.proofs.Multiparts.{zeros}
use Rattle.server_answers.proofs.put_each.Goals as goal

pub loop-r-preserved : goal.loop-r-preserved
loop-r-preserved c =
    let l = c.loop-r in
    let left = rw (drop-cons c.args.parts.now l.r-index zeros c.loop-r-test.true) at l.invariant.1 in
    (c.put_part.ensures.name ∙ l.invariant.0, rw add-one (both _ _ (window_of l.w) c.put_part.ensures.bytes refl ∙ left))

pub returns : goal.returns
returns c =
    let l = c.loop-r in
    let none = drop_of_length-le c.args.parts.now {i = l.r-index} c.loop-r-test.false in
    record { name = l.invariant.0; bytes = sym (nothing (window_of l.w)) ∙ rw none at l.invariant.1 }
