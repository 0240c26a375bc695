-- `with_spec`: the run of the resolved spec is placed, if it has one.
use Rattle.server_ranges.proofs.Tally.{RunPlaced, resolved}
use Rattle.server_ranges.proofs.with_spec.Goals as goal
use Rattle.server_ranges.proofs.with_spec.Goals.{in-Some, in-None}

pub returns : goal.returns
returns c =
    let r = c.resolve-r in
    let k = c.match-r in
    let p : RunPlaced r.result.run c.args.t.parts c.args.parts.now k.placed k.parts = elim k.branch [
      | in-Some w ↦ rw (w.in-Some.is, w.parts-is, w.placed-is) w.place-placed.ensures
      | in-None w ↦ rw w.in-None.is (w.placed-is, w.parts-is)
    ] in
    rw c.is_some.ensures (resolved c.args.n c.args.t _ c.args.parts.now k.placed k.parts r.result r.ensures p)
