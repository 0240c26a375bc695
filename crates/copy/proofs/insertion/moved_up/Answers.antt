-- `moved_up` moves the last run first.
use Rattle.std.proofs.Common.{refl, arith}
use Rattle.copy.proofs.runs.Fronts.{ended}
use Rattle.copy.proofs.insertion.Moves.{up_turn, up_end}
use Rattle.copy.proofs.insertion.moved_up.Goals as goal

-- nothing is moved
pub loop-i-init : goal.loop-i-init
loop-i-init c =
    let a = c.args in
    record {
      room = omega arith;
      size = refl;
      from = omega arith;
      to = omega arith;
      before = refl;
      behind = rw (ended a.runs a.count a.count (omega arith));
    }

-- a run moves up
pub loop-i-preserved : goal.loop-i-preserved
loop-i-preserved c = up_turn c.loop-i.invariant (omega arith)

-- the run is put into the place that is free
pub returns : goal.returns
returns c = up_end c.loop-i.invariant (omega arith) c.args.r
