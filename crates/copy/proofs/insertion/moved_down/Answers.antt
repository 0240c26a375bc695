-- `moved_down` moves the first run first.
use Rattle.std.proofs.Common.{refl, arith}
use Rattle.rules_tablet.specs.Runs.{run}
use Rattle.copy.proofs.insertion.Moves.{down_turn, down_end}
use Rattle.copy.proofs.insertion.moved_down.Goals as goal

-- nothing is moved
pub loop-j-init : goal.loop-j-init
loop-j-init c = record { room = omega arith; size = refl; to = omega arith; list = refl; behind = refl }

-- a run moves down
pub loop-j-preserved : goal.loop-j-preserved
loop-j-preserved c = down_turn c.loop-j.invariant (omega arith)

-- the last place gets free
pub returns : goal.returns
returns c = down_end c.loop-j.invariant (omega arith) (run 0 0)
