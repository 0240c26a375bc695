-- `run_units`: the runs read so far, and those still to come.
use Rattle.copy_bytes.proofs.runs_read.Laws.{RunsSoFar}
use Rattle.copy_bytes.proofs.runs_read.run_units.Given as goal

abbrev pub invariant-loop-i : goal.invariant-loop-i
invariant-loop-i l = RunsSoFar l.n l.count l.rest l.runs l.next l.i
