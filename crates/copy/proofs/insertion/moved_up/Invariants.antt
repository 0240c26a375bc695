-- `moved_up` moves the last run first.
use Rattle.copy.proofs.insertion.Moves.{Up}
use Rattle.copy.proofs.insertion.moved_up.Given as goal

abbrev pub invariant-loop-i : goal.invariant-loop-i
invariant-loop-i l = Up l.initial.moved l.count l.start l.moved l.i
