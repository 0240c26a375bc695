-- `moved_down` moves the first run first.
use Rattle.copy.proofs.insertion.Moves.{Down}
use Rattle.copy.proofs.insertion.moved_down.Given as goal

abbrev pub invariant-loop-j : goal.invariant-loop-j
invariant-loop-j l = Down l.initial.kept l.count l.gone l.kept l.j
