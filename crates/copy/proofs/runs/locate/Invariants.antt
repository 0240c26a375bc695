-- `locate` follows the definition run by run: where p stands among the runs from `index` on, it stands among all, so many runs further on.
use Rattle.copy.proofs.runs.Looks.{Looked}
use Rattle.copy.proofs.runs.locate.Given as goal

abbrev pub invariant-loop-index : goal.invariant-loop-index
invariant-loop-index l = Looked l.runs l.n l.p l.index
