-- `pass`: a delimiter's line is passed whole; else what is still to be passed leads where the whole piece does.
use mathlib.Core.Path.{◌≡◌}
use lib.ListN.{drop}
use Rattle.reader_multipart.specs.Passing.{pass_on}
use Rattle.reader_multipart.proofs.delimiters.pass.Given as goal

abbrev pub invariant-loop-b : goal.invariant-loop-b
invariant-loop-b l = (l.x.taken ≡ l.b-index) × (pass_on l.x l.boundary (drop l.b-index l.piece) ≡ pass_on l.initial.x l.boundary l.piece)
