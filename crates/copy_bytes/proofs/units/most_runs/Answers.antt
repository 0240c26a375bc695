-- `most_runs`: those of version 1, else as many as a copy may have.
use borrow.Author.Tests.{eq-eqb, ne_eqb}
use Rattle.copy_bytes.proofs.units.most_runs.Goals as goal

pub returns-then-version-eq-FIRST_VERSION : goal.returns-then-version-eq-FIRST_VERSION
returns-then-version-eq-FIRST_VERSION c = rw (eq-eqb c.args.version 1 c.if-version-eq-FIRST_VERSION.true)

pub returns : goal.returns
returns c = rw (ne_eqb c.args.version 1 c.if-version-eq-FIRST_VERSION.false)
