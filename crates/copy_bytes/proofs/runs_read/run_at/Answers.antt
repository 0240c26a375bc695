-- `run_at` reads the two numbers of a run.
use Rattle.copy_bytes.proofs.Lists.{run-numbers}
use Rattle.copy_bytes.proofs.runs_read.run_at.Goals as goal

pub returns : goal.returns
returns c =
    let a = c.args in
    run-numbers a.b.now a.k c.number_at.result c.number_at-2.result c.number_at.ensures c.number_at-2.ensures
