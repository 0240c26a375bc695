-- `put_runs`: the runs that are left, written now, are all runs written at the start.
use Rattle.std.proofs.Common.{sym, ◌∙◌, arith, rules}
use Rattle.writing.specs.Window.{window_of}
use Rattle.rules_tablet.specs.Runs.{run}
use Rattle.copy_bytes.proofs.Lists.{bytes_step, bytes_end}
use Rattle.copy_bytes.proofs.written.put_runs.Goals as goal

pub loop-r-preserved : goal.loop-r-preserved
loop-r-preserved c =
    let l = c.loop-r in
    let p = c.put_pair.ensures in
    (p.name ∙ l.invariant.0, bytes_step c.args.runs.now l.r-index (run 0 0) (window_of l.own) (omega arith) p.bytes ∙ l.invariant.1)

pub returns : goal.returns
returns c =
    let l = c.loop-r in
    let written = sym (bytes_end c.args.runs.now l.r-index (window_of l.own) (omega arith)) ∙ l.invariant.1 in
    record { name = search rules; bytes = search (rules, written) }
