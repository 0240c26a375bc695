-- `put_runs`: the runs that are left, written now, are all runs written at the start.
use Rattle.std.proofs.Common.{◌≡◌, drop}
use Rattle.writing.specs.Window.{window_of, write}
use Rattle.copy_bytes.specs.Lists.{runs_bytes}
use Rattle.copy_bytes.proofs.written.put_runs.Given as goal

abbrev pub invariant-loop-r : goal.invariant-loop-r
invariant-loop-r l =
    (l.own.out.ghost_name ≡ l.initial.own.out.ghost_name)
    × (write (runs_bytes (drop l.r-index l.runs)) (window_of l.own) ≡ write (runs_bytes l.runs) (window_of l.initial.own))
