-- `well_formed` follows the definition run by run.
use Rattle.std.proofs.Common.{◌≡◌, drop}
use Rattle.rules_tablet.specs.Runs.{well_formed}
use Rattle.copy.proofs.rule.well_formed.Given as goal

abbrev pub invariant-loop-r : goal.invariant-loop-r
invariant-loop-r l = well_formed l.lo l.n (drop l.r-index l.runs) ≡ well_formed 0 l.n l.runs
