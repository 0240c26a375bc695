-- `is_whole` follows the holes run by run: those from the end of the passed runs on are all.
use Rattle.std.proofs.Common.{◌≡◌, drop}
use Rattle.rules_tablet.specs.Runs.{WellFormed, holes_from, holes}
use Rattle.copy.proofs.is_whole.Given as goal

abbrev pub invariant-loop-r : goal.invariant-loop-r
invariant-loop-r l = WellFormed l.end l.n (drop l.r-index l.runs) × (holes_from l.end l.n (drop l.r-index l.runs) ≡ holes l.n l.runs)
