-- `part_ahead` takes line for line; the invariant is what it ensures, before a line. The measure is what is left of the piece.
-- Assumes nothing.
use Rattle.std.proofs.Common.{◌≡◌, ◌-◌, length}
use Rattle.rules_tablet.specs.declared.Stage.TheVariants.{PartLine}
use Rattle.reader_text.specs.Steps.{PartAheadIs}
use Rattle.reader_text.proofs.part_ahead.Given as goal

abbrev pub invariant-loop-k : goal.invariant-loop-k
invariant-loop-k l = PartAheadIs l.n l.piece l.len l.cr l.initial.x.part l.boundary_len l.initial.x.after l.x × (l.x.stage ≡ PartLine)

abbrev pub decreases-loop-k : goal.decreases-loop-k
decreases-loop-k l = length l.piece - l.x.taken
