-- `item` passes over k fields.
use Rattle.std.proofs.Common.{◌≡◌, ◌-◌}
use Rattle.program_io.specs.Packed.{place_from}
use Rattle.program_io.proofs.packed.item.Given as goal

abbrev pub invariant-loop-i : goal.invariant-loop-i
invariant-loop-i l = place_from l.v l.at (l.k - l.i) ≡ place_from l.v 0 l.k
