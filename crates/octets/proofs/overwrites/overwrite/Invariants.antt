-- The part is what it was with the first i bytes of `src` put in from `start` on.
use Rattle.std.proofs.Common.{◌≡◌, ◌≤◌, length}
use lib.Seq.{paste}
use Rattle.octets.proofs.overwrites.overwrite.Given as goal

abbrev pub invariant-loop-i : goal.invariant-loop-i
invariant-loop-i l = (l.part ≡ paste l.initial.part l.start l.src l.i) × (length l.part ≡ length l.initial.part)
