-- `read_members`: what stands before `rest` is read, and told by the tally so far. The measure is what is left.
use Rattle.server_ranges.specs.Members.{bytes_left}
use Rattle.server_ranges.proofs.Tally.{SoFar}
use Rattle.server_ranges.proofs.read_members.Given as goal

abbrev pub invariant-loop-rest : goal.invariant-loop-rest
invariant-loop-rest l = SoFar l.n l.l l.initial.parts l.rest l.t l.parts

abbrev pub decreases-loop-rest : goal.decreases-loop-rest
decreases-loop-rest l = bytes_left l.rest
