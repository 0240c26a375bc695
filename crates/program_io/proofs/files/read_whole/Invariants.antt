-- What was read lies in the buffer. The measure is how much room is left.
use Rattle.std.proofs.Common.{◌-◌, ◌≤◌, length}
use Rattle.program_io.proofs.files.read_whole.Given as goal

abbrev pub invariant-loop-n : goal.invariant-loop-n
invariant-loop-n g l = l.n ≤ length l.buffer

abbrev pub decreases-loop-n : goal.decreases-loop-n
decreases-loop-n g l = length l.buffer - l.n
