-- `absorb`: the loop's invariant is `Joining`; each turn either meets the run at `i` or keeps it.
use Rattle.std.proofs.Common.{◌+◌}
use Rattle.server_ranges.proofs.parts.Steps.{Joining}
use Rattle.server_ranges.proofs.parts.absorb.Given as goal

abbrev pub invariant-loop-i : goal.invariant-loop-i
invariant-loop-i l = Joining l.count l.k l.initial.parts l.initial.h (l.k + 1) l.parts l.h l.j l.i
