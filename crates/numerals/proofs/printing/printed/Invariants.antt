-- `numerals::printing::printed` meets its contract. The loop's invariant: what is left is below 10 ^ start, so that its digits have room before start,
-- and the digits of n are those of what is left and then the bytes from start on. The measure is what is left. Assumes nothing.
use Prim.Native.Nat.{◌≤◌, ◌<◌, ◌^◌}
use mathlib.Core.Path.{◌≡◌}
use mathlib.Core.List.{◌++◌}
use lib.ListN.{length, drop}
use Rattle.rules_server.specs.Numerals.{print}
use Rattle.numerals.proofs.printing.printed.Given as goal

abbrev pub invariant-loop-left : goal.invariant-loop-left
invariant-loop-left l =
    (0 < l.start) × (l.start ≤ 20) × (length l.bytes ≡ 20) × (l.left < 10 ^ l.start) × (print l.n ≡ print l.left ++ drop l.start l.bytes)

abbrev pub decreases-loop-left : goal.decreases-loop-left
decreases-loop-left l = l.left
