-- `store_pieces` stores piece by piece: what is still to be stored makes of the part what all of it makes of the part before. The measure is what is left.
-- Assumes nothing.
use Prim.Native.Nat.{◌-◌, ◌≤◌}
use mathlib.Core.Path.{◌≡◌}
use lib.ListN.{length, drop}
use lib.Seq.{sets}
use Rattle.reader.proofs.pieces.store_pieces.Given as goal

abbrev pub invariant-loop-i : goal.invariant-loop-i
invariant-loop-i l =
    (l.i ≤ length l.src) × (sets l.part l.i (drop l.i l.src) ≡ sets l.initial.part l.initial.i (drop l.initial.i l.src)) × (length l.part ≡ length l.initial.part) × (length l.src ≤ length l.part)

abbrev pub decreases-loop-i : goal.decreases-loop-i
decreases-loop-i l = length l.src - l.i
