-- `other_lines` takes a line at a time: those taken and those that stand at the front of the rest are those of the piece.
use Prim.Native.Nat.{◌-◌, ◌≤◌}
use mathlib.Core.Path.{◌≡◌}
use lib.ListN.{length, drop}
use Rattle.reader_head.specs.Lines.{other_lines}
use Rattle.reader_head.proofs.uncounted_fields.Counts.{plus}
use Rattle.reader_head.proofs.uncounted_fields.other_lines.Given as goal

abbrev pub invariant-loop-lines : goal.invariant-loop-lines
invariant-loop-lines l =
    (l.taken ≤ length l.piece) × (other_lines l.most l.piece ≡ plus l.lines l.taken (other_lines (l.most - l.lines) (drop l.taken l.piece)))
