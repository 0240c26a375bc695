-- `feed_bytes` meets its contract: before each step the rest of the answer does what is left of the whole, or feeding has ended. The measure is what is left up
-- to the limit.
-- Assumes nothing.
use Prim.Native.Nat.{◌-◌, ◌≤◌, ◌<◌, ◌^◌}
use mathlib.Core.Path.{◌≡◌}
use lib.ListN.{length}
use Rattle.rules_tablet.specs.Limits.{max_runs}
use Rattle.copy.specs.Lists.{runs_in}
use Rattle.reader_state.specs.States.{parser_of, state_at}
use Rattle.reader_text.specs.Steps.{reader_of}
use Rattle.reader.specs.Steps.{tablet_on}
use Rattle.reader.specs.Loops.{Arrays}
use Rattle.reader.proofs.pieces.Loop.{Phase}
use Rattle.reader.proofs.pieces.feed_bytes.Given as goal

abbrev pub invariant-loop-p : goal.invariant-loop-p
invariant-loop-p l =
    Phase l.copy_tag (length l.initial.buffer) l.answer (tablet_on (runs_in l.initial.runs) l.initial.buffer (parser_of l.initial.s l.initial.line l.initial.tag l.initial.boundary)) l.runs l.buffer
    (reader_of (state_at l.stage l.s) l.line l.tag l.boundary) l.p.i l.p.limit
    × Arrays l.line l.tag l.boundary
    × (l.p.recent < max_runs)
    × (l.p.end ≤ length l.answer)
    × (length l.answer < 2 ^ 64)
    × (length l.runs.runs ≡ max_runs)

abbrev pub decreases-loop-p : goal.decreases-loop-p
decreases-loop-p l = l.p.limit - l.p.i
