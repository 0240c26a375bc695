-- `whole_ahead` finds a line that begins here and lies whole in the piece.
-- Assumes nothing.
use Rattle.std.proofs.Common.{arith}
use Rattle.rules_tablet.specs.Limits.{max_line}
use Rattle.reader_text.proofs.Text.{run_is}
use Rattle.reader_text.proofs.whole_ahead.Goals as goal

pub returns-then-line_ends : goal.returns-then-line_ends
returns-then-line_ends c = record {
  empty = c.if-len-ne0.false;
  unended = c.if-cr.false;
  few = omega arith;
  run = run_is c.args.piece.now max_line c.line_run-k.result c.line_run-k.ensures;
  ends = c.line_ends.ensures c.if-line_ends.true;
}
