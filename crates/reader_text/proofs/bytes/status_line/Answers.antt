-- `reader_text::bytes::status_line` meets its contract: its one test. Assumes nothing.
use native.Mathlib.Omega.{arith}
use Rattle.rules_tablet.specs.Parsers.{status_line}
use Rattle.reader_text.proofs.bytes.status_line.Goals as goal

pub returns-then-not-is_status_line : goal.returns-then-not-is_status_line
unfolding status_line
returns-then-not-is_status_line c = record {
  step = λ line tag boundary. rw (
    c.refuse.ensures,
    ← c.is_status_line.ensures,
    c.if-not-is_status_line.true,
  );
  within = λ w. rw c.refuse.ensures (record { line_fits = w.line_fits; tag_fits = w.tag_fits; boundary_fits = w.boundary_fits });
}

pub returns : goal.returns
unfolding status_line
returns c = record {
  step = λ line tag boundary. rw (
    c.with_stage.ensures,
    c.with_head.ensures,
    ← c.is_status_line.ensures,
    c.if-not-is_status_line.false,
    c.status_number.ensures,
  );
  within = λ w. rw (c.with_stage.ensures, c.with_head.ensures) (record { line_fits = omega arith; tag_fits = w.tag_fits; boundary_fits = w.boundary_fits });
}
