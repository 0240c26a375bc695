-- `fields_step` takes a byte of a line: each arm is given what the byte makes of the line.
-- Assumes nothing.
use Prim.Native.Nat.{ℕ}
use mathlib.Core.List.{List}
use mathlib.Core.Path.{ap}
use lib.ListN.{drop}
use Rattle.reader_state.proofs.Laws.{same-ends}
use Rattle.reader_text.proofs.bytes.fields_step.Goals as goal

pub returns-in-Whole : goal.returns-in-Whole
returns-in-Whole c =
    let z = c.requires in
    let f = c.line_byte.ensures in
    let a = c.args in
    let x = c.line_byte in
    let y = c.fields_line in
    let g = c.in-Whole.is in
    let step = rw g at (f.step (record { line_room = z.line_room; line_fits = z.within.line_fits })) in
    let same = same-ends a.s.line_len x.new.line a.line.now f.front (rw g at f.beyond) in
    let went = y.ensures.step (record { tag_room = z.tag_room; boundary_room = z.boundary_room; within = z.within }) x.new.line in record {
      step = rw (← step, ← f.front) went;
      within = y.ensures.within z.within;
      front = f.front;
      beyond = record {
        line_end = ap (λ (l : List ℕ). drop y.result.line_len l) same;
        tag_end = y.ensures.beyond.0;
        boundary_end = y.ensures.beyond.1;
      };
    }
