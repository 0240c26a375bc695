-- `status_step` takes a byte of a line: each arm is given what the byte makes of the line.
-- Assumes nothing.
use Prim.Native.Nat.{ℕ}
use mathlib.Core.List.{List}
use mathlib.Core.Path.{ap}
use lib.ListN.{drop}
use Rattle.reader_state.proofs.Laws.{same-ends}
use Rattle.reader_text.proofs.bytes.status_step.Goals as goal

pub returns-in-Whole : goal.returns-in-Whole
returns-in-Whole c =
    let a = c.args in
    let x = c.line_byte in
    let f = x.ensures in
    let g = c.in-Whole.is in
    let step = rw g at (f.step c.requires) in
    let same = same-ends a.s.line_len x.new.line a.line.now f.front (rw g at f.beyond) in
    record { step = λ tag boundary. rw (← step, ← f.front) ((c.status_line.ensures.step x.new.line tag boundary)); within = c.status_line.ensures.within; front = f.front; beyond = ap (λ (l : List ℕ). drop c.status_line.result.line_len l) same }
