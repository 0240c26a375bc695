-- `check_run`: 29 where the run is not whole, 27 where it ends before it begins or begins too early, 28 where it ends too late.
use native.Mathlib.Omega.{arith}
use Rattle.copy_bytes.proofs.runs_read.Laws.{no_fault, far_fault, order_fault}
use Rattle.copy_bytes.proofs.runs_read.check_run.Goals as goal

pub returns-then-r-n : goal.returns-then-r-n
returns-then-r-n c =
    let a = c.args in
    let r = c.run_at-r in
    no_fault a.next a.n a.rest.now r.result (omega arith) r.ensures c.if-r-next.true (omega arith)

pub returns-then-r-next : goal.returns-then-r-next
returns-then-r-next c =
    let a = c.args in
    let r = c.run_at-r in
    far_fault a.next a.n a.rest.now r.result (omega arith) r.ensures c.if-r-next.true (omega arith)

pub returns : goal.returns
returns c =
    let a = c.args in
    let r = c.run_at-r in
    order_fault a.next a.n a.rest.now r.result (omega arith) r.ensures c.if-r-next.false
