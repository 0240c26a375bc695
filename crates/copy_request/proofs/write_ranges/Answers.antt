-- `copy_request::write_ranges` meets its contract: 18 without a range, 20 without room, else the request at the front. Assumes nothing.
use Rattle.std.proofs.Common.{◌≤◌, ◌<◌, length, sym, arith, rules}
use borrow.Author.Tests.{eqb-true, eqb-false}
use Rattle.writing.specs.Measures.{enormous}
use Rattle.writing.proofs.window.Laws.{from_front}
use Rattle.copy_request.proofs.Laws.{none-refuses, room_refuses, writes}
use Rattle.copy_request.proofs.write_ranges.Goals as goal

pub returns-then-is_empty : goal.returns-then-is_empty
returns-then-is_empty c =
    let a = c.args in
    let r = none-refuses a.ranges.now a.tag.now a.out.now (eqb-true _ _ (sym c.if-is_empty.ensures)) in
    record { says = r.0; writes = r.1 }

-- a buffer is shorter than an enormous number
pub returns-then-out-length : goal.returns-then-out-length
returns-then-out-length c =
    let a = c.args in
    let m = c.measure_request-length in
    let real : length a.out.now < enormous = omega arith in
    let none = eqb-false _ _ (sym c.if-is_empty.ensures) in
    let some : 1 ≤ length a.ranges.now = omega (arith, none) in
    let r = room_refuses a.ranges.now a.tag.now a.out.now m.result some m.ensures real (omega arith) in
    record { says = r.0; writes = r.1 }

pub returns : goal.returns
returns c =
    let a = c.args in
    let m = c.measure_request-length in
    let w = c.new-w.ensures in
    let real : length a.out.now < enormous = omega arith in
    let none = eqb-false _ _ (sym c.if-is_empty.ensures) in
    let some : 1 ≤ length a.ranges.now = omega (arith, none) in
    let r = writes a.ranges.now a.tag.now a.out.now m.result some m.ensures real (omega arith) (from_front w.bytes w.skip w.at c.put_request.ensures) in
    record { says = r.0; writes = rw (← r.1) (search rules) }
