-- `baxoodhiir_read`: 19 where the buffer has another length or there is no copy, else the answer is fed to the copy that is listed, and the list
-- stored.
use Rattle.std.proofs.Common.{◌≡◌, length, arith}
use Rattle.rules_server.specs.RefusalNumbers.{refusal_number}
use Rattle.rules_tablet.specs.Limits.{max_runs}
use Rattle.baxoodhiir.proofs.Readings.{buffer_refused, copy_refused, reads}
use Rattle.baxoodhiir.proofs.baxoodhiir_read.Goals as goal

pub returns-then-buffer-length : goal.returns-then-buffer-length
returns-then-buffer-length c =
    let a = c.args in
    rw c.number.ensures
    (buffer_refused a.tag.now a.length a.runs.now a.buffer.now a.answer.now (λ h. omega (arith, c.if-buffer-length.true)))

pub returns-in-Err : goal.returns-in-Err
returns-in-Err c =
    let a = c.args in
    rw c.number-in-Err.ensures
    (copy_refused a.tag.now a.length a.runs.now a.buffer.now a.answer.now (refusal_number c.in-Err.no_copy) c.in-Err.ensures)

pub returns : goal.returns
returns c =
    let s = c.put_list in
    let f = c.feed_pieces-fed in
    let a = c.args in
    let full : length f.result.copy.runs ≡ max_runs = omega arith in
    reads a.tag.now a.length a.runs.now a.buffer.now a.answer.now c.in-Ok.copy c.begin.result f.result c.report_number.result
    s.new.out f.new.buffer c.in-Ok.ensures (omega (arith, c.if-buffer-length.false)) c.begin.ensures f.ensures full
    s.ensures.bytes c.report_number.ensures
