-- `run_units`: the runs read so far, and those still to come.
use Rattle.std.proofs.Common.{ℕ, List, sym, ap, ◌≡◌, ◌∙◌, ◌-◌, ◌*◌, length, take, drop, arith}
use Rattle.std.proofs.lemmas.Result.{err_from_is_err_and}
use Rattle.octets.proofs.strings.Laws.{part_to_end}
use Rattle.rules_server.specs.RefusalNumbers.{refusal_number}
use Rattle.rules_tablet.specs.SavedCopies.{run_unit, unit_refusal}
use Rattle.copy_bytes.specs.SavedFiles.{awaiting}
use Rattle.copy_bytes.proofs.Refusals.{some_number}
use Rattle.copy_bytes.proofs.runs_read.Laws.{none_read, run-refused, run_below, run_read, runs-said}
use Rattle.copy_bytes.proofs.runs_read.run_units.Goals as goal

-- what the call says, of the rest of the bytes
refusal_is : (next n : ℕ) (rest : List ℕ) (k r : ℕ) → r ≡ unit_refusal (awaiting next n) run_unit (take (length rest - k) (drop k rest))
    → r ≡ unit_refusal (awaiting next n) run_unit (drop k rest)
refusal_is next n rest k r e = e ∙ ap (unit_refusal (awaiting next n) run_unit) (part_to_end rest k)

pub loop-i-init : goal.loop-i-init
loop-i-init c = let a = c.args in none_read a.n a.count a.rest.now c.requires.1

pub returns-in_err-check_run : goal.returns-in_err-check_run
returns-in_err-check_run c =
    let p = err_from_is_err_and c.from_residual.result c.from_residual.ensures.1 in
    let e = c.in_err-check_run.field-0.0 in
    let a = c.args in
    let s = c.loop-i in
    rw (p.1, p.2)
    (run-refused a.n a.count a.rest.now s.runs s.next s.i s.invariant (refusal_number e) (omega arith)
    (refusal_is s.next a.n a.rest.now (16 * s.i) _ c.in_err-check_run.ensures) (some_number e))

pub overflow_add-next : goal.overflow_add-next
overflow_add-next c =
    let a = c.args in
    let s = c.loop-i in
    let r = c.run_at-r in
    let is = refusal_is s.next a.n a.rest.now (16 * s.i) 0 c.in_ok-check_run.ensures in
    omega (arith, run_below a.n a.count a.rest.now s.runs s.next s.i s.invariant (omega arith) (sym is) r.result r.ensures, c.requires.0)

pub loop-i-preserved : goal.loop-i-preserved
loop-i-preserved c =
    let a = c.args in
    let s = c.loop-i in
    let r = c.run_at-r in
    let is = refusal_is s.next a.n a.rest.now (16 * s.i) 0 c.in_ok-check_run.ensures in
    run_read a.n a.count a.rest.now s.runs s.next s.i s.invariant (omega arith) (sym is) r.result r.ensures

pub returns : goal.returns
returns c =
    let a = c.args in
    let s = c.loop-i in
    runs-said a.n a.count a.rest.now s.runs s.next s.i s.invariant (omega arith)
