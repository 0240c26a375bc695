-- `save` says 19 where there is no copy, else what is said of saving the copy that is listed.
use Rattle.std.proofs.lemmas.Result.{err_from_is_err_and}
use Rattle.rules_server.specs.RefusalNumbers.{numbered, refusal_number}
use Rattle.baxoodhiir.proofs.saves.Listed.{save_refused, save_listed}
use Rattle.baxoodhiir.proofs.saves.save.Goals as goal

-- no copy
pub returns-in_err-copy : goal.returns-in_err-copy
returns-in_err-copy c =
    let p = err_from_is_err_and c.from_residual.result c.from_residual.ensures.1 in
    let a = c.args in
    rw (p.1, p.2) (save_refused a.tag.now a.length a.runs.now a.out.now (refusal_number c.in_err-copy.field-0.0) c.in_err-copy.ensures)

-- the copy
pub returns : goal.returns
returns c =
    let k = c.save in
    let a = c.args in
    save_listed a.tag.now a.length a.runs.now c.in_ok-copy.copy a.out.now k.new.out (numbered k.result) c.in_ok-copy.ensures k.ensures.says k.ensures.writes
