-- `request` says 19 where there is no copy, else what the tablet end says of the copy that is listed.
use Rattle.std.proofs.lemmas.Result.{err_from_is_err_and}
use Rattle.rules_server.specs.RefusalNumbers.{numbered, refusal_number}
use Rattle.baxoodhiir.proofs.requests.Listed.{request_refused, request_listed}
use Rattle.baxoodhiir.proofs.requests.request.Goals as goal

-- no copy
pub returns-in_err-copy : goal.returns-in_err-copy
returns-in_err-copy c =
    let p = err_from_is_err_and c.from_residual.result c.from_residual.ensures.1 in
    let a = c.args in
    rw (p.1, p.2) (request_refused a.tag.now a.length a.runs.now a.out.now (refusal_number c.in_err-copy.field-0.0) c.in_err-copy.ensures)

-- the request for the copy
pub returns : goal.returns
returns c =
    let k = c.request in
    let a = c.args in
    request_listed a.tag.now a.length a.runs.now c.in_ok-copy.copy a.out.now k.new.out (numbered k.result) c.in_ok-copy.ensures k.ensures.says k.ensures.writes
