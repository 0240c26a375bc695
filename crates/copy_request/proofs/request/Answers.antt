-- `copy_request::request` meets its contract: 19 of a record that breaks its rule, else what is said of the request for its holes. Assumes nothing.
use Rattle.std.proofs.lemmas.Result.{err_from_is_err_and}
use Rattle.rules_server.specs.RefusalNumbers.{refusal_number, numbered}
use Rattle.copy.proofs.Laws.{rule_kept}
use Rattle.copy_request.proofs.Laws.{rule_refuses, for_holes}
use Rattle.copy_request.proofs.request.Goals as goal

pub returns-in_err-h : goal.returns-in_err-h
returns-in_err-h c =
    let p = err_from_is_err_and c.from_residual.result c.from_residual.ensures.1 in
    let a = c.args in
    let h = c.in_err-h.ensures in
    let r = rule_refuses a.c a.out.now (refusal_number c.in_err-h.field-0.0) h.0 h.1 in
    rw (p.1, p.2) (record { says = r.0; writes = r.1 })

-- a tag is no longer than its array
pub shared_ref_as_front-write_ranges : goal.shared_ref_as_front-write_ranges
shared_ref_as_front-write_ranges c = (rule_kept c.args.c c.in_ok-h.ensures.rule).short

pub returns : goal.returns
returns c =
    let w = c.write_ranges in
    let a = c.args in
    let r = for_holes a.c c.in_ok-h.h c.as_slice-missing.result.now c.min-asked.result a.out.now w.new.out (numbered w.result) c.in_ok-h.ensures
    c.as_slice-missing.ensures c.min-asked.ensures w.ensures.says w.ensures.writes in
    record { says = r.0; writes = r.1 }
