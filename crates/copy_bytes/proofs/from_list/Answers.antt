-- `from_list`: a list of another size and a tag that cannot be opened are no copy; else the record is put together, and its rule decides.
use Rattle.std.proofs.Common.{◌≡◌, sym, ◌∙◌, length, arith}
use Rattle.std.proofs.lemmas.Result.{err_from_is_err_and}
use Rattle.rules_server.specs.Limits.{max_tag}
use Rattle.rules_server.specs.RefusalNumbers.{refusal_number}
use Rattle.copy_bytes.proofs.Lists.{size_broken, tag-broken, copy_put, rule_listed, rule_broken}
use Rattle.copy_bytes.proofs.from_list.Goals as goal

pub returns-then-runs-ne-RUNS_SIZE : goal.returns-then-runs-ne-RUNS_SIZE
returns-then-runs-ne-RUNS_SIZE c = let a = c.args in size_broken a.tag.now a.length a.runs.now c.if-runs-ne-RUNS_SIZE.true

pub returns-in_err-fresh : goal.returns-in_err-fresh
returns-in_err-fresh c =
    let p = err_from_is_err_and c.from_residual.result c.from_residual.ensures.1 in
    let a = c.args in
    rw (p.1, p.2) (tag-broken a.tag.now a.length a.runs.now (refusal_number c.in_err-fresh.field-0.0) (omega arith) c.in_err-fresh.ensures)

pub returns-then-meets_rule : goal.returns-then-meets_rule
returns-then-meets_rule c =
    let a = c.args in
    let o = c.in_ok-fresh in
    let full : length o.fresh.tag ≡ max_tag = omega arith in
    let e = copy_put a.tag.now a.length a.runs.now o.fresh c.number_at.result c.runs_from.result full o.ensures c.number_at.ensures c.runs_from.ensures in
    rule_listed a.tag.now a.length a.runs.now _ (omega arith) e (sym c.meets_rule.ensures ∙ c.if-meets_rule.true)

pub returns : goal.returns
returns c =
    let a = c.args in
    let o = c.in_ok-fresh in
    let full : length o.fresh.tag ≡ max_tag = omega arith in
    let e = copy_put a.tag.now a.length a.runs.now o.fresh c.number_at.result c.runs_from.result full o.ensures c.number_at.ensures c.runs_from.ensures in
    rule_broken a.tag.now a.length a.runs.now _ (omega arith) e (sym c.meets_rule.ensures ∙ c.if-meets_rule.false)
