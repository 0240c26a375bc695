-- `save`: 19 of a record that breaks its rule, 20 where there is too little room, else what stands before the runs, and the runs.
use Rattle.std.proofs.Common.{◌≡◌, sym, ◌∙◌, length, arith}
use lib.Seq.{length-take-le}
use Rattle.rules_server.specs.Limits.{max_tag}
use Rattle.rules_tablet.specs.Limits.{max_runs}
use Rattle.copy.proofs.Laws.{rule_kept}
use Rattle.copy_bytes.proofs.saving.Laws.{save_broken, save_short, save_written}
use Rattle.copy_bytes.proofs.saving.save.Goals as goal

pub returns-then-not-meets_rule : goal.returns-then-not-meets_rule
returns-then-not-meets_rule c =
    let r = save_broken c.args.c c.args.out.now (sym c.meets_rule.ensures ∙ c.if-not-meets_rule.true) in
    record { says = r.0; writes = r.1 }

pub overflow_add-size : goal.overflow_add-size
overflow_add-size c =
    let k = rule_kept c.args.c (sym c.meets_rule.ensures ∙ c.if-not-meets_rule.false) in omega (arith, k.short)

pub overflow_mul-size : goal.overflow_mul-size
overflow_mul-size c =
    let k = rule_kept c.args.c (sym c.meets_rule.ensures ∙ c.if-not-meets_rule.false) in omega (arith, k.few)

pub overflow_add-size-2 : goal.overflow_add-size-2
overflow_add-size-2 c =
    let k = rule_kept c.args.c (sym c.meets_rule.ensures ∙ c.if-not-meets_rule.false) in omega (arith, k.short, k.few)

pub returns-then-out-size : goal.returns-then-out-size
returns-then-out-size c =
    let tags : length c.args.c.tag ≡ max_tag = omega arith in
    let full : length c.args.c.runs ≡ max_runs = omega arith in
    let r = save_short c.args.c c.args.out.now (sym c.meets_rule.ensures ∙ c.if-not-meets_rule.false) tags full (omega arith) in
    record { says = r.0; writes = r.1 }

pub slice_bounds-tag-end : goal.slice_bounds-tag-end
slice_bounds-tag-end c =
    let k = rule_kept c.args.c (sym c.meets_rule.ensures ∙ c.if-not-meets_rule.false) in omega (arith, k.short)

pub slice_bounds-write_file-end : goal.slice_bounds-write_file-end
slice_bounds-write_file-end c =
    let k = rule_kept c.args.c (sym c.meets_rule.ensures ∙ c.if-not-meets_rule.false) in
    sym (length-take-le c.args.c.tag_len c.args.c.tag (omega (arith, k.short)))

pub slice_bounds-runs-end : goal.slice_bounds-runs-end
slice_bounds-runs-end c =
    let k = rule_kept c.args.c (sym c.meets_rule.ensures ∙ c.if-not-meets_rule.false) in omega (arith, k.few)

pub slice_bounds-write_file-end-2 : goal.slice_bounds-write_file-end-2
slice_bounds-write_file-end-2 c =
    let k = rule_kept c.args.c (sym c.meets_rule.ensures ∙ c.if-not-meets_rule.false) in
    sym (length-take-le c.args.c.count c.args.c.runs (omega (arith, k.few)))

pub returns : goal.returns
returns c =
    let tags : length c.args.c.tag ≡ max_tag = omega arith in
    let full : length c.args.c.runs ≡ max_runs = omega arith in
    let w = save_written c.args.c c.args.out.now (sym c.meets_rule.ensures ∙ c.if-not-meets_rule.false) tags full (omega (arith, c.if-out-size.false))
    c.write_file.new.out c.write_file.ensures in
    record { says = w.0; writes = w.1 }
