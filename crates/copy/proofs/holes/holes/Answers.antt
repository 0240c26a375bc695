-- `holes` looks at the record's rule first, then lists the holes.
use Rattle.std.proofs.Common.{sym, ◌∙◌, length-take, arith}
use Rattle.copy.proofs.Laws.{rule_kept}
use Rattle.copy.proofs.holes.holes.Goals as goal

-- the record keeps its rule
pub list_holes-requires : goal.list_holes-requires
list_holes-requires c =
    let k = rule_kept c.args.c (sym c.meets_rule.ensures ∙ c.if-not-meets_rule.false) in
    record { room = simp length-take (omega arith); below = k.below; formed = k.formed }

pub shared_ref_as_front-list_holes : goal.shared_ref_as_front-list_holes
shared_ref_as_front-list_holes c = (rule_kept c.args.c (sym c.meets_rule.ensures ∙ c.if-not-meets_rule.false)).few
