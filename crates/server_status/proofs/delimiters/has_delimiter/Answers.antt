-- `has_delimiter`: where a CR stands, either the delimiter stands there or it is looked for at the next CR.
use Rattle.std.proofs.Common.{◌∷◌, sym, ◌∙◌}
use Rattle.octets.proofs.strings.Laws.{part_to_end}
use Rattle.rules_server.specs.Answers.{dash_boundary}
use Rattle.server_status.proofs.delimiters.Laws.{occurs_behind, occurs_skip, occurs_data}
use Rattle.server_status.proofs.delimiters.has_delimiter.Goals as goal

-- at the first CR
pub loop-behind-init : goal.loop-behind-init
loop-behind-init c =
    let b = c.args.boundary.now in
    let l = c.args.«data».now in
    let k = c.index_of.result in
    rw part_to_end (sym (occurs_skip 13 (10 ∷ dash_boundary b) l k c.index_of.ensures.rest)
    ∙ occurs_data b l (sym c.begins_with_dash_boundary.ensures ∙ c.if-begins_with_dash_boundary.false))

-- at the next
pub loop-behind-preserved : goal.loop-behind-preserved
loop-behind-preserved c =
    let m = 10 ∷ dash_boundary c.args.boundary.now in
    rw part_to_end (sym (occurs_skip 13 m c.in-Some.behind.now c.index_of-in-Some.result c.index_of-in-Some.ensures.rest)
    ∙ sym (occurs_behind (13 ∷ m) c.loop-behind.rest.now c.in-Some.ensures.cases.0 (sym c.begins_with_delimiter.ensures ∙ c.if-begins_with_delimiter.false))
    ∙ c.loop-behind.invariant)
