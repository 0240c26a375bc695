-- `span`, over the numerals without zeros in front, whose values are the same.
use Rattle.std.proofs.Common.{rules, ◌≡◌, ap, ◌∙◌}
use Rattle.rules_server.specs.Numerals.{decimal}
use Rattle.laws_numerals.proofs.Laws.{significant_value}
use Rattle.server_ranges.specs.Resolves.{resolution}
use Rattle.server_ranges.proofs.resolve.span.Goals as goal

pub returns : goal.returns
unfolding resolution
returns c =
    let p = c.without_zeros-p in
    let q = c.without_zeros-q in
    let e : decimal p.result.now ≡ decimal c.args.first.now = ap decimal p.ensures ∙ significant_value c.args.first.now in
    let f : decimal q.result.now ≡ decimal c.args.last.now = ap decimal q.ensures ∙ significant_value c.args.last.now in
    rw (← e, ← f) (search rules)
