use Rattle.std.proofs.Common.{◌≡◌, ◌∙◌, ap, arith, refl, rules, tests}
use Rattle.std.specs.Ordering.{nat_cmp, is_lt}
use Rattle.std.proofs.lemmas.Iterator.{YieldsList-from_slice, YieldsList-from_map}
use Rattle.std.proofs.lemmas.Iterator.Search.{cmp_from_yields_List}
use Rattle.rules_server.specs.Numerals.{digit}
use Rattle.numerals.proofs.order.Laws.{first_less_is}
use Rattle.numerals.proofs.order.less_digits.Goals as goal

pub returns : goal.returns
returns c =
    let p = c.args.p.now in
    let q = c.args.q.now in
    let e = cmp_from_yields_List (λ x y. y ≡ x) _ nat_cmp _ c.cmp.ensures.ran
    (YieldsList-from_map _ digit (YieldsList-from_slice p cc) c.map.ensures.closure (λ x r q k. search (rules, tests)))
    (λ it e. YieldsList-from_map _ digit (YieldsList-from_slice q cc) refl (λ x r q k. search (rules, tests))) (λ x y. refl) in
    c.is_lt.ensures ∙ ap is_lt e ∙ first_less_is p q (omega arith)
