-- `read_members`: what the member of a turn adds.
use Rattle.std.proofs.Common.{rules, arith}
use Rattle.std.proofs.lemmas.Bool.Decides.{nat_tests}
use Rattle.server_ranges.proofs.Tally.{blank, broken, behind, told, all_told}
use Rattle.server_ranges.proofs.read_members.Goals as goal

-- it is empty
pub loop-rest-preserved-then-is_empty : goal.loop-rest-preserved-then-is_empty
loop-rest-preserved-then-is_empty c =
    let s = c.split_member in
    blank c.loop-rest.invariant c.in-Some.is s.result.0.now c.trim-m.result.now s.result.1 s.ensures.members s.ensures.fewer c.trim-m.ensures
    (grind (arith, nat_tests))

-- it is no spec
pub returns-in_default-read_spec : goal.returns-in_default-read_spec
returns-in_default-read_spec c =
    let s = c.split_member in
    broken c.loop-rest.invariant c.in-Some.is s.result.0.now c.trim-m.result.now s.result.1 s.ensures.members s.ensures.fewer c.trim-m.ensures
    (grind (arith, nat_tests)) (search rules)

-- more stands behind its spec
pub returns-then-end-m : goal.returns-then-end-m
returns-then-end-m c =
    let s = c.split_member in
    let r = c.in-Some-read_spec in
    behind c.loop-rest.invariant c.in-Some.is s.result.0.now c.trim-m.result.now s.result.1 s.ensures.members s.ensures.fewer c.trim-m.ensures
    r.spec r.end (grind (arith, nat_tests)) (search rules) c.if-end-m.true

-- it is a spec
pub loop-rest-preserved : goal.loop-rest-preserved
loop-rest-preserved c =
    let s = c.split_member in
    let r = c.in-Some-read_spec in
    told c.loop-rest.invariant c.in-Some.is s.result.0.now c.trim-m.result.now s.result.1 s.ensures.members s.ensures.fewer c.trim-m.ensures
    r.spec r.end (grind (arith, nat_tests)) (search rules) (omega arith) c.with_spec-t.ensures

-- it was the last
pub returns : goal.returns
returns c = all_told c.loop-rest.invariant c.in_default.is
