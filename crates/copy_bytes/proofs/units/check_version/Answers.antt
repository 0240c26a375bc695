-- `check_version`: 23 where it is unknown.
use Rattle.std.proofs.Common.{true, false, ◌∙◌, arith}
use Rattle.rules_tablet.specs.SavedCopies.{is_version}
use Rattle.copy_bytes.proofs.units.Laws.{value_judged, pair_there}
use Rattle.copy_bytes.proofs.units.check_version.Goals as goal

pub returns-then-version : goal.returns-then-version
returns-then-version c =
    let p = c.pair_at-version in
    let l = c.args.rest.now in
    value_judged l 2 23 is_version p.result true (omega arith) (p.ensures ∙ pair_there l 0 (omega arith)) c.if-version.true

pub returns : goal.returns
returns c =
    let p = c.pair_at-version in
    let l = c.args.rest.now in
    value_judged l 2 23 is_version p.result false (omega arith) (p.ensures ∙ pair_there l 0 (omega arith)) c.if-version.false
