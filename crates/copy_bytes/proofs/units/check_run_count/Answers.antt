-- `check_run_count`: 29 where the count is not whole, 26 where it is over the limit of the version.
use mathlib.Core.Path.{◌∙◌}
use native.Mathlib.Omega.{arith}
use mathlib.Core.Bool.{true, false}
use lib.Dec.{leb}
use borrow.Author.Tests.{le-leb, lt-leb}
use Rattle.rules_tablet.specs.SavedCopies.{most_runs}
use Rattle.copy_bytes.proofs.units.Laws.{value_judged, pair_there}
use Rattle.copy_bytes.proofs.units.check_run_count.Goals as goal

pub returns-then-most_runs-pair_at : goal.returns-then-most_runs-pair_at
returns-then-most_runs-pair_at c =
    let a = c.args in
    let m = c.most_runs in
    let p = c.pair_at in
    let l = a.rest.now in
    value_judged l 2 26 (λ k. leb k (most_runs a.version)) p.result false (omega arith) (p.ensures ∙ pair_there l 0 (omega arith))
    (lt-leb p.result (most_runs a.version) (omega (arith, m.ensures)))

pub returns : goal.returns
returns c =
    let a = c.args in
    let m = c.most_runs in
    let p = c.pair_at in
    let l = a.rest.now in
    value_judged l 2 26 (λ k. leb k (most_runs a.version)) p.result true (omega arith) (p.ensures ∙ pair_there l 0 (omega arith))
    (le-leb p.result (most_runs a.version) (omega (arith, m.ensures)))
