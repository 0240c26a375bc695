-- `check_length`: 29 where the length is not whole, 25 where it is over the limit.
use mathlib.Core.Path.{◌∙◌}
use native.Mathlib.Omega.{arith}
use mathlib.Core.Bool.{true, false}
use lib.Dec.{leb}
use borrow.Author.Tests.{le-leb, lt-leb}
use Rattle.rules_server.specs.Limits.{max_file}
use Rattle.copy_bytes.proofs.units.Laws.{value_judged, number_there}
use Rattle.copy_bytes.proofs.units.check_length.Goals as goal

pub returns-then-number_at-gt-MAX_FILE : goal.returns-then-number_at-gt-MAX_FILE
returns-then-number_at-gt-MAX_FILE c =
    let p = c.number_at in
    let l = c.args.rest.now in
    value_judged l 8 25 (λ v. leb v max_file) p.result false (omega arith) (p.ensures ∙ number_there l 0 (omega arith))
    (lt-leb p.result max_file (omega arith))

pub returns : goal.returns
returns c =
    let p = c.number_at in
    let l = c.args.rest.now in
    value_judged l 8 25 (λ v. leb v max_file) p.result true (omega arith) (p.ensures ∙ number_there l 0 (omega arith))
    (le-leb p.result max_file (omega arith))
