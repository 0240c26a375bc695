-- The kinds of a standing by number.
-- Assumes nothing.
use native.Mathlib.Omega.{arith}
use mathlib.Core.Path.{◌≡◌, refl}
use mathlib.Core.Bool.{Bool, true, false, cond}
use lib.Dec.{eqb}
use borrow.Author.Tests.{eqb-true}
use Rattle.copy.specs.declared.runs.Kind.TheVariants.{InRun, BehindRun, BeforeRun, Apart}
use Rattle.copy.specs.Looks.{in_run, behind_run, before_run, kind_of, KindsListed, KindsNumbered, found}
use Rattle.copy.specs.Steps.{lengthened, put_in, span_at, SpansByNumber}

-- the kinds of the numbers 0 to 4
pub kinds_listed : KindsListed
kinds_listed = refl

-- the number of a kind stands for that kind
pub kinds_numbered : KindsNumbered
kinds_numbered InRun = refl
kinds_numbered BehindRun = refl
kinds_numbered BeforeRun = refl
kinds_numbered Apart = refl

-- a number makes a run longer where it is that of behind a run, and else puts one in
pub spans_by_number : SpansByNumber
spans_by_number k i e p b rs = go (eqb k in_run) (eqb k behind_run) (eqb k before_run) refl refl refl
  where
    go : (x y z : Bool) → eqb k in_run ≡ x → eqb k behind_run ≡ y → eqb k before_run ≡ z
        → span_at (found (kind_of k) i e) p b rs ≡ cond (eqb k behind_run) (lengthened i b rs) (put_in i p b rs)
    go true true z f g h = let u = eqb-true k in_run f in let v = eqb-true k behind_run g in absurd (omega arith)
    go true false z f g h = rw (f, g)
    go false true z f g h = rw (f, g)
    go false false true f g h = rw (f, g, h)
    go false false false f g h = rw (f, g, h)
