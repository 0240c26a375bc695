-- `lengthen` changes one run, and takes the next away where it is joined.
use Prim.Native.Nat.{suc, ◌+◌}
use mathlib.Core.Path.{◌≡◌, refl, sym, ◌∙◌}
use mathlib.Core.Bool.{true, false}
use lib.Dec.{eqb}
use Rattle.rules_tablet.specs.Runs.{run}
use Rattle.copy.proofs.runs.Fronts.{at, rest, ended}
use Rattle.copy.proofs.insertion.Puts.{put_same, put_fewer, stays, is_lengthened, not-lengthened}
use native.Mathlib.Omega.{arith}
use Rattle.copy.proofs.insertion.lengthen.Goals as goal

-- no run has the index
pub returns-then-count-index : goal.returns-then-count-index
returns-then-count-index c =
    let a = c.args in
    rw (not-lengthened a.l c.size-count.result c.size-count.ensures a.index a.b a.l (omega arith)) (stays a.l c.size-count.result c.size-count.ensures)

-- it is the last run
pub returns-then-next-count : goal.returns-then-next-count
returns-then-next-count c =
    let a = c.args in
    let s = c.size-count.ensures in
    let runs = a.l.runs in
    let count = c.size-count.result in
    let i = a.index in
    let none = ended runs count (i + 1) (omega arith) in
    is_lengthened a.l count s i a.b _ (omega arith)
    (rw none (rw none at (put_same runs count i (i + 1) (run (at runs i).first a.b) (omega (arith, s.whole)) s.within (omega arith)
    (omega arith) refl)))

-- the next run is joined
pub returns-then-touches : goal.returns-then-touches
returns-then-touches c =
    let a = c.args in
    let s = c.size-count.ensures in
    let runs = a.l.runs in
    let count = c.size-count.result in
    let i = a.index in
    let more = rest runs count (i + 1) (omega arith) (omega (arith, s.whole)) in
    let e : eqb (at runs (i + 1)).first (suc a.b) ≡ true = sym c.touches.ensures ∙ c.if-touches.true in
    is_lengthened a.l count s i a.b _ (omega arith)
    (rw (more, e) (put_fewer runs count i (i + 1 + 1) (run (at runs i).first (at runs (i + 1)).last) (omega (arith, s.whole)) s.within (omega arith)
    (omega arith) c.moved_down.result (omega arith) c.moved_down.ensures))

-- the next run does not touch
pub returns : goal.returns
returns c =
    let a = c.args in
    let s = c.size-count.ensures in
    let runs = a.l.runs in
    let count = c.size-count.result in
    let i = a.index in
    let more = rest runs count (i + 1) (omega arith) (omega (arith, s.whole)) in
    let e : eqb (at runs (i + 1)).first (suc a.b) ≡ false = sym c.touches.ensures ∙ c.if-touches.false in
    is_lengthened a.l count s i a.b _ (omega arith)
    (rw (more, e) (rw more at (put_same runs count i (i + 1) (run (at runs i).first a.b) (omega (arith, s.whole)) s.within (omega arith)
    (omega arith) refl)))
