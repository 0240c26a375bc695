-- `put_in` makes the run at the index longer where they touch, and else puts a run in before it.
use Prim.Native.Nat.{suc, ◌+◌}
use mathlib.Core.Path.{◌≡◌, refl, sym, ◌∙◌}
use mathlib.Core.Bool.{true, false}
use lib.Dec.{eqb}
use Rattle.rules_tablet.specs.Runs.{run}
use Rattle.copy.proofs.runs.Fronts.{at, rest, ended}
use Rattle.copy.proofs.insertion.Puts.{put_same, in_room_lem, stays, is_put_lem, not_put}
use native.Mathlib.Omega.{arith}
use Rattle.copy.proofs.insertion.put_in.Goals as goal

-- the index is beyond the runs
pub returns-then-count-index : goal.returns-then-count-index
returns-then-count-index c =
    let a = c.args in
    rw (not_put a.l c.size-count.result c.size-count.ensures a.index a.b a.l a.p (omega arith)) (stays a.l c.size-count.result c.size-count.ensures)

-- no run follows
pub returns-then-count-index-2 : goal.returns-then-count-index-2
returns-then-count-index-2 c =
    let a = c.args in
    let s = c.size-count.ensures in
    let runs = a.l.runs in
    let count = c.size-count.result in
    let i = a.index in
    let none = ended runs count i (omega arith) in
    is_put_lem a.l count s i a.b _ a.p (omega arith) (rw none (rw none at c.put.ensures))

-- the run at the index is joined
pub returns-then-touches : goal.returns-then-touches
returns-then-touches c =
    let a = c.args in
    let s = c.size-count.ensures in
    let runs = a.l.runs in
    let count = c.size-count.result in
    let i = a.index in
    let more = rest runs count i (omega arith) (omega (arith, s.whole)) in
    let e : eqb (at runs i).first (suc a.b) ≡ true = sym c.touches.ensures ∙ c.if-touches.true in
    is_put_lem a.l count s i a.b _ a.p (omega arith)
    (rw (more, e) (in_room_lem runs count i (i + 1) (run a.p (at runs i).last) (omega (arith, s.whole)) s.within (omega arith) (omega arith) refl _
    (put_same runs count i (i + 1) (run a.p (at runs i).last) (omega (arith, s.whole)) s.within (omega arith) (omega arith) refl)))

-- the run at the index does not touch
pub returns : goal.returns
returns c =
    let a = c.args in
    let s = c.size-count.ensures in
    let runs = a.l.runs in
    let count = c.size-count.result in
    let i = a.index in
    let more = rest runs count i (omega arith) (omega (arith, s.whole)) in
    let e : eqb (at runs i).first (suc a.b) ≡ false = sym c.touches.ensures ∙ c.if-touches.false in
    is_put_lem a.l count s i a.b _ a.p (omega arith) (rw (more, e) (rw more at c.put-2.ensures))
