-- `is_whole` follows the holes run by run: those from the end of the passed runs on are all.
use Rattle.std.proofs.Common.{ℕ, suc, ◌+◌, ◌≤◌, ◌≡◌, [], drop, add-one, arith, length}
use lib.Dec.{leb, ltb}
use lib.ListN.{drop_of_length-le}
use borrow.Author.Tests.{lt-ltb, le-ltb, ltb-true, ltb-false, lt-leb, le-leb}
use Rattle.rules_tablet.specs.Runs.{hole}
use Rattle.rules_tablet.specs.Copies.{no_hole, is_complete}
use Rattle.laws_runs.proofs.Lies.{on_cond}
use Rattle.laws_runs.proofs.Members.{formed_from}
use Rattle.copy.proofs.runs.Fronts.{at, front_next}
use Rattle.copy.proofs.is_whole.Goals as goal

-- behind all runs there is a hole up to n, or none
last_hole : (a n : ℕ) → leb n a ≡ no_hole (hole a n [])
last_hole a n =
    on_cond (λ rs. leb n a ≡ no_hole rs) (ltb a n) _ _ (λ e. lt-leb n a (ltb-true a n e)) (λ e. le-leb n a (ltb-false a n e))

-- there is a hole before the run at `r-index`
pub returns-then-end-r : goal.returns-then-end-r
unfolding is_complete
returns-then-end-r c =
    let l = c.loop-r in
    let rs = c.args.runs.now in
    let next = front_next rs l.r-index (omega arith) in
    let e = rw (next, lt-ltb l.end (at rs l.r-index).first (omega arith)) at l.invariant.1 in
    rw (← e)

-- there is no hole before it
pub loop-r-preserved : goal.loop-r-preserved
loop-r-preserved c =
    let l = c.loop-r in
    let rs = c.args.runs.now in
    let r = at rs l.r-index in
    let next = front_next rs l.r-index (omega arith) in
    let w = rw next at l.invariant.0 in (
      formed_from (suc (suc r.last)) (r.last + 1) c.args.n (drop (l.r-index + 1) rs) (omega arith) w.3,
      rw (add-one r.last) (rw (next, le-ltb l.end r.first (omega arith)) at l.invariant.1),
    )

-- what is behind all runs
pub returns : goal.returns
unfolding is_complete
returns c =
    let l = c.loop-r in
    let rs = c.args.runs.now in
    let all : length rs ≤ l.r-index = omega arith in
    let e = rw (drop_of_length-le rs all) at l.invariant.1 in
    rw (← e) (last_hole l.end c.args.n)
