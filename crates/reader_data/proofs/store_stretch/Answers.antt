-- `store_stretch` stores the bytes before the next run, or compares those of the run that the next position lies in.
-- Assumes nothing.
use Rattle.std.proofs.Common.{◌≡◌, ℕ, suc, ◌+◌, ◌-◌, ◌≤◌, ◌<◌, min, List, length, take, drop, ap, arith, length-take, length-drop, Result}
use Rattle.std.proofs.Math.Seq.{length-take-le}
use Rattle.copy.specs.declared.runs.RunList.{RunList}
use Rattle.copy.specs.Lists.{runs_in}
use Rattle.copy.specs.Looks.{look_at}
use Rattle.copy.proofs.runs.Looks.{look_stands}
use Rattle.reader_data.specs.declared.Stretch.{Stretch}
use Rattle.reader_data.specs.Stretches.{said, Compared, offered}
use Rattle.reader_data.proofs.Laws.{put_sets, run-count, grown, is_compared, too_many, no_reach, all_stored}
use Rattle.reader_data.proofs.store_stretch.Goals as goal

-- what is compared, written with the number of bytes
cut : (next k : ℕ) (buffer piece : List ℕ) (l : RunList) (r : Result Stretch ℕ) → Compared l (take (next + k - next) (drop next buffer)) (take k piece) r
    → Compared l (take k (drop next buffer)) (take k piece) r
cut next k buffer piece l r a = let e : next + k - next ≡ k = omega arith in rw e at a

-- a run reaches no less than to a position of it
pub overflow_sub-w : goal.overflow_sub-w
overflow_sub-w c =
    let n = length c.args.buffer.now in
    rw c.locate-w.ensures ((look_stands n c.args.next (runs_in c.args.l)).reach (rw c.locate-w.ensures at c.in-InRun.is))

-- bytes of the run are compared
pub returns-in-InRun-clause-is : goal.returns-in-InRun-clause-is
returns-in-InRun-clause-is c =
    let a = c.args in
    let buffer = a.buffer.now in
    let piece = a.piece.now in
    let next = a.next in
    let is = c.locate-w.ensures in
    let o : c.min-offered.result ≡ offered a.l buffer next piece a.most = cc in
    let more : 1 ≤ offered a.l buffer next piece a.most = rw (← o) (omega arith) in
    let z = rw is at c.in-InRun.is in
    let w = look_at (length buffer) next (runs_in a.l) in
    let reach = (look_stands (length buffer) next (runs_in a.l)).reach z in
    let k = c.min-k.result + 1 in
    let count : k ≡ min (offered a.l buffer next piece a.most) (suc w.end - next) =
    run-count (offered a.l buffer next piece a.most) w.end next k reach more (ap (λ (j : ℕ). j + 1) (rw (o, is) at c.min-k.ensures)) in
    is_compared a.l buffer next piece a.most more z k count (said c.compared.result) (cut next k buffer piece a.l _ c.compared.ensures.is)

-- the next position would make too many runs
pub returns-then-count_with-gt-MAX_RUNS-clause-is : goal.returns-then-count_with-gt-MAX_RUNS-clause-is
returns-then-count_with-gt-MAX_RUNS-clause-is c =
    let a = c.args in
    let buffer = a.buffer.now in
    let is = c.locate-w.ensures in
    let o : c.min-offered.result ≡ offered a.l buffer a.next a.piece.now a.most = cc in
    let w = look_at (length buffer) a.next (runs_in a.l) in
    let many = grown a.next (runs_in a.l) w c.count_with.result (look_stands (length buffer) a.next (runs_in a.l)) (rw is at c.count_with.ensures) in
    rw c.untaken-then-count_with-gt-MAX_RUNS.ensures
    (too_many a.l buffer a.next a.piece.now a.most (rw (← o) (omega arith)) (rw is at c.in_default.not-InRun) (many.0 c.if-count_with-gt-MAX_RUNS.true))

-- no position comes before the next run
pub returns-then-k-eq0-clause-is : goal.returns-then-k-eq0-clause-is
returns-then-k-eq0-clause-is c =
    let a = c.args in
    let buffer = a.buffer.now in
    let is = c.locate-w.ensures in
    let o : c.min-offered.result ≡ offered a.l buffer a.next a.piece.now a.most = cc in
    let w = look_at (length buffer) a.next (runs_in a.l) in
    let few = grown a.next (runs_in a.l) w c.count_with.result (look_stands (length buffer) a.next (runs_in a.l)) (rw is at c.count_with.ensures) in
    let none : c.locate-w.result.end ≤ a.next = omega arith in
    rw c.untaken-then-k-eq0.ensures
    (no_reach a.l buffer a.next a.piece.now a.most (rw (← o) (omega arith)) (rw is at c.in_default.not-InRun) (few.1 c.if-count_with-gt-MAX_RUNS.false)
    (rw is at none))

pub returns-clause-is : goal.returns-clause-is
returns-clause-is c =
    let a = c.args in
    let buffer = a.buffer.now in
    let piece = a.piece.now in
    let next = a.next in
    let k = c.min-k-2.result in
    let is = c.locate-w.ensures in
    let o : c.min-offered.result ≡ offered a.l buffer next piece a.most = cc in
    let w = look_at (length buffer) next (runs_in a.l) in
    let few = grown next (runs_in a.l) w c.count_with.result (look_stands (length buffer) next (runs_in a.l)) (rw is at c.count_with.ensures) in
    let fits : next + k ≤ length buffer = omega arith in
    let whole : length (take k piece) ≡ k = length-take-le k piece (omega arith) in
    let part : length (take k piece) ≤ length (take (length buffer - next) (drop next buffer)) = rw (whole, length-take, length-drop) (omega arith) in
    let some : next < c.locate-w.result.end = omega arith in
    let count : k ≡ min c.min-offered.result (c.locate-w.result.end - next) = cc in
    rw (c.fill.ensures, put_sets next (length buffer - next) buffer (take k piece) part (rw whole fits))
    (all_stored a.l buffer next piece a.most (rw (← o) (omega arith)) (rw is at c.in_default.not-InRun) (few.1 c.if-count_with-gt-MAX_RUNS.false)
    (rw is at some) k (rw (o, is) at count) c.add_span.result (rw is at c.add_span.ensures))
