-- `put` puts a run in where there is room.
use Rattle.copy.proofs.insertion.Puts.{put_full, put_more}
use mathlib.Core.Path.{refl}
use native.Mathlib.Omega.{arith}
use Rattle.copy.proofs.insertion.put.Goals as goal

-- there is no room for a run more
pub returns-then-count-eq-MAX_RUNS : goal.returns-then-count-eq-MAX_RUNS
returns-then-count-eq-MAX_RUNS c =
    let a = c.args in
    put_full a.runs a.count a.start a.start a.r (omega arith) (omega arith) (omega arith) (omega arith) refl (omega arith)

-- the run is put in
pub returns : goal.returns
returns c =
    let a = c.args in
    put_more a.runs a.count a.start a.start a.r (omega arith) (omega arith) (omega arith) (omega arith) c.moved_up.result refl (omega arith)
    c.moved_up.ensures
