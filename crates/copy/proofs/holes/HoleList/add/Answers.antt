-- `add` stores the hole behind the others.
use Rattle.std.proofs.Common.{suc, ◌≡◌, length, add-one, arith}
use Rattle.std.proofs.Math.Seq.{take-suc-set}
use borrow.Author.Tests.{lt-ltb}
use Rattle.rules_tablet.specs.Limits.{max_runs}
use Rattle.copy.proofs.holes.Steps.{clean_next}
use Rattle.copy.proofs.holes.HoleList.add.Goals as goal

-- it is stored
pub returns-then-a-b : goal.returns-then-a-b
returns-then-a-b c =
    let a = c.args in
    let h = a.self.now in
    let e : length h.runs ≡ suc max_runs = omega arith in
    record {
      holes = rw (lt-ltb a.a a.b (omega arith), add-one h.count, take-suc-set h.runs h.count _ (omega arith));
      few = omega arith;
      clean = clean_next h _ e c.requires.0 c.requires.1;
    }
