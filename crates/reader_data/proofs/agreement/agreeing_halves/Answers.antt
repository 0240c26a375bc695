-- `agreeing_halves` gathers: where d is 0, the bytes before j of both halves agree.
-- Assumes nothing.
use Rattle.std.proofs.Common.{◌≡◌, ℕ, ◌+◌, List, take, drop, arith, add-one}
use Rattle.reader_data.proofs.agreement.Bits.{halves_next, halves_agree}
use Rattle.reader_data.proofs.agreement.agreeing_halves.Goals as goal

pub loop-j-preserved : goal.loop-j-preserved
loop-j-preserved c = (
  omega arith,
  omega arith,
  λ e. rw add-one (halves_next c.args.held.now c.args.src.now _ c.loop-j.j c.loop-j.d (omega arith) (omega arith) c.loop-j.invariant.2 e),
)

-- at the loop's end both halves agree
whole : (a b : List ℕ) (half j : ℕ) → j ≡ half → (take j a ≡ take j b) × (take j (drop half a) ≡ take j (drop half b)) → take (half + half) a ≡ take (half + half) b
whole a b half j e h = let g = rw e at h in halves_agree a b half g.0 g.1

pub returns-then-d-eq0 : goal.returns-then-d-eq0
returns-then-d-eq0 c = record {
  left = omega arith;
  right = omega arith;
  alike = whole c.args.held.now c.args.src.now _ c.loop-j.j (omega arith) (c.loop-j.invariant.2 c.if-d-eq0.true);
}
