-- `agreeing_halves` gathers: where d is 0, the bytes before j of both halves agree.
-- Assumes nothing.
use Rattle.std.proofs.Common.{◌≡◌, ◌≤◌, ◌+◌, take, drop, length}
use Rattle.reader_data.proofs.agreement.agreeing_halves.Given as goal

abbrev pub invariant-loop-j : goal.invariant-loop-j
invariant-loop-j l = (l.half + l.half ≤ length l.held) × (l.half + l.half ≤ length l.src)
    × (l.d ≡ 0 → (take l.j l.held ≡ take l.j l.src) × (take l.j (drop l.half l.held) ≡ take l.j (drop l.half l.src)))
