-- `first_difference` passes both halves where no bit of them differs, and goes on byte by byte.
-- Assumes nothing.
use Rattle.std.proofs.Common.{◌≡◌, ℕ, ◌-◌, List, length, take, drop, arith, length-drop}
use Rattle.std.proofs.Math.Seq.{take_all}
use Rattle.reader_data.proofs.agreement.Bits.{agrees_behind, counted_agree}
use Rattle.reader_data.proofs.agreement.first_difference.Goals as goal

-- what is lent from a place to the end is all that stands behind the place
rest : (l : List ℕ) (i : ℕ) → take (length l - i) (drop i l) ≡ drop i l
rest l i = take_all (length l - i) (drop i l) (rw length-drop (omega arith))

pub overflow_add-result : goal.overflow_add-result
overflow_add-result c =
    let held = c.args.held.now in
    let src = c.args.src.now in
    let k = c.agreeing_halves-k.result in
    omega (arith, c.agreeing_halves-k.ensures.left, rw length-drop at (counted_agree (drop k held) (drop k src) c.agreeing.result (rw (rest held k, rest src k) at c.agreeing.ensures)).left)

pub returns : goal.returns
returns c =
    let held = c.args.held.now in
    let src = c.args.src.now in
    let k = c.agreeing_halves-k.result in
    agrees_behind held src k c.agreeing.result c.agreeing_halves-k.ensures
    (counted_agree (drop k held) (drop k src) c.agreeing.result (rw (rest held k, rest src k) at c.agreeing.ensures))
