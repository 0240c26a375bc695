-- `numerals::printing::printed` meets its contract. The loop's invariant: what is left is below 10 ^ start, so that its digits have room before start,
-- and the digits of n are those of what is left and then the bytes from start on. The measure is what is left. Assumes nothing.
use Prim.Native.Nat.{suc, ◌-◌, ◌≤◌, ◌<◌}
use mathlib.Core.Path.{◌≡◌, refl, sym, ◌∙◌}
use mathlib.Core.List.{[], append-nil}
use native.Mathlib.Omega.{arith}
use lib.ListN.{length, length-set}
use Rattle.rules_server.specs.Numerals.{print}
use Rattle.laws_numerals.proofs.Laws.{put_before, two_places, tenth_below, print_one, print_more}
use Rattle.numerals.proofs.printing.printed.Goals as goal

pub loop-left-init : goal.loop-left-init
loop-left-init c = (omega arith, omega arith, refl, omega arith, sym (append-nil (print c.args.n)))

-- the last digit of what is left goes in front of those that stand
pub loop-left-preserved : goal.loop-left-preserved
loop-left-preserved c =
    let k = c.loop-left in
    let places = two_places k.start k.left (omega arith) k.invariant.3 in
    let e : suc (k.start - 1) ≡ k.start = omega arith in
    let room = tenth_below (k.start - 1) k.left (rw e k.invariant.3) in
    let within : k.start ≤ length k.bytes = omega arith in
    let from : 0 < k.start = omega arith in
    (omega arith, omega arith, simp length-set k.invariant.2, room, rw put_before (k.invariant.4 ∙ rw (print_more k.left (omega arith))))

-- and what is left at the end is one digit
pub returns : goal.returns
returns c =
    let k = c.loop-left in
    let within : k.start ≤ length k.bytes = omega arith in
    let from : 0 < k.start = omega arith in
    record { within = omega arith; digits = rw (put_before [], k.invariant.4, print_one k.left (omega arith)) }
