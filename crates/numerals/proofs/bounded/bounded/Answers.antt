-- A numeral that is over the limit once a digit is read is over it at its end.
use Rattle.std.proofs.Common.{◌≡◌, ℕ, ◌+◌, ◌-◌, ◌*◌, ◌<◌, List, length, get_or, take, drop, ap, ◌∙◌, None, arith, drop_of_length-le}
use Rattle.std.proofs.lemmas.Grind.{common_steps}
use borrow.Author.Tests.{lt-leb, le-leb}
use Rattle.rules_server.specs.Numerals.{digit, decimal, decimal_from}
use Rattle.numerals.specs.Bounds.{bounded_by}
use Rattle.laws_numerals.proofs.Laws.{decimal-next, decimal_grows}
use Rattle.numerals.proofs.zeros.Laws.{zeros_value}
use Rattle.octets.proofs.strings.Laws.{part_to_end}
use Rattle.numerals.proofs.bounded.bounded.Goals as goal
use Rattle.numerals.proofs.bounded.bounded.Goals.{then-limit-x-via-then-limit-x, then-limit-x-via-else-limit-x+then-limit-x-2}

over : (v limit n i : ℕ) (d : List ℕ) → i < length d → decimal_from n (drop i d) ≡ v → limit < n * 10 + digit (get_or d i 0) → None ≡ bounded_by limit v
over v limit n i d h e g = rw (lt-leb v limit (omega (arith, decimal-next n d i h, decimal_grows (n * 10 + digit (get_or d i 0)) (drop (i + 1) d))))

-- what stands behind the first k digits
abbrev behind : ℕ → List ℕ → List ℕ
behind k d = take (length d - k) (drop k d)

-- blocks of zeros do not change the value
pub loop-b-init : goal.loop-b-init
loop-b-init c =
    let d = c.args.d.now in
    let k = c.blocks_of_zeros in
    (omega arith, ap decimal (part_to_end d k.result) ∙ zeros_value k.result d k.ensures.within k.ensures.zeros)

-- the digit alone is over the limit, or the number so far is more than a tenth of what the digit leaves of it
pub returns-then-limit-x : goal.returns-then-limit-x
returns-then-limit-x c =
    let d = c.args.d.now in
    let more : c.args.limit < c.loop-b.n * 10 + c.from-x.result = elim c.then-limit-x.branch
    [ then-limit-x-via-then-limit-x w ↦ omega arith | then-limit-x-via-else-limit-x+then-limit-x-2 w ↦ omega arith ] in
    over (decimal d) c.args.limit c.loop-b.n c.loop-b.b-index (behind c.blocks_of_zeros.result d) (omega arith) c.loop-b.invariant.1 (omega (arith, more))

pub loop-b-preserved : goal.loop-b-preserved
loop-b-preserved c = grind (arith, common_steps, decimal-next)

pub returns : goal.returns
returns c =
    let d = c.args.d.now in
    let e = drop_of_length-le (behind c.blocks_of_zeros.result d) {i = c.loop-b.b-index} (omega arith) in
    let value : c.loop-b.n ≡ decimal d = rw e at c.loop-b.invariant.1 in
    rw (← value, le-leb c.loop-b.n c.args.limit (omega arith))
