-- What the definitions of a status line say in the order of the code's tests.
use Prim.Native.Nat.{ℕ, ◌^◌, ◌≤◌}
use native.Mathlib.Nat.{pow-le-pow_right}
use native.Mathlib.Omega.{arith}
use mathlib.Core.Bool.{true, ◌&&◌, ◌||◌}
use mathlib.Core.List.{List}
use mathlib.Core.Path.{◌≡◌}
use borrow.Author.Tests.{le-leb}
use lib.Dec.{eqb}
use lib.ListN.{length, take, drop, get_or, length-take}
use Rattle.rules_server.specs.Octets.{codes, is_digit, all, starts_with}
use Rattle.laws_numerals.proofs.Laws.{decimal_below}
use Rattle.rules_tablet.specs.Fields.{is_status_line, status_number}

-- of twelve bytes or more that begin as a status line, the digits and what stands behind them are left to test
pub status_rest : (l : List ℕ) → starts_with (codes "HTTP/1.1 ") l ≡ true → 12 ≤ length l
    → is_status_line l ≡ (all is_digit (take 3 (drop 9 l)) && (eqb (length l) 12 || eqb (get_or l 12 0) 32))
unfolding is_status_line
status_rest l s h = rw (s, le-leb 12 (length l) h)

-- three digits make no more than 999
pub status_small : (l : List ℕ) → status_number l ≤ 999
status_small l =
    let d = take 3 (drop 9 l) in
    let places : 10 ^ length d ≤ 10 ^ 3 = pow-le-pow_right (omega arith) {j = 3} (omega (arith, length-take 3 (drop 9 l))) in
    omega (arith, decimal_below d)
