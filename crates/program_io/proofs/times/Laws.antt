-- Signed times as the machine has them, by their bits. Assumes nothing.
use Prim.Native.Nat.{ℕ, zero, suc, ◌-◌, ◌<◌}
use mathlib.Core.Path.{◌≡◌, subst}
use mathlib.Core.Bool.{Bool, true, false, cond, false≢true}
use native.Mathlib.Omega.{arith}
use lib.Dec.{T, ltb}
use lib.IntN.{ℤ, pos, negsuc, nat_abs, ◌-ℤ◌}
use lib.Signed.{non_neg, le_z}
use mir.Syntax.{w64}
use mir.Val.{Fits, SFits, of_z, to_z}
use mir.ValLaws.{to_z-of_z, to_z_pos}
use borrow.Author.Tests.{leb-false}

-- a test of a time's bits is one of the time
pub tested : (t : ℤ) (b : Bool) → SFits w64 t → le_z (pos 0) (to_z w64 (of_z w64 t)) ≡ b → le_z (pos 0) t ≡ b
tested t b f h = subst (λ z. le_z (pos 0) z ≡ b) (to_z-of_z w64 t f) h

-- a time from 1970 on is its size
pub from_1970 : (t : ℤ) → SFits w64 t → le_z (pos 0) t ≡ true → T (non_neg t) × Fits w64 (nat_abs t)
from_1970 (pos n) f h = (tt, omega arith)
from_1970 (negsuc n) f h = absurd (false≢true h)

-- a time before 1970: its bits turned round, and its size
pub record Before (t : ℤ) : Type 0 where
  pub turned : to_z w64 (18446744073709551615 - of_z w64 t) ≡ pos (nat_abs t - 1)
  pub some : 0 < nat_abs t
  pub fits : nat_abs t < 9223372036854775809

pub before_1970 : (t : ℤ) → SFits w64 t → le_z (pos 0) t ≡ false → Before t
before_1970 (pos n) f h = let z : n < 0 = leb-false 0 n h in absurd (omega arith)
before_1970 (negsuc n) f h =
    let e : 18446744073709551615 - (18446744073709551616 - suc n) ≡ n = omega arith in
    let p : suc n - 1 ≡ n = omega arith in
    record { turned = rw (e, p) (to_z_pos w64 n (omega arith)); some = omega arith; fits = omega arith }

-- the time before 1970 of a size
pub negative_fits : (n : ℕ) → n < 9223372036854775808 → SFits w64 (pos 0 -ℤ pos n)
negative_fits zero h = omega arith
negative_fits (suc n) h = go (ltb 0 (suc n))
  where
    go : (b : Bool) → SFits w64 (cond b (negsuc (suc n - 1)) (pos (0 - suc n)))
    go true = omega arith
    go false = omega arith
