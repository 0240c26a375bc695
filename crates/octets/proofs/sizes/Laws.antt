-- What comes before a multiple of 16.
-- Assumes nothing.
use Prim.Native.Nat.{ℕ, ◌-◌, ◌%◌, ◌≤◌}
use native.Mathlib.Omega.{arith}
use mathlib.Core.Bool.{Bool, true, false, cond}
use mathlib.Core.Path.{◌≡◌, refl}
use lib.Dec.{ltb}
use borrow.Author.Tests.{ltb-false}
use Rattle.octets.specs.Leads.{lead_of}

-- it is no more than there is
pub lead_within : (at n : ℕ) → lead_of at n ≤ n
lead_within at n = go (ltb n 1024) refl
  where
    go : (b : Bool) → ltb n 1024 ≡ b → cond b 0 (16 - at % 16) ≤ n
    go true e = omega arith
    go false e = omega (arith, ltb-false n 1024 e)
