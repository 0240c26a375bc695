-- Laws of a numeral's value against a limit.
use Prim.Native.Nat.{ℕ, ◌≤◌, ◌<◌}
use mathlib.Core.Path.{◌≡◌, refl}
use mathlib.Core.Bool.{Bool, true, false, cond}
use native.Mathlib.Omega.{arith}
use borrow.Author.Tests.{leb-true, leb-false, le-leb, lt-leb}
use lib.Dec.{leb}
use Rattle.std.specs.Prelude.{None, Some}
use Rattle.numerals.specs.Bounds.{bounded_by}

-- the value itself is given where the test passes
pub picked_within : (b : Bool) (v x : ℕ) → Some x ≡ cond b (Some v) None → (b ≡ true) × (x ≡ v)
picked_within true v x e = (refl, cc)
picked_within false v x e = let z : ◌≡◌ {A = ℕ} 0 1 = cc in absurd (omega arith)

-- and None where it fails
pub picked_over : (b : Bool) (v : ℕ) → None ≡ cond b (Some v) None → b ≡ false
picked_over true v e = let z : ◌≡◌ {A = ℕ} 0 1 = cc in absurd (omega arith)
picked_over false v e = refl

-- a value within the limit
pub bounded-within : (limit v x : ℕ) → Some x ≡ bounded_by limit v → (v ≤ limit) × (x ≡ v)
bounded-within limit v x e =
    let p = picked_within (leb v limit) v x e in
    (leb-true v limit p.0, p.1)

-- a value over the limit
pub bounded-over : (limit v : ℕ) → None ≡ bounded_by limit v → limit < v
bounded-over limit v e = leb-false v limit (picked_over (leb v limit) v e)

-- a numeral's value within a limit, as a test
pub within_test : (limit v x : ℕ) → Some x ≡ bounded_by limit v → (leb v limit ≡ true) × (x ≡ v)
within_test limit v x e =
    let p = bounded-within limit v x e in
    (le-leb v limit p.0, p.1)

-- and over it
pub over_test : (limit v : ℕ) → None ≡ bounded_by limit v → leb v limit ≡ false
over_test limit v e = lt-leb v limit (bounded-over limit v e)
