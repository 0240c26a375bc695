-- What a range that is not wrong says of its positions.
use Prim.Native.Nat.{ℕ, ◌<◌, ◌≤◌, ◌^◌, min}
use native.Mathlib.Omega.{arith}
use mathlib.Core.Bool.{Bool, true, false, ◌||◌}
use mathlib.Core.Path.{◌≡◌}
use lib.Dec.{leb, ltb}
use borrow.Author.Tests.{ltb-false, leb-false}
use Rattle.rules_tablet.specs.Fields.{is_wrong, first_of, last_of}
use Rattle.rules_tablet.specs.Heads.{span_of}
use Rattle.rules_tablet.specs.declared.RangeField.TheVariants.{Absent, Wrong, Span, Of}
use Rattle.rules_tablet.specs.declared.RangeField.{RangeField}

-- neither side of a false disjunction is true
pub neither : (a b : Bool) → a || b ≡ false → (a ≡ false) × (b ≡ false)
neither false b e = (mathlib.Core.Path.refl, e)
neither true b e = (e, let z : ◌≡◌ {A = ℕ} 0 1 = cc in absurd (omega arith))

-- of a range that is not wrong the first position is at most the last, and the last within the copy
pub record Right (n : ℕ) (x : RangeField) : Type 0 where
  pub ordered : first_of x ≤ last_of x
  pub inside : last_of x < n

pub right_last : (n : ℕ) (x : RangeField) → is_wrong n x ≡ false → Right n x
right_last n Absent e = let z : ◌≡◌ {A = ℕ} 0 1 = cc in absurd (omega arith)
right_last n Wrong e = let z : ◌≡◌ {A = ℕ} 0 1 = cc in absurd (omega arith)
right_last n (Span a b) e =
    let h = neither (ltb b a) (leb n b) e in
    record { ordered = ltb-false b a h.0; inside = leb-false n b h.1 }
right_last n (Of a b s) e =
    let h = neither (ltb b a || leb s b) (leb n b) e in
    record { ordered = ltb-false b a (neither (ltb b a) (leb s b) h.0).0; inside = leb-false n b h.1 }

-- its span fits in 64 bits
pub right_span : (n : ℕ) (x : RangeField) (k : ℕ) → n < 2 ^ 64 → is_wrong n x ≡ false → k ≡ min (span_of x) 18446744073709551615 → k ≡ span_of x
right_span n x k small e h = let r = right_last n x e in omega (arith, h)
