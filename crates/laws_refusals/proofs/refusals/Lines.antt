-- What a byte makes of a line so far: it is refused exactly by a fault of the line.
use Prim.Native.Nat.{ℕ, ◌<◌}
use mathlib.Core.Path.{◌≡◌, refl, sym, ap, ◌∙◌}
use mathlib.Core.Bool.{Bool, true, false, true≢false}
use mathlib.Core.List.{List, [], ◌∷◌, ◌++◌}
use native.Mathlib.Omega.{arith}
use lib.Dec.{eqb, ltb}
use lib.ListN.{length, length-append}
use borrow.Author.Tests.{eqb-true, eqb-false, ltb-true, ltb-false, lt-ltb, le-ltb, ne_eqb}
use Rattle.laws_server.proofs.grammar.Bytes.{all-append}
use Rattle.rules_tablet.specs.Limits.{max_line}
use Rattle.rules_tablet.specs.Lines.{is_line_byte, going, broken, line_step}
use Rattle.rules_demands.specs.AcceptanceGrammar.{Line}
use Rattle.rules_demands.specs.RefusalLines.{ByteFault, forbidden, too_long, after_cr}

-- a line byte is no CR
line_no_cr : (b : ℕ) → is_line_byte b ≡ true → b ≡ 13 → ⊥
line_no_cr b h e = true≢false (sym h ∙ ap is_line_byte e)

-- a line byte lengthens a line that is not full
pub line_on : (l : List ℕ) (b : ℕ) → is_line_byte b ≡ true → length l < max_line → line_step l false b ≡ going (l ++ (b ∷ [])) false
line_on l b h f = rw (ne_eqb b 13 (line_no_cr b h), h, lt-ltb (length l) max_line f)

-- a fault breaks the line
pub fault_breaks : (l : List ℕ) (b : ℕ) (cr : Bool) → ByteFault l b cr → line_step l cr b ≡ broken
fault_breaks l b cr (forbidden e f h) = rw (e, ne_eqb b 13 f, h)
fault_breaks l b cr (too_long e h f) = rw (e, ne_eqb b 13 (line_no_cr b h), h, le-ltb (length l) max_line (omega arith))
fault_breaks l b cr (after_cr e f) = rw (e, ne_eqb b 10 f)

-- what a byte is to a line before its CR
pub data OpenCase (l : List ℕ) (b : ℕ) : Type 0 where
  returns : b ≡ 13 → OpenCase l b
  grows : is_line_byte b ≡ true → length l < max_line → OpenCase l b
  breaks : ByteFault l b false → OpenCase l b

-- and behind it
pub data EndCase (l : List ℕ) (b : ℕ) : Type 0 where
  ends : b ≡ 10 → EndCase l b
  breaks : ByteFault l b true → EndCase l b

-- every byte behind the CR is one of these
pub end_case : (l : List ℕ) (b : ℕ) → EndCase l b
end_case l b = go (eqb b 10) refl
  where
    go : (x : Bool) → eqb b 10 ≡ x → EndCase l b
    go true e = ends (eqb-true b 10 e)
    go false e = breaks (after_cr refl (eqb-false b 10 e))

-- so is every byte before the CR
pub open_case : (l : List ℕ) (b : ℕ) → Line l → OpenCase l b
open_case l b f = go (eqb b 13) (is_line_byte b) (ltb (length l) max_line) refl refl refl
  where
    go : (x y z : Bool) → eqb b 13 ≡ x → is_line_byte b ≡ y → ltb (length l) max_line ≡ z → OpenCase l b
    go true y z e g h = returns (eqb-true b 13 e)
    go false false z e g h = breaks (forbidden refl (eqb-false b 13 e) g)
    go false true true e g h = grows g (ltb-true (length l) max_line h)
    go false true false e g h =
        let r = ltb-false (length l) max_line h in
        let full : length l ≡ max_line = omega (arith, f.short) in
        breaks (too_long refl g full)

-- a line with one byte more is one
pub line_longer : (l : List ℕ) (b : ℕ) → Line l → is_line_byte b ≡ true → length l < max_line → Line (l ++ (b ∷ []))
line_longer l b f h r = let longer = length-append l (b ∷ []) in
    record { bytes = all-append is_line_byte l (b ∷ []) f.bytes (rw h); short = omega (arith, longer) }

-- no byte of it yet
pub none_far : Line []
none_far = record { bytes = refl; short = omega arith }
