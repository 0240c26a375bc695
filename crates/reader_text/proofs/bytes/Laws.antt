-- The stages of an arm of a match, by their numbers in the enum; the counted bytes.
use Prim.Native.Nat.{ℕ, zero, suc, ◌-◌}
use native.Mathlib.Omega.{arith}
use mathlib.Core.Bool.{true, false}
use mathlib.Core.List.{List, [], ◌∷◌}
use mathlib.Core.Path.{◌≡◌, refl}
use denote.Enum.Declared.{tag_of}
use types.Run.{OneOf}
use Rattle.rules_tablet.specs.contracts.Stage.{the_type}
use Rattle.rules_tablet.specs.Parsers.{Parser, at, refuse, with_framing, counted_body, count_byte, last_byte}
use Rattle.rules_tablet.specs.declared.Stage.{Stage}
use Rattle.rules_tablet.specs.declared.Stage.TheVariants.{Status, Fields, PartLine, Finished}
use Rattle.laws_reader.proofs.Stages.{where_met, by_number}
use Rattle.reader_text.specs.Lines.{is_line}

abbrev ending : List ℕ
ending = 2 ∷ 3 ∷ 14 ∷ 15 ∷ []

abbrev unended : List ℕ
unended = 0 ∷ 1 ∷ 4 ∷ 5 ∷ 6 ∷ 7 ∷ 8 ∷ 9 ∷ 10 ∷ 11 ∷ 12 ∷ 13 ∷ []

abbrev bare : List ℕ
bare = 2 ∷ 3 ∷ 4 ∷ 5 ∷ 6 ∷ 7 ∷ 8 ∷ 9 ∷ 10 ∷ 11 ∷ 13 ∷ 14 ∷ 15 ∷ 16 ∷ []

-- where a line is read, it is the status line, a field line or a line of a part
pub line_cases : (P : Stage → Type 0) → P Status → P Fields → P PartLine → (s : Stage) → is_line s ≡ true → P s
line_cases P f g h = where_met is_line P (f, g, λ next. tt, tt, λ k. tt, λ k. tt, λ i. tt, λ i. tt, tt, tt, tt, tt, h, λ next left. tt, tt, tt, λ k. tt)

-- where none is read
pub no_line : (s : Stage) → OneOf bare (tag_of the_type s) → is_line s ≡ false
no_line =
    by_number bare (λ s. is_line s ≡ false)
    (tt, tt, λ next. refl, refl, λ k. refl, λ k. refl, λ i. refl, λ i. refl, refl, refl, refl, refl, tt, λ next left. refl, refl, refl, λ k. refl)

-- the last byte of a whole body
pub last-ends : (s : Stage) (p : Parser) → OneOf ending (tag_of the_type s) → last_byte s (at s p) ≡ at Finished p
last-ends s p =
    by_number ending (λ x. last_byte x (at x p) ≡ at Finished p)
    (tt, tt, λ next. refl, refl, λ k. tt, λ k. tt, λ i. tt, λ i. tt, tt, tt, tt, tt, tt, λ next left. tt, refl, refl, λ k. tt) s

-- the last byte of another
pub last_breaks : (s : Stage) (p : Parser) → OneOf unended (tag_of the_type s) → last_byte s (at s p) ≡ refuse 15 p
last_breaks s p =
    by_number unended (λ x. last_byte x (at x p) ≡ refuse 15 p)
    (refl, refl, λ next. tt, tt, λ k. refl, λ k. refl, λ i. refl, λ i. refl, refl, refl, refl, refl, refl, λ next left. refl, tt, tt, λ k. tt) s

-- a counted byte with more after it
pub framed_more : (k : ℕ) (p : Parser) → (k ≡ 0 → ⊥) → count_byte k p ≡ with_framing (counted_body (k - 1)) p
framed_more zero p h = absurd (h refl)
framed_more (suc k) p h = let e : suc k - 1 ≡ k = omega arith in rw e
