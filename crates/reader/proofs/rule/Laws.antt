-- Tests of numbers that say the same, and where a reader may stand as the tests look at it.
-- Assumes nothing.
use Prim.Native.Nat.{ℕ, ◌≤◌, min}
use native.Mathlib.Omega.{arith}
use mathlib.Core.Path.{◌≡◌, refl, sym, ◌∙◌}
use mathlib.Core.List.{List}
use mathlib.Core.Bool.{Bool, true, false, ◌&&◌, and-true}
use lib.Dec.{leb, eqb}
use lib.ListN.{length, take}
use lib.Seq.{take_all}
use borrow.Author.Tests.{leb-true, leb-false, le-leb, eqb-true, eqb-false}
use Rattle.rules_server.specs.Limits.{max_tag, max_boundary}
use Rattle.rules_tablet.specs.Limits.{max_line}
use Rattle.rules_tablet.specs.Parsers.{Parser}
use Rattle.rules_tablet.specs.Calls.{State, stage_ok, reader_ok}
use Rattle.rules_tablet.specs.declared.Stage.{Stage}
use Rattle.laws_reader.proofs.Stages.{each}
use Rattle.laws_runs.proofs.Lies.{below_or}
use Rattle.reader.specs.Rules.{copy_with, parser_with, frame_ok}

-- orders that say the same are the same tests
pub same_order : (a b c d : ℕ) → (a ≤ b → c ≤ d) → (c ≤ d → a ≤ b) → leb a b ≡ leb c d
same_order a b c d f g = go (leb a b) refl (leb c d) refl
  where
    go : (x : Bool) → leb a b ≡ x → (y : Bool) → leb c d ≡ y → leb a b ≡ leb c d
    go true e true h = rw (e, h)
    go true e false h = absurd (omega (arith, f (leb-true a b e), leb-false c d h))
    go false e true h = absurd (omega (arith, g (leb-true c d h), leb-false a b e))
    go false e false h = rw (e, h)

-- and so are equations
pub same_equation : (a b c d : ℕ) → (a ≡ b → c ≡ d) → (c ≡ d → a ≡ b) → eqb a b ≡ eqb c d
same_equation a b c d f g = go (eqb a b) refl (eqb c d) refl
  where
    go : (x : Bool) → eqb a b ≡ x → (y : Bool) → eqb c d ≡ y → eqb a b ≡ eqb c d
    go true e true h = rw (e, h)
    go true e false h = absurd (eqb-false c d h (f (eqb-true a b e)))
    go false e true h = absurd (eqb-false a b e (g (eqb-true c d h)))
    go false e false h = rw (e, h)

-- of a copy the tag and the length are looked at, of a parser not its stage and its line
pub stage_looks : (c : State) (s : Stage) (p : Parser)
    → stage_ok (copy_with c.tag c.length) s (parser_with p.framing.after p.head p.part p.tag p.boundary) ≡ stage_ok c s p
stage_looks c s p =
    each (λ x. stage_ok (copy_with c.tag c.length) x (parser_with p.framing.after p.head p.part p.tag p.boundary) ≡ stage_ok c x p)
    (refl, refl, λ next. refl, refl, λ k. refl, λ k. refl, λ i. refl, λ i. refl, refl, refl, refl, refl, refl, λ next left. refl, refl, refl, λ k. refl) s

-- where the lengths lie within the arrays, the rule is what holds wherever the reader stands and what holds where it stands
pub rule_parts : (c : State) (p : Parser) → length p.line ≤ max_line → length p.tag ≤ max_tag → length p.boundary ≤ max_boundary
    → reader_ok c p ≡ (frame_ok p.head p.part p.framing.after p.boundary && stage_ok c p.stage p)
unfolding reader_ok
rule_parts c p l t b = rw (le-leb _ _ l, le-leb _ _ t, le-leb _ _ b, and-true, and-true)

-- no more is taken than there is
pub take_least : (k m : ℕ) (l : List ℕ) → length l ≡ m → take (min k m) l ≡ take k l
take_least k m l e =
    below_or k m (λ u. let f : min k m ≡ k = omega arith in rw f) (λ u. let f : min k m ≡ m = omega arith in
    rw f (take_all m l (omega arith) ∙ sym (take_all k l (omega arith))))
