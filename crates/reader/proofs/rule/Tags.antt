-- The stages of an arm of the match, by their numbers in the enum.
-- Assumes nothing.
use Prim.Native.Nat.{ℕ}
use mathlib.Core.Bool.{true}
use mathlib.Core.List.{List, [], ◌∷◌}
use mathlib.Core.Path.{◌≡◌, refl}
use denote.Enum.Declared.{tag_of}
use types.Run.{OneOf}
use Rattle.rules_tablet.specs.contracts.Stage.{the_type}
use Rattle.rules_tablet.specs.Calls.{State, parts_ok, stage_ok}
use Rattle.rules_tablet.specs.Parsers.{Parser}
use Rattle.rules_tablet.specs.declared.Stage.{Stage}
use Rattle.laws_reader.proofs.Stages.{by_number}

abbrev bare : List ℕ
bare = 0 ∷ 1 ∷ 15 ∷ []

abbrev rest : List ℕ
rest = 8 ∷ 9 ∷ 10 ∷ 11 ∷ 12 ∷ 14 ∷ []

-- nothing more is wanted
pub bare_right : (c : State) (s : Stage) (p : Parser) → OneOf bare (tag_of the_type s) → true ≡ stage_ok c s p
bare_right c s p =
    by_number bare (λ x. true ≡ stage_ok c x p)
    (refl, refl, λ next. tt, tt, λ k. tt, λ k. tt, λ i. tt, λ i. tt, tt, tt, tt, tt, tt, λ next left. tt, tt, refl, λ k. tt) s

-- what is wanted in a multipart
pub parts_only : (c : State) (s : Stage) (p : Parser) → OneOf rest (tag_of the_type s) → parts_ok c p ≡ stage_ok c s p
parts_only c s p =
    by_number rest (λ x. parts_ok c p ≡ stage_ok c x p)
    (tt, tt, λ next. tt, tt, λ k. tt, λ k. tt, λ i. tt, λ i. tt, refl, refl, refl, refl, refl, λ next left. tt, refl, tt, λ k. tt) s
