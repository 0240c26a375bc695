-- Lines before other bytes.
use Prim.Native.Nat.{ℕ}
use mathlib.Core.Path.{◌≡◌, refl, ap, ◌∙◌}
use mathlib.Core.List.{List, [], ◌∷◌, ◌++◌, append_assoc}
use Rattle.rules_server.specs.Answers.{lines_then}

-- field lines and what follows them, and then more
pub lines-append : (fs : List (List ℕ)) (a rest : List ℕ) → lines_then fs a ++ rest ≡ lines_then fs (a ++ rest)
lines-append [] a rest = refl
lines-append (f ∷ fs) a rest =
    let ih = lines-append fs a rest in
    append_assoc f (13 ∷ 10 ∷ lines_then fs a) rest ∙ ap (λ (x : List ℕ). f ++ (13 ∷ 10 ∷ x)) ih
