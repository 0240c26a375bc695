-- Complete exactly when no position is missing.
use Prim.Native.Nat.{ℕ, ◌<◌}
use mathlib.Core.Path.{◌≡◌, refl, sym, ◌∙◌, ap}
use mathlib.Core.Bool.{Bool, true, false, not, false≢true, true≢false}
use mathlib.Core.List.{List, [], ◌∷◌}
use native.Mathlib.Omega.{arith}
use Rattle.rules_server.specs.declared.Run.{Run}
use Rattle.rules_tablet.specs.Runs.{member, WellFormed, holes}
use Rattle.rules_tablet.specs.Copies.{no_hole, is_complete}
use Rattle.laws_runs.proofs.Holes.{holes_formed, holes_member}
use Rattle.laws_runs.proofs.Members.{head-member}

not-not : (b : Bool) → not (not b) ≡ b
not-not true = refl
not-not false = refl

-- complete: every position is held
pub complete_held : (n : ℕ) (rs : List Run) → WellFormed 0 n rs → is_complete n rs ≡ true → (p : ℕ) → p < n → member p rs ≡ true
unfolding is_complete
complete_held n rs w e p h = go (holes n rs) e (holes_member n p rs w h)
  where
    go : (hs : List Run) → no_hole hs ≡ true → member p hs ≡ not (member p rs) → member p rs ≡ true
    go [] t m = sym (not-not (member p rs)) ∙ ap not (sym m)
    go (r ∷ hs) t m = absurd (false≢true t)

-- every position held: complete
pub held_complete : (n : ℕ) (rs : List Run) → WellFormed 0 n rs → ((p : ℕ) → p < n → member p rs ≡ true) → is_complete n rs ≡ true
unfolding is_complete
held_complete n rs w h = go (holes n rs) (holes_formed n rs w) (λ p l. holes_member n p rs w l)
  where
    go : (hs : List Run) → WellFormed 0 n hs → ((p : ℕ) → p < n → member p hs ≡ not (member p rs)) → no_hole hs ≡ true
    go [] f m = refl
    go (r ∷ hs) f m =
        let below : r.first < n = omega arith in
        let missing = m r.first below in
        absurd (true≢false (sym (head-member r.first r hs (omega arith) f.1) ∙ missing ∙ ap not (h r.first below)))
