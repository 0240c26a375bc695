-- Laws of bytes that are all the same. Assumes nothing.
use Rattle.std.proofs.Common.{◌≡◌, ℕ, ◌==◌, ◌&&◌, ◌↔◌, Bool, true, false, IsTrue, List, [], ◌∷◌, refl, sym, ap, ◌∙◌}
use Rattle.std.specs.List.{list_all, All}
use Rattle.std.proofs.lemmas.Bool.{eq-eqb, eqb-true}
use Rattle.std.proofs.lemmas.List.Sums.{AllPass-from_list_all, list_all-from_AllPass}
use Rattle.program_io.specs.Fills.{every}

-- bytes that are all b, in std's words
every_all : (b : ℕ) (v : List ℕ) → list_all (λ x. x == b) v ≡ every b v
every_all b [] = refl
every_all b (x ∷ v) = ap (λ t. (x == b) && t) (every_all b v)

-- a test that says whether each byte is b
pub decided : (r : Bool) (b : ℕ) (v : List ℕ) → (IsTrue r ↔ All (λ x. x ≡ b) v) → r ≡ every b v
decided true b v h =
    let e = list_all-from_AllPass (λ x. x == b) v (λ k d k_in. eq-eqb _ b (h.0 refl k d k_in)) in
    sym e ∙ every_all b v
decided false b v h = go (list_all (λ x. x == b) v) refl ∙ every_all b v
  where
    go : (t : Bool) → list_all (λ x. x == b) v ≡ t → false ≡ list_all (λ x. x == b) v
    go false e = sym e
    go true e = h.1 (λ k d k_in. eqb-true _ b (AllPass-from_list_all (λ x. x == b) v e k d k_in)) ∙ sym e
