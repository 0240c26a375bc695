-- Laws of the members between commas.
use Prim.Native.Nat.{ℕ}
use mathlib.Core.Path.{◌≡◌, refl, ap}
use mathlib.Core.Bool.{Bool, true, false, not}
use mathlib.Core.List.{List, [], ◌∷◌, ◌++◌}
use lib.Dec.{eqb}
use borrow.Author.Tests.{not-true, eqb-true}
use Rattle.rules_server.specs.Octets.{all}
use Rattle.rules_server.specs.Ranges.{members}
use Rattle.laws_server.proofs.grammar.Bytes.{and_left, and_right, and_both}

-- no comma
abbrev pub inner : ℕ → Bool
inner x = not (eqb x 44)

-- a text without commas is one member
pub members-last : (m : List ℕ) → all inner m ≡ true → members m ≡ m ∷ []
members-last [] e = refl
members-last (x ∷ m) e = rw (not-true (eqb x 44) (and_left (inner x) (all inner m) e), members-last m (and_right (inner x) (all inner m) e))

-- with a comma behind it, it is the first of the members
pub members_more : (m l : List ℕ) → all inner m ≡ true → members (m ++ (44 ∷ l)) ≡ m ∷ members l
members_more [] l e = refl
members_more (x ∷ m) l e = rw (not-true (eqb x 44) (and_left (inner x) (all inner m) e), members_more m l (and_right (inner x) (all inner m) e))

-- a text cut at its commas
pub data Cut : List ℕ → Type 0 where
  last : {t : List ℕ} → all inner t ≡ true → Cut t
  more : {t : List ℕ} (m l : List ℕ) → all inner m ≡ true → Cut l → t ≡ m ++ (44 ∷ l) → Cut t

-- a byte that is no comma goes into the first member
cut_inner : (x : ℕ) → eqb x 44 ≡ false → {t : List ℕ} → Cut t → Cut (x ∷ t)
cut_inner x e {t} (last i) = last (and_both (inner x) (all inner t) (ap not e) i)
cut_inner x e (more m l i c q) = more (x ∷ m) l (and_both (inner x) (all inner m) (ap not e) i) c (ap (λ (k : List ℕ). x ∷ k) q)

-- every text can be cut
pub cut : (t : List ℕ) → Cut t
cut [] = last refl
cut (x ∷ t) = go (eqb x 44) refl (cut t)
  where
    go : (b : Bool) → eqb x 44 ≡ b → Cut t → Cut (x ∷ t)
    go true e c = more [] t refl c (ap (λ (k : ℕ). k ∷ t) (eqb-true x 44 e))
    go false e c = cut_inner x e c
