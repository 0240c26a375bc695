-- Differences of bytes, gathered bit by bit, and fronts that agree.
-- Assumes nothing.
use Prim.Native.Nat.{ℕ, suc, ◌+◌, ◌<◌}
use native.Mathlib.Omega.{arith}
use mathlib.Core.Path.{◌≡◌}
use mathlib.Core.List.{List, [], ◌∷◌}
use lib.ListN.{length, get_or, take, drop, length-drop}
use lib.Seq.{take-suc, take-add, get_or-drop}
use lib.Bits.{bit_or, bit_xor, or_add_and, xor_add_and, and_le_l, and_le_r}
use mathlib.Core.Path.{refl}
use mathlib.Core.Bool.{Bool, true, false}
use Rattle.std.proofs.Common.{cond, eqb, take_while, inl, inr, ◌⊎◌, one-add}
use Rattle.std.proofs.lemmas.Bool.{eqb-true, eqb-false}
use Rattle.std.proofs.lemmas.List.Folds.{length-prefix_len}
use Rattle.std.specs.List.{zip, prefix_len}
use Rattle.reader_data.specs.Agreements.{FrontAgrees, Agrees}

-- no bit of either
or_none : (a b : ℕ) → bit_or a b ≡ 0 → (a ≡ 0) × (b ≡ 0)
or_none a b e = (omega (arith, or_add_and a b, and_le_r a b), omega (arith, or_add_and a b, and_le_l a b))

-- numbers that differ in no bit
xor_none : (a b : ℕ) → bit_xor a b ≡ 0 → a ≡ b
xor_none a b e = omega (arith, xor_add_and a b, and_le_l a b, and_le_r a b)

-- one byte more, which is alike
alike-next : (a b : List ℕ) (i : ℕ) → i < length a → i < length b → take i a ≡ take i b → get_or a i 0 ≡ get_or b i 0 → take (suc i) a ≡ take (suc i) b
alike-next a b i u v e f = rw (take-suc a i 0 u, take-suc b i 0 v, e, f)

-- no difference so far in either half, and none at i
pub halves_next : (a b : List ℕ) (h i d : ℕ) → h + i < length a → h + i < length b → (d ≡ 0 → (take i a ≡ take i b) × (take i (drop h a) ≡ take i (drop h b)))
    → bit_or d (bit_or (bit_xor (get_or a i 0) (get_or b i 0)) (bit_xor (get_or a (h + i) 0) (get_or b (h + i) 0))) ≡ 0
    → (take (suc i) a ≡ take (suc i) b) × (take (suc i) (drop h a) ≡ take (suc i) (drop h b))
halves_next a b h i d u v f e =
    let n = or_none d _ e in
    let m = or_none _ _ n.1 in
    let g = f n.0 in (
      alike-next a b i (omega arith) (omega arith) g.0 (xor_none _ _ m.0),
      alike-next (drop h a) (drop h b) i (rw length-drop (omega arith)) (rw length-drop (omega arith)) g.1 (rw (get_or-drop, get_or-drop) (xor_none _ _ m.1)),
    )

-- both halves agree
pub halves_agree : (a b : List ℕ) (h : ℕ) → take h a ≡ take h b → take h (drop h a) ≡ take h (drop h b) → take (h + h) a ≡ take (h + h) b
halves_agree a b h e f = rw (take-add h h a, take-add h h b, e, f)

-- what agrees behind a front that agrees
pub agrees_behind : (a b : List ℕ) (k j : ℕ) → FrontAgrees a b k → Agrees (drop k a) (drop k b) j → Agrees a b (k + j)
agrees_behind a b k j f g =
    let x = rw length-drop at g.left in
    let y = rw length-drop at g.right in
    record {
      left = omega (arith, f.left);
      right = omega (arith, f.right);
      alike = rw (take-add k j a, take-add k j b, f.alike, g.alike);
      differ = λ u v e. g.differ (rw length-drop (omega arith)) (rw length-drop (omega arith)) (rw (get_or-drop, get_or-drop) e);
    }

-- behind a byte that agrees
one_more : (x y : ℕ) (a b : List ℕ) (k : ℕ) → x ≡ y → Agrees a b k → Agrees (x ∷ a) (y ∷ b) (suc k)
one_more x y a b k e w = record {
  left = omega (arith, w.left);
  right = omega (arith, w.right);
  alike = let f = w.alike in cc;
  differ = λ u v. w.differ (omega arith) (omega arith);
}

-- where a list has ended no more bytes agree
ended : (a b : List ℕ) → (length a ≡ 0) ⊎ (length b ≡ 0) → Agrees a b 0
ended a b (inl e) = record { left = omega arith; right = omega arith; alike = refl; differ = λ u v. absurd (omega arith) }
ended a b (inr e) = record { left = omega arith; right = omega arith; alike = refl; differ = λ u v. absurd (omega arith) }

-- two bytes are the same
abbrev same : ℕ × ℕ → Bool
same p = eqb p.0 p.1

-- so many bytes agree as pairs at the front are of the same bytes
pairs_agree : (a b : List ℕ) → Agrees a b (prefix_len same (zip a b))
pairs_agree [] b = ended [] b (inl refl)
pairs_agree (x ∷ a) [] = ended (x ∷ a) [] (inr refl)
pairs_agree (x ∷ a) (y ∷ b) = go (eqb x y) refl (pairs_agree a b)
  where
    go : (t : Bool) → eqb x y ≡ t → Agrees a b (prefix_len same (zip a b)) → Agrees (x ∷ a) (y ∷ b) (cond t (1 + prefix_len same (zip a b)) 0)
    go true e w = rw one-add (one_more x y a b _ (eqb-true x y e) w)
    go false e w = record { left = omega arith; right = omega arith; alike = refl; differ = λ u v f. eqb-false x y e f }

pub counted_agree : (a b : List ℕ) (k : ℕ) → k ≡ length (take_while (λ (p : ℕ × ℕ). eqb p.0 p.1) (zip a b)) → Agrees a b k
counted_agree a b k e = rw (e, length-prefix_len) (pairs_agree a b)
