-- Trimmed texts: what is left of a text neither begins nor ends with a blank, and of such a text all is left.
use Prim.Native.Nat.{ℕ}
use mathlib.Core.Path.{◌≡◌, refl, sym, ap, ◌∙◌}
use mathlib.Core.Bool.{Bool, true, false}
use mathlib.Core.List.{List, [], ◌∷◌, ◌++◌}
use Rattle.rules_server.specs.Octets.{is_blank, trim, trim_start, trim_end, before_end}
use Rattle.laws_server.proofs.grammar.Bytes.{nil_cons}
use Rattle.laws_server.proofs.grammar.Blanks.{end_twice, end_back, trim-before, trim-behind}
use Rattle.rules_demands.specs.GrammarRange.{Ows}
use Rattle.rules_demands.specs.GrammarFieldLine.{Trimmed}

-- a text that ends with no blank keeps its end
end_kept : (v : List ℕ) → ((x : ℕ) (l : List ℕ) → v ≡ l ++ (x ∷ []) → is_blank x ≡ false) → trim_end v ≡ v
end_kept [] h = refl
end_kept (x ∷ []) h = rw (h x [] refl)
end_kept (x ∷ y ∷ v) h = ap (before_end x) (end_kept (y ∷ v) (λ z l e. h z (x ∷ l) (ap (λ (k : List ℕ). x ∷ k) e)))

-- a trimmed text is left as it is
pub trim_trimmed : (v : List ℕ) → Trimmed v → trim v ≡ v
trim_trimmed [] t = refl
trim_trimmed (x ∷ v) t = rw (t.starts x v refl) (end_kept (x ∷ v) t.ends)

-- what is left of blanks, a trimmed text and blanks is that text
pub trim_around : (w v u : List ℕ) → Ows w → Trimmed v → Ows u → trim (w ++ (v ++ u)) ≡ v
trim_around w v u e t f = trim-before w (v ++ u) e ∙ trim-behind v u f ∙ trim_trimmed v t

-- what is left begins with no blank
starts_solid : (m : List ℕ) (x : ℕ) (l : List ℕ) → trim m ≡ x ∷ l → is_blank x ≡ false
starts_solid [] x l e = absurd (nil_cons x l e)
starts_solid (y ∷ m) x l e = go (is_blank y) refl (starts_solid m x l)
  where
    first : (k : List ℕ) → is_blank y ≡ false → before_end y k ≡ x ∷ l → y ≡ x
    first [] t f = let g : y ∷ [] ≡ x ∷ l = rw t at f in cc
    first (z ∷ k) t f = cc

    go : (b : Bool) → is_blank y ≡ b → (trim m ≡ x ∷ l → is_blank x ≡ false) → is_blank x ≡ false
    go true t ih = ih (rw t at e)
    go false t ih = let f : trim_end (y ∷ m) ≡ x ∷ l = rw t at e in ap is_blank (sym (first (trim_end m) t f)) ∙ t

-- and ends with none
ends_solid : (k : List ℕ) (x : ℕ) (l : List ℕ) → trim_end k ≡ l ++ (x ∷ []) → is_blank x ≡ false
ends_solid k x l e = go (is_blank x) refl (end_back l (x ∷ []) (rw e at (end_twice k)))
  where
    go : (b : Bool) → is_blank x ≡ b → trim_end (x ∷ []) ≡ x ∷ [] → is_blank x ≡ false
    go true t h = let f : [] ≡ x ∷ [] = rw t at h in absurd (nil_cons x [] f)
    go false t h = t

-- what is left of a text is trimmed
pub trimmed : (m : List ℕ) → Trimmed (trim m)
trimmed m = record { starts = starts_solid m; ends = ends_solid (trim_start m) }
