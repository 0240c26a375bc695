-- Texts "in any case" (document 01) of their letters, as RFC 5234 section 2.3 reads a quoted text.
use Rattle.std.specs.Prelude.{ℕ, ◌+◌, ◌<◌, ◌≡◌, List, [], ◌∷◌}

-- two bytes are one letter in either case, `A` to `Z` being 65 to 90 and `a` to `z` 97 to 122, or the same byte
pub data Alike (x y : ℕ) : Type 0 where
  same : x ≡ y → Alike x y
  capital : (k : ℕ) → k < 26 → x ≡ 65 + k → y ≡ 97 + k → Alike x y
  small : (k : ℕ) → k < 26 → x ≡ 97 + k → y ≡ 65 + k → Alike x y

-- a text is the second one in any case (RFC 5234, section 2.3)
abbrev pub AnyCase : List ℕ → List ℕ → Type 0
AnyCase [] [] = Unit {0}
AnyCase [] (y ∷ q) = ⊥
AnyCase (x ∷ t) [] = ⊥
AnyCase (x ∷ t) (y ∷ q) = Alike x y × AnyCase t q
