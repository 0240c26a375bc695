-- Classes of bytes by their tests and by literal lists of their members.
use Prim.Native.Nat.{ℕ, zero, suc, ◌≤◌, ◌<◌}
use mathlib.Core.Path.{◌≡◌, refl, sym, ◌∙◌}
use mathlib.Core.Logic.{◌⊎◌, inl, inr}
use mathlib.Core.Bool.{Bool, true, false, not, ◌&&◌, ◌||◌, true≢false}
use mathlib.Core.List.Memᴰ
use mathlib.Core.List.{List, [], ◌∷◌, Memᴰ}
use native.Mathlib.Omega.{arith}
use lib.Dec.{ltb, eqb}
use borrow.Author.Tests.{ltb-true, ltb-false, eqb-true, eqb-false, eq-eqb, ne_eqb, le-leb, lt-leb}
use Rattle.rules_server.specs.Octets.{all, is_boundary_byte}
use Rattle.rules_tablet.specs.Lines.{is_token_byte}
use Rattle.laws_server.proofs.grammar.Bytes.{and_left, and_right, and_both}
use Rattle.rules_demands.specs.GrammarFieldLine.{Among, token_bytes}
use Rattle.rules_demands.specs.GrammarMultipartType.{boundary_bytes}

-- a byte stands in a list
abbrev stands : List ℕ → ℕ → Bool
stands [] x = false
stands (y ∷ l) x = eqb x y || stands l x

-- so it is a member
stands_member : (l : List ℕ) (x : ℕ) → stands l x ≡ true → Memᴰ x l
stands_member [] x e = absurd (true≢false (sym e))
stands_member (y ∷ l) x e = go (eqb x y) refl (stands_member l x)
  where
    go : (b : Bool) → eqb x y ≡ b → (stands l x ≡ true → Memᴰ x l) → Memᴰ x (y ∷ l)
    go true t ih = Memᴰ.head (eqb-true x y t)
    go false t ih = Memᴰ.tail (ih (rw t at e))

-- and back
member_stands : (l : List ℕ) (x : ℕ) → Memᴰ x l → stands l x ≡ true
member_stands [] x m = absurd (Memᴰ.not-nil m)
member_stands (y ∷ l) x m = go (Memᴰ.cases_cons m) (member_stands l x)
  where
    or_true : (b : Bool) → (b || true) ≡ true
    or_true true = refl
    or_true false = refl

    go : (x ≡ y) ⊎ Memᴰ x l → (Memᴰ x l → stands l x ≡ true) → stands (y ∷ l) x ≡ true
    go (inl e) ih = rw (eq-eqb x y e)
    go (inr n) ih = rw (ih n) (or_true (eqb x y))

-- two tests have one value
abbrev alike : Bool → Bool → Bool
alike true b = b
alike false b = not b

-- so it is for all numbers below k
abbrev agree : ℕ → (ℕ → Bool) → (ℕ → Bool) → Bool
agree zero p q = true
agree (suc k) p q = alike (p k) (q k) && agree k p q

-- so it is for each
agree_at : (k : ℕ) (p q : ℕ → Bool) → agree k p q ≡ true → (x : ℕ) → x < k → p x ≡ q x
agree_at zero p q e x h = absurd (omega arith)
agree_at (suc k) p q e x h = go (eqb x k) refl (agree_at k p q (and_right (alike (p k) (q k)) (agree k p q) e) x)
  where
    equal : (a b : Bool) → alike a b ≡ true → a ≡ b
    equal true true f = refl
    equal true false f = sym f
    equal false true f = f
    equal false false f = refl

    go : (b : Bool) → eqb x k ≡ b → (x < k → p x ≡ q x) → p x ≡ q x
    go true t ih = let z = eqb-true x k t in rw z (equal (p k) (q k) (and_left (alike (p k) (q k)) (agree k p q) e))
    go false t ih = ih (below t)
      where
        below : eqb x k ≡ false → x < k
        below t = let n : (x ≡ k → ⊥) = eqb-false x k t in omega arith

-- a member of a list whose members are all below k
all_below : (k : ℕ) (l : List ℕ) → all (λ (y : ℕ). ltb y k) l ≡ true → (x : ℕ) → k ≤ x → stands l x ≡ false
all_below k [] e x h = refl
all_below k (y ∷ l) e x h =
    let n : y < k = ltb-true y k (and_left (ltb y k) (all (λ (y : ℕ). ltb y k) l) e) in
    rw (ne_eqb x y (λ q. omega arith)) (all_below k l (and_right (ltb y k) (all (λ (y : ℕ). ltb y k) l) e) x h)

-- no token has a byte from 128 on
token_below : (x : ℕ) → 128 ≤ x → is_token_byte x ≡ false
token_below x h =
    rw (
      lt-leb x 57 (omega arith),
      lt-leb x 90 (omega arith),
      lt-leb x 122 (omega arith),
      lt-leb x 39 (omega arith),
      lt-leb x 96 (omega arith),
      le-leb 48 x (omega arith),
      le-leb 65 x (omega arith),
      le-leb 97 x (omega arith),
      le-leb 35 x (omega arith),
      le-leb 94 x (omega arith),
      ne_eqb x 33 (λ q. omega arith),
      ne_eqb x 42 (λ q. omega arith),
      ne_eqb x 43 (λ q. omega arith),
      ne_eqb x 45 (λ q. omega arith),
      ne_eqb x 46 (λ q. omega arith),
      ne_eqb x 124 (λ q. omega arith),
      ne_eqb x 126 (λ q. omega arith),
    )

-- nor has a boundary
boundary_below : (x : ℕ) → 128 ≤ x → is_boundary_byte x ≡ false
boundary_below x h =
    rw (
      lt-leb x 57 (omega arith),
      lt-leb x 90 (omega arith),
      lt-leb x 122 (omega arith),
      le-leb 48 x (omega arith),
      le-leb 65 x (omega arith),
      le-leb 97 x (omega arith),
      ne_eqb x 45 (λ q. omega arith),
      ne_eqb x 95 (λ q. omega arith),
    )

-- a test and a list that agree below 128, and that both fail from there on
module _ (p : ℕ → Bool) (l : List ℕ) (low : agree 128 p (stands l) ≡ true) (high : (x : ℕ) → 128 ≤ x → p x ≡ false)
    (small : all (λ (y : ℕ). ltb y 128) l ≡ true) where
  -- they agree on each byte
  class_is : (x : ℕ) → p x ≡ stands l x
  class_is x = go (ltb x 128) refl
    where
      go : (b : Bool) → ltb x 128 ≡ b → p x ≡ stands l x
      go true t = agree_at 128 p (stands l) low x (ltb-true x 128 t)
      go false t = let h : 128 ≤ x = ltb-false x 128 t in high x h ∙ sym (all_below 128 l small x h)

  -- and on each text
  pub all_among : (t : List ℕ) → all p t ≡ true → Among l t
  all_among [] e = tt
  all_among (x ∷ t) e = (stands_member l x (sym (class_is x) ∙ and_left (p x) (all p t) e), all_among t (and_right (p x) (all p t) e))

  pub among_all : (t : List ℕ) → Among l t → all p t ≡ true
  among_all [] a = refl
  among_all (x ∷ t) a = and_both (p x) (all p t) (class_is x ∙ member_stands l x a.0) (among_all t a.1)

-- the bytes of tokens
pub token_among : (t : List ℕ) → all is_token_byte t ≡ true → Among token_bytes t
token_among t e = all_among is_token_byte token_bytes refl token_below refl t e

pub among_token : (t : List ℕ) → Among token_bytes t → all is_token_byte t ≡ true
among_token t a = among_all is_token_byte token_bytes refl token_below refl t a

-- the bytes of boundaries
pub boundary_among : (t : List ℕ) → all is_boundary_byte t ≡ true → Among boundary_bytes t
boundary_among t e = all_among is_boundary_byte boundary_bytes refl boundary_below refl t e

pub among_boundary : (t : List ℕ) → Among boundary_bytes t → all is_boundary_byte t ≡ true
among_boundary t a = among_all is_boundary_byte boundary_bytes refl boundary_below refl t a
