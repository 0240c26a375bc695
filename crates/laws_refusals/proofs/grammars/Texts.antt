-- Laws of what a text begins with, and of a text cut at the first of a byte.
use Prim.Native.Nat.{ℕ, suc, ◌<◌}
use mathlib.Core.Path.{◌≡◌, refl, sym, ap, ◌∙◌}
use mathlib.Core.Bool.{Bool, true, false, not, ◌||◌, true≢false}
use mathlib.Core.List.{List, [], ◌∷◌, ◌++◌}
use native.Mathlib.Omega.{arith}
use lib.Dec.{eqb}
use lib.ListN.{length, drop}
use borrow.Author.Tests.{not-true, eqb-true, eq-eqb}
use Rattle.rules_server.specs.Octets.{all, starts_with, before}
use Rattle.laws_server.proofs.grammar.Bytes.{and_left, and_right}

-- a text that begins with another is that one and the rest
pub starts_text : (p l : List ℕ) → starts_with p l ≡ true → l ≡ p ++ drop (length p) l
starts_text [] l e = refl
starts_text (x ∷ p) [] e = absurd (true≢false (sym e))
starts_text (x ∷ p) (y ∷ l) e =
    let h = eqb-true x y (and_left (eqb x y) (starts_with p l) e) in
    let r = starts_text p l (and_right (eqb x y) (starts_with p l) e) in
    ap (λ (k : ℕ). k ∷ l) (sym h) ∙ ap (λ (k : List ℕ). x ∷ k) r

-- of two tests that fail, each fails
pub or_left : (a b : Bool) → (a || b) ≡ false → a ≡ false
or_left true b e = absurd (true≢false e)
or_left false b e = refl

pub or_right : (a b : Bool) → (a || b) ≡ false → b ≡ false
or_right true b e = absurd (true≢false e)
or_right false b e = e

-- another byte than c
abbrev pub is_other : ℕ → ℕ → Bool
is_other c x = not (eqb x c)

-- what stands before the first c, of bytes other than c before a c
pub before-at : (c : ℕ) (n r : List ℕ) → all (is_other c) n ≡ true → before c (n ++ (c ∷ r)) ≡ n
before-at c [] r e = rw (eq-eqb c c refl)
before-at c (x ∷ n) r e =
    rw (not-true (eqb x c) (and_left (is_other c x) (all (is_other c) n) e))
    (ap (λ (k : List ℕ). x ∷ k) (before-at c n r (and_right (is_other c x) (all (is_other c) n) e)))

-- and of such bytes alone
pub before_alone : (c : ℕ) (n : List ℕ) → all (is_other c) n ≡ true → before c n ≡ n
before_alone c [] e = refl
before_alone c (x ∷ n) e =
    rw (not-true (eqb x c) (and_left (is_other c x) (all (is_other c) n) e))
    (ap (λ (k : List ℕ). x ∷ k) (before_alone c n (and_right (is_other c x) (all (is_other c) n) e)))

-- what stands behind a text and a byte
pub drop-behind : (c : ℕ) (n r : List ℕ) → drop (suc (length n)) (n ++ (c ∷ r)) ≡ r
drop-behind c [] r = refl
drop-behind c (x ∷ n) r = drop-behind c n r

-- a text has no c, or is cut at its first c
pub data Cut (c : ℕ) (l : List ℕ) : Type 0 where
  whole : before c l ≡ l → Cut c l
  parted : length (before c l) < length l → l ≡ before c l ++ (c ∷ drop (suc (length (before c l))) l) → Cut c l

-- every text
pub cut : (c : ℕ) (l : List ℕ) → Cut c l
cut c [] = whole refl
cut c (x ∷ l) = go (eqb x c) refl (cut c l)
  where
    go : (b : Bool) → eqb x c ≡ b → Cut c l → Cut c (x ∷ l)
    go true t k = parted (rw t (omega arith)) (rw t (ap (λ (y : ℕ). y ∷ l) (eqb-true x c t)))
    go false t (whole e) = whole (rw t (ap (λ (y : List ℕ). x ∷ y) e))
    go false t (parted h e) = parted (rw t (omega arith)) (rw t (ap (λ (y : List ℕ). x ∷ y) e))
