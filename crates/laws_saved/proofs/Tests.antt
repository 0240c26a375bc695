-- Tests that give a number, texts that are the same, and the bytes of a tag. Assumes nothing.
use Prim.Native.Nat.{ℕ, suc, ◌<◌}
use mathlib.Core.Path.{◌≡◌, refl, sym, ap₂, ◌∙◌}
use mathlib.Core.Bool.{Bool, true, false, cond, true≢false, and-eq-true_iff}
use mathlib.Core.List.{List, [], ◌∷◌}
use native.Mathlib.Omega.{arith}
use lib.Dec.{leb, eqb}
use borrow.Author.Tests.{leb-true, eqb-true, eq-eqb}
use Rattle.rules_server.specs.Numbers.{AreBytes}
use Rattle.rules_server.specs.Octets.{same, is_nil, is_tag_byte, within, quote}
use Rattle.rules_server.specs.Tags.{is_strong, tag_end}

-- a test passes or fails
pub by_test : {A : Type 0} (b : Bool) → (b ≡ true → A) → (b ≡ false → A) → A
by_test true t f = t refl
by_test false t f = f refl

-- a test that gives 0 has passed
pub passed : (b : Bool) (n : ℕ) → cond b 0 (suc n) ≡ 0 → b ≡ true
passed true n e = refl
passed false n e = absurd (omega arith)

-- one that gives another number has failed, and it is that number
pub failed : (b : Bool) (n k : ℕ) → cond b 0 n ≡ suc k → (b ≡ false) × (n ≡ suc k)
failed true n k e = absurd (omega arith)
failed false n k e = (refl, e)

-- texts that are the same are equal
pub same_equal : (a b : List ℕ) → same a b ≡ true → a ≡ b
same_equal [] [] e = refl
same_equal [] (y ∷ b) e = absurd (true≢false (sym e))
same_equal (x ∷ a) [] e = absurd (true≢false (sym e))
same_equal (x ∷ a) (y ∷ b) e =
    let h = (and-eq-true_iff (eqb x y) (same a b)).0 e in
    ap₂ ◌∷◌ (eqb-true x y h.0) (same_equal a b h.1)

-- a text is the same as itself
pub same_itself : (a : List ℕ) → same a a ≡ true
same_itself [] = refl
same_itself (x ∷ a) = rw (eq-eqb x x refl) (same_itself a)

-- texts that differ are not the same
pub differ_same : (a b : List ℕ) → (a ≡ b → ⊥) → same a b ≡ false
differ_same a b h = by_test (same a b) (λ e. absurd (h (same_equal a b e))) (λ e. e)

-- and texts that are not the same differ
pub same_differ : (a b : List ℕ) → same a b ≡ false → a ≡ b → ⊥
same_differ a b e f = true≢false (sym (same_itself b) ∙ rw f at e)

-- a byte of a tag is a byte
tag_byte : (x : ℕ) → is_tag_byte x ≡ true → x < 256
tag_byte x e =
    by_test (eqb x 0x21) (λ f. omega (arith, eqb-true x 0x21 f)) λ f.
    by_test (within 0x23 0x7E x) (λ g. omega (arith, leb-true x 0x7E ((and-eq-true_iff (leb 0x23 x) (leb x 0x7E)).0 g).1)) λ g.
    let h : within 0x80 0xFF x ≡ true = rw (f, g) at e in
    omega (arith, leb-true x 0xFF ((and-eq-true_iff (leb 0x80 x) (leb x 0xFF)).0 h).1)

-- the bytes behind a tag's first quote are bytes
end_bytes : (t : List ℕ) → tag_end t ≡ true → AreBytes t
end_bytes [] e = tt
end_bytes (x ∷ t) e = go (eqb x quote) refl (end_bytes t)
  where
    none : (l : List ℕ) → is_nil l ≡ true → AreBytes l
    none [] f = tt
    none (y ∷ l) f = absurd (true≢false (sym f))

    go : (b : Bool) → eqb x quote ≡ b → (tag_end t ≡ true → AreBytes t) → AreBytes (x ∷ t)
    go true f ih = (omega (arith, eqb-true x quote f), none t (rw f at e))
    go false f ih =
        let h = (and-eq-true_iff (is_tag_byte x) (tag_end t)).0 (rw f at e) in
        (tag_byte x h.0, ih h.1)

-- a strong tag is bytes
pub strong_bytes : (t : List ℕ) → is_strong t ≡ true → AreBytes t
strong_bytes [] e = tt
strong_bytes (x ∷ t) e =
    let h = (and-eq-true_iff (eqb x quote) (tag_end t)).0 e in
    (omega (arith, eqb-true x quote h.0), end_bytes t h.1)
