-- Texts of bytes above the space: a line's CR ends them, and trimming leaves them.
use Prim.Native.Nat.{ℕ, suc}
use mathlib.Core.Path.{◌≡◌, refl, sym, ◌∙◌, ap}
use mathlib.Core.Bool.{Bool, true, false, ◌&&◌, true≢false}
use mathlib.Core.List.{List, [], ◌∷◌, ◌++◌}
use native.Mathlib.Omega.{arith}
use borrow.Author.Tests.{leb-true, leb-false, le-leb, lt-leb, ne_eqb, eq-eqb, eqb-true}
use lib.Dec.{leb, eqb}
use lib.ListN.{length, drop}
use Rattle.rules_server.specs.Octets.{is_digit, is_tag_byte, is_nil, all, same, before, trim}
use Rattle.rules_server.specs.Tags.{tag_end, is_strong}
use Rattle.laws_server.proofs.grammar.Bytes.{and_left, and_right, and_both, all_weaker}
use Rattle.laws_server.proofs.grammar.Blanks.{solid, trim_solid}

-- a byte above the space
abbrev pub plain : ℕ → Bool
plain x = leb 33 x

-- such a byte is not the byte c, which is not above the space
unlike : (c x : ℕ) → leb 33 c ≡ false → plain x ≡ true → eqb x c ≡ false
unlike c x d e = ne_eqb x c (λ q. true≢false (sym e ∙ ap plain q ∙ d))

-- it is no blank
plain_solid : (x : ℕ) → plain x ≡ true → solid x ≡ true
plain_solid x e = rw (unlike 32 x refl e, unlike 9 x refl e)

-- a text of such bytes is left by trimming
pub trim-plain : (l : List ℕ) → all plain l ≡ true → trim l ≡ l
trim-plain l e = trim_solid l (all_weaker plain solid plain_solid l e)

-- it ends where a CR stands
pub before-plain : (l rest : List ℕ) → all plain l ≡ true → before 13 (l ++ (13 ∷ rest)) ≡ l
before-plain [] rest e = refl
before-plain (x ∷ l) rest e = rw (unlike 13 x refl (and_left (plain x) (all plain l) e))
    (ap (λ (k : List ℕ). x ∷ k) (before-plain l rest (and_right (plain x) (all plain l) e)))

-- what stands behind it and its CR LF
pub drop-line : (l rest : List ℕ) → drop (suc (suc (length l))) (l ++ (13 ∷ 10 ∷ rest)) ≡ rest
drop-line [] rest = refl
drop-line (x ∷ l) rest = drop-line l rest

-- a digit is such a byte
pub digit-plain : (x : ℕ) → is_digit x ≡ true → plain x ≡ true
digit-plain x e = le-leb 33 x (omega (arith, leb-true 48 x (and_left (leb 48 x) (leb x 57) e)))

-- a byte of a tag is one
tag_byte_plain : (x : ℕ) → is_tag_byte x ≡ true → plain x ≡ true
tag_byte_plain x e = go (plain x) refl
  where
    go : (t : Bool) → plain x ≡ t → plain x ≡ true
    go true p = p
    go false p =
        let small = leb-false 33 x p in
        absurd (true≢false (sym e ∙ rw (ne_eqb x 33 (omega arith), lt-leb 35 x (omega arith), lt-leb 128 x (omega arith))))

-- the bytes of a tag behind its first quote
tag_end-plain : (l : List ℕ) → tag_end l ≡ true → all plain l ≡ true
tag_end-plain [] e = absurd (true≢false (sym e))
tag_end-plain (x ∷ l) e = go (eqb x 34) refl (tag_end-plain l)
  where
    alone : (m : List ℕ) → is_nil m ≡ true → all plain m ≡ true
    alone [] e = refl
    alone (y ∷ m) e = absurd (true≢false (sym e))

    go : (t : Bool) → eqb x 34 ≡ t → (tag_end l ≡ true → all plain l ≡ true) → all plain (x ∷ l) ≡ true
    go true q h = and_both (plain x) (all plain l) (rw (eqb-true x 34 q)) (alone l (rw q at e))
    go false q h = let d : (is_tag_byte x && tag_end l) ≡ true = rw q at e in
        and_both (plain x) (all plain l) (tag_byte_plain x (and_left (is_tag_byte x) (tag_end l) d)) (h (and_right (is_tag_byte x) (tag_end l) d))

-- the bytes of a strong tag
pub strong_plain : (tag : List ℕ) → is_strong tag ≡ true → all plain tag ≡ true
strong_plain [] e = absurd (true≢false (sym e))
strong_plain (x ∷ l) e = and_both (plain x) (all plain l) (rw (eqb-true x 34 (and_left (eqb x 34) (tag_end l) e)))
    (tag_end-plain l (and_right (eqb x 34) (tag_end l) e))

-- a text is the same as itself
pub same_itself : (l : List ℕ) → same l l ≡ true
same_itself [] = refl
same_itself (x ∷ l) = and_both (eqb x x) (same l l) (eq-eqb x x refl) (same_itself l)
