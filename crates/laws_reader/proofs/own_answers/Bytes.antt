-- Bytes of tags, types, boundaries and numerals are line bytes, and which of them are blanks; values that trimming leaves as they are.
use Prim.Native.Nat.{ℕ, zero, suc, ◌≤◌, ◌<◌}
use mathlib.Core.Path.{◌≡◌, refl, sym}
use mathlib.Core.Bool.{Bool, true, false, cond, ◌&&◌, ◌||◌, true≢false, or-true}
use mathlib.Core.List.{List, [], ◌∷◌, ◌++◌}
use native.Mathlib.Omega.{arith}
use lib.Dec.{leb, eqb}
use lib.ListN.{length, get_or}
use borrow.Author.Tests.{le-leb, leb-true, eq-eqb, ne_eqb, eqb-true}
use Rattle.rules_server.specs.Octets.{within, is_blank, is_digit, is_letter, is_tag_byte, is_type_byte, is_boundary_byte, is_nil, all, same, trim, trim_end, before_end}
use Rattle.rules_server.specs.Tags.{tag_end, is_strong}
use Rattle.laws_server.proofs.grammar.Bytes.{and_left, and_right, and_both, all_weaker}
use Rattle.laws_server.proofs.grammar.Blanks.{solid, trim_solid}
use Rattle.rules_tablet.specs.Lines.{is_line_byte}

-- by cases on which of two tests passes
either : {A : Type 0} (a b : Bool) → (a || b) ≡ true → (a ≡ true → A) → (b ≡ true → A) → A
either true b e f g = f refl
either false b e f g = g e

-- the two orders of a range of bytes
within_true : (lo hi b : ℕ) → within lo hi b ≡ true → (lo ≤ b) × (b ≤ hi)
within_true lo hi b e = (leb-true lo b (and_left (leb lo b) (leb b hi) e), leb-true b hi (and_right (leb lo b) (leb b hi) e))

-- 0x20 to 0x7E are line bytes
pub visible_line : (b : ℕ) → 0x20 ≤ b → b ≤ 0x7E → is_line_byte b ≡ true
visible_line b h k = rw (le-leb 0x20 b h, le-leb b 0x7E k, ne_eqb b 9 (λ e. omega arith))

-- a line byte that is no blank
abbrev pub is_text : ℕ → Bool
is_text b = is_line_byte b && solid b

-- 0x21 to 0x7E are such bytes
text_visible : (b : ℕ) → 0x21 ≤ b → b ≤ 0x7E → is_text b ≡ true
text_visible b h k =
    and_both (is_line_byte b) (solid b) (visible_line b (omega arith) k) (rw (ne_eqb b 32 (λ e. omega arith), ne_eqb b 9 (λ e. omega arith)))

-- and 0x80 up
text_high : (b : ℕ) → 0x80 ≤ b → is_text b ≡ true
text_high b h =
    and_both (is_line_byte b) (solid b) (rw (le-leb 0x80 b h) (or-true (eqb b 9 || within 0x20 0x7E b)))
    (rw (ne_eqb b 32 (λ e. omega arith), ne_eqb b 9 (λ e. omega arith)))

-- a byte of a visible range
text_within : (lo hi b : ℕ) → 0x21 ≤ lo → hi ≤ 0x7E → within lo hi b ≡ true → is_text b ≡ true
text_within lo hi b f g e = let h = within_true lo hi b e in let k = h.0 in let m = h.1 in text_visible b (omega arith) (omega arith)

-- one visible byte
text_one : (x b : ℕ) → 0x21 ≤ x → x ≤ 0x7E → eqb b x ≡ true → is_text b ≡ true
text_one x b f g e = let h = eqb-true b x e in text_visible b (omega arith) (omega arith)

-- bytes of numerals are such bytes
pub digit_text : (b : ℕ) → is_digit b ≡ true → is_text b ≡ true
digit_text b e = text_within 48 57 b (omega arith) (omega arith) e

-- bytes of tags
pub tag_text : (b : ℕ) → is_tag_byte b ≡ true → is_text b ≡ true
tag_text b e =
    either (eqb b 0x21 || within 0x23 0x7E b) (within 0x80 0xFF b) e
    (λ f. either (eqb b 0x21) (within 0x23 0x7E b) f (text_one 0x21 b (omega arith) (omega arith)) (text_within 0x23 0x7E b (omega arith) (omega arith)))
    (λ f. text_high b (within_true 0x80 0xFF b f).0)

-- bytes of boundaries
pub boundary_text : (b : ℕ) → is_boundary_byte b ≡ true → is_text b ≡ true
boundary_text b e =
    either (is_letter b || is_digit b || eqb b 45) (eqb b 95) e
    (λ f. either (is_letter b || is_digit b) (eqb b 45) f
    (λ g. either (is_letter b) (is_digit b) g
    (λ i. either (within 65 90 b) (within 97 122 b) i (text_within 65 90 b (omega arith) (omega arith)) (text_within 97 122 b (omega arith) (omega arith)))
    (digit_text b))
    (text_one 45 b (omega arith) (omega arith)))
    (text_one 95 b (omega arith) (omega arith))

-- bytes of a type are line bytes
pub type_line : (b : ℕ) → is_type_byte b ≡ true → is_line_byte b ≡ true
type_line b e = let h = within_true 0x20 0x7E b e in visible_line b h.0 h.1

-- text is line bytes
pub text_lines : (l : List ℕ) → all is_text l ≡ true → all is_line_byte l ≡ true
text_lines l e = all_weaker is_text is_line_byte (λ b h. and_left (is_line_byte b) (solid b) h) l e

-- text has no blanks
pub text_solid : (l : List ℕ) → all is_text l ≡ true → all solid l ≡ true
text_solid l e = all_weaker is_text solid (λ b h. and_right (is_line_byte b) (solid b) h) l e

-- text is not trimmed
pub text_trim : (l : List ℕ) → all is_text l ≡ true → trim l ≡ l
text_trim l e = trim_solid l (text_solid l e)

-- what stands behind a tag's first quote is text
tag_end_text : (l : List ℕ) → tag_end l ≡ true → all is_text l ≡ true
tag_end_text [] e = refl
tag_end_text (x ∷ l) e = go (eqb x 34) refl e (tag_end_text l)
  where
    last : (l : List ℕ) → is_nil l ≡ true → all is_text l ≡ true
    last [] h = refl
    last (y ∷ l) h = absurd (true≢false (sym h))

    go : (b : Bool) → eqb x 34 ≡ b → cond b (is_nil l) (is_tag_byte x && tag_end l) ≡ true → (tag_end l ≡ true → all is_text l ≡ true) → all is_text (x ∷ l) ≡ true
    go true t h rest = and_both (is_text x) (all is_text l) (text_one 34 x (omega arith) (omega arith) t) (last l h)
    go false t h rest = and_both (is_text x) (all is_text l) (tag_text x (and_left (is_tag_byte x) (tag_end l) h)) (rest (and_right (is_tag_byte x) (tag_end l) h))

-- a strong tag is text
pub strong_text : (t : List ℕ) → is_strong t ≡ true → all is_text t ≡ true
strong_text [] e = refl
strong_text (x ∷ l) e =
    and_both (is_text x) (all is_text l) (text_one 34 x (omega arith) (omega arith) (and_left (eqb x 34) (tag_end l) e))
    (tag_end_text l (and_right (eqb x 34) (tag_end l) e))

-- what stands before a text that is not empty is not empty
pub some-append : (a l : List ℕ) → is_nil l ≡ false → is_nil (a ++ l) ≡ false
some-append [] l e = e
some-append (x ∷ a) l e = refl

-- a text before one that ends in no blank
pub end_append : (a l : List ℕ) → is_nil l ≡ false → trim_end l ≡ l → trim_end (a ++ l) ≡ a ++ l
end_append [] l e h = h
end_append (x ∷ a) l e h = rw (end_append a l e h) (go (a ++ l) (some-append a l e))
  where
    go : (m : List ℕ) → is_nil m ≡ false → before_end x m ≡ x ∷ m
    go [] f = absurd (true≢false f)
    go (y ∷ m) f = refl

-- a text whose last byte is no blank
pub end_last : (x : ℕ) (l : List ℕ) → is_blank (get_or (x ∷ l) (length l) 0) ≡ false → trim_end (x ∷ l) ≡ x ∷ l
end_last x [] e = rw e
end_last x (y ∷ l) e = rw (end_last y l e)

-- what all bytes pass, the byte at an index passes
pub all-at : (p : ℕ → Bool) (l : List ℕ) (i : ℕ) → all p l ≡ true → i < length l → p (get_or l i 0) ≡ true
all-at p [] i e h = absurd (omega arith)
all-at p (x ∷ l) zero e h = and_left (p x) (all p l) e
all-at p (x ∷ l) (suc i) e h = all-at p l i (and_right (p x) (all p l) e) (omega arith)

-- a text is the same as itself
pub same_self : (l : List ℕ) → same l l ≡ true
same_self [] = refl
same_self (x ∷ l) = and_both (eqb x x) (same l l) (eq-eqb x x refl) (same_self l)
