-- Zeros put before numbers, byte by byte.
use Prim.Native.Nat.{ℕ, zero, suc, ◌≤◌}
use mathlib.Core.Path.{◌≡◌, refl, sym, ◌∙◌, ap}
use mathlib.Core.Bool.{Bool, true, false, not, true≢false}
use mathlib.Core.List.{List, [], ◌∷◌, ◌++◌}
use native.Mathlib.Omega.{arith}
use lib.ListN.{length, get_or}
use borrow.Author.Tests.{not-true}
use Rattle.rules_server.specs.Octets.{is_blank, is_digit, all, trim, trim_start, trim_end, before_end, digit_zero}
use Rattle.rules_server.specs.Numerals.{decimal}
use Rattle.rules_demands.specs.GrammarRange.{Digits}
use Rattle.rules_demands.specs.LeadingZeros.{zeros, MoreZeros, same, number}
use Rattle.laws_server.proofs.grammar.Bytes.{and_left, and_right, nil_cons}
use Rattle.laws_server.proofs.grammar.Specs.{digit_solid}

-- w is v with zeros put before some of its numbers, where c says that a digit stands before v: each byte is kept, and a zero may come before a digit with no
-- digit before it
pub data Put : Bool → List ℕ → List ℕ → Type 0 where
  end : {c : Bool} {v w : List ℕ} → v ≡ [] → w ≡ [] → Put c v w
  keep : {c : Bool} {v w : List ℕ} (x : ℕ) (l m : List ℕ) → Put (is_digit x) l m → v ≡ x ∷ l → w ≡ x ∷ m → Put c v w
  put : {c : Bool} {v w : List ℕ} (x : ℕ) (l m : List ℕ) → c ≡ false → is_digit x ≡ true → Put false (x ∷ l) m → v ≡ x ∷ l → w ≡ digit_zero ∷ m → Put c v w

-- a test that passes and fails
pub both_ways : {b : Bool} → b ≡ true → b ≡ false → ⊥
both_ways e f = true≢false (sym e ∙ f)

-- no digit
abbrev pub plain : ℕ → Bool
plain b = not (is_digit b)

-- a digit is no blank
digit_no_blank : (x : ℕ) → is_digit x ≡ true → is_blank x ≡ false
digit_no_blank x e = not-true (is_blank x) (digit_solid x e)

-- a blank is no digit
pub blank-plain : (x : ℕ) → is_blank x ≡ true → is_digit x ≡ false
blank-plain x e = go (is_digit x) refl
  where
    go : (b : Bool) → is_digit x ≡ b → is_digit x ≡ false
    go true d = absurd (both_ways e (digit_no_blank x d))
    go false d = d

-- no zeros
pub all_kept : (c : Bool) (v : List ℕ) → Put c v v
all_kept c [] = end refl refl
all_kept c (x ∷ v) = keep x v v (all_kept (is_digit x) v) refl refl

-- what may stand behind a digit may stand anywhere
pub anywhere : {c d : Bool} {v w : List ℕ} → Put c v w → c ≡ true → Put d v w
anywhere (end q r) e = end q r
anywhere (keep x l m p q r) e = keep x l m p q r
anywhere (put x l m f d p q r) e = absurd (both_ways e f)

-- a text that begins with no digit has no zeros before its first byte
first_kept : {c d : Bool} {v w : List ℕ} → Put c v w → is_digit (get_or v 0 0) ≡ false → Put d v w
first_kept (end q r) e = end q r
first_kept (keep x l m p q r) e = keep x l m p q r
first_kept (put x l m f d p q r) e = absurd (both_ways d (rw q at e))

-- digits that are kept
digits_kept : {c : Bool} (n v w : List ℕ) → all is_digit n ≡ true → Put true v w → Put c (n ++ v) (n ++ w)
digits_kept [] v w e p = anywhere p refl
digits_kept {c = c} (x ∷ n) v w e p = keep x (n ++ v) (n ++ w) (digits_kept {c = is_digit x} n v w (and_right (is_digit x) (all is_digit n) e) p) refl refl

-- zeros before a number
pub zeros_put : (k x : ℕ) (l m : List ℕ) → is_digit x ≡ true → Put false (x ∷ l) m → Put false (x ∷ l) (zeros k ++ m)
zeros_put zero x l m d p = p
zeros_put (suc k) x l m d p = put x l (zeros k ++ m) refl d (zeros_put k x l m d p) refl refl

-- bytes without a digit that are kept
plain_kept : (t v w : List ℕ) → all plain t ≡ true → Put false v w → Put false (t ++ v) (t ++ w)
plain_kept [] v w e p = p
plain_kept (x ∷ t) v w e p =
    let h : is_digit x ≡ false = not-true (is_digit x) (and_left (plain x) (all plain t) e) in
    keep x (t ++ v) (t ++ w) (rw h (plain_kept t v w (and_right (plain x) (all plain t) e) p)) refl refl

-- a number with zeros put before it, and what stands behind it
number_put : (n v w : List ℕ) (k : ℕ) → Digits n → Put true v w → Put false (n ++ v) (zeros k ++ (n ++ w))
number_put [] v w k d p = absurd (true≢false d.some)
number_put (x ∷ n) v w k d p = zeros_put k x (n ++ v) ((x ∷ n) ++ w) (and_left (is_digit x) (all is_digit n) d.digits) (digits_kept (x ∷ n) v w d.digits p)

-- the relation of the statement, byte by byte
pub by_bytes : {v w : List ℕ} → MoreZeros v w → Put false v w
by_bytes {v} (same d r) = rw r (all_kept false v)
by_bytes (number t n rest padded k e d f p q r) =
    rw (q, r) (plain_kept t (n ++ rest) (zeros k ++ (n ++ padded)) e (number_put n rest padded k d (first_kept (by_bytes p) f)))

-- the byte before what stands behind a is a digit, where c says it of a itself
abbrev pub ends : Bool → List ℕ → Bool
ends c [] = c
ends c (x ∷ a) = ends (is_digit x) a

-- zeros put into a text and into the text behind it
pub record Split (c : Bool) (a b w : List ℕ) : Type 0 where
  pub left : List ℕ
  pub right : List ℕ
  pub text : w ≡ left ++ right
  pub first : Put c a left
  pub second : Put (ends c a) b right

-- a byte that is kept
split_kept : {c : Bool} {w : List ℕ} (x y : ℕ) (a b m : List ℕ) → x ≡ y → w ≡ y ∷ m → Split (is_digit y) a b m → Split c (x ∷ a) b w
split_kept x y a b m z r s =
    record {
      left = x ∷ s.left;
      right = s.right;
      text = r ∙ rw (z, s.text);
      first = keep x a s.left (rw z s.first) refl refl;
      second = rw z s.second;
    }

-- a zero before a digit
split_put : {c : Bool} {w : List ℕ} (x : ℕ) (a b m : List ℕ) → c ≡ false → is_digit x ≡ true → w ≡ digit_zero ∷ m → Split false (x ∷ a) b m → Split c (x ∷ a) b w
split_put x a b m f d r s =
    record {
      left = digit_zero ∷ s.left;
      right = s.right;
      text = r ∙ ap (λ (k : List ℕ). digit_zero ∷ k) s.text;
      first = put x a s.left f d s.first refl refl;
      second = s.second;
    }

-- the first bytes of two texts that are the same
pub same_first : {x y : ℕ} {l m : List ℕ} → y ∷ l ≡ x ∷ m → x ≡ y
same_first h = cc

-- what stands behind them
pub same_rest : {x y : ℕ} {l m : List ℕ} → y ∷ l ≡ x ∷ m → l ≡ m
same_rest h = cc

pub split : {c : Bool} {v w : List ℕ} → Put c v w → (a b : List ℕ) → v ≡ a ++ b → Split c a b w
split {c} {v} {w} p [] b e = record { left = []; right = w; text = refl; first = end refl refl; second = rw (sym e) p }
split (end q r) (x ∷ a) b e = absurd (nil_cons x (a ++ b) (sym q ∙ e))
split (keep {c = c} {v = v} {w = w} y l m p q r) (x ∷ a) b e = split_kept x y a b m (same_first (sym q ∙ e)) r (split {c = is_digit y} p a b (same_rest (sym q ∙ e)))
split (put y l m f d p q r) (x ∷ a) b e = split_put x a b m f (rw (same_first (sym q ∙ e)) d) r (split p (x ∷ a) b (sym q ∙ e))

-- a text without a digit is kept
pub plain-same : {c : Bool} {v w : List ℕ} → Put c v w → all plain v ≡ true → w ≡ v
plain-same (end q r) e = r ∙ sym q
plain-same (keep x l m p q r) e =
    let h : all plain (x ∷ l) ≡ true = rw q at e in
    r ∙ ap (λ (k : List ℕ). x ∷ k) (plain-same p (and_right (plain x) (all plain l) h)) ∙ sym q
plain-same (put x l m f d p q r) e =
    let h : all plain (x ∷ l) ≡ true = rw q at e in
    absurd (both_ways d (not-true (is_digit x) (and_left (plain x) (all plain l) h)))

-- digits behind a digit are kept
digits-same : {c : Bool} {v w : List ℕ} → Put c v w → c ≡ true → all is_digit v ≡ true → w ≡ v
digits-same (end q r) t e = r ∙ sym q
digits-same (keep x l m p q r) t e =
    let h : all is_digit (x ∷ l) ≡ true = rw q at e in
    r ∙ ap (λ (k : List ℕ). x ∷ k) (digits-same p (and_left (is_digit x) (all is_digit l) h) (and_right (is_digit x) (all is_digit l) h)) ∙ sym q
digits-same (put x l m f d p q r) t e = absurd (both_ways t f)

-- a numeral of the same value
pub record SameValue (n m : List ℕ) : Type 0 where
  pub digits : Digits m
  pub value : decimal m ≡ decimal n

-- a number stays a number of the same value
pub number-same : {c : Bool} {v w : List ℕ} → Put c v w → Digits v → SameValue v w
number-same (end q r) d = absurd (true≢false (rw q at d.some))
number-same {c} {v} {w} (keep x l m p q r) d =
    let h : all is_digit (x ∷ l) ≡ true = rw q at d.digits in
    let e : w ≡ v = r ∙ ap (λ (k : List ℕ). x ∷ k) (digits-same p (and_left (is_digit x) (all is_digit l) h) (and_right (is_digit x) (all is_digit l) h)) ∙ sym q in
    rw e (record { digits = d; value = refl })
number-same (put x l m f t p q r) d =
    let s = number-same p (rw q at d) in
    rw (q, r) (record { digits = record { some = refl; digits = s.digits.digits }; value = s.value })

-- the first text is not the longer one
pub no_shorter : {c : Bool} {v w : List ℕ} → Put c v w → length v ≤ length w
no_shorter (end q r) = rw (q, r) (omega arith)
no_shorter (keep x l m p q r) = let h = no_shorter p in rw (q, r) (omega arith)
no_shorter (put x l m f d p q r) = let h = no_shorter p in rw (q, r) (omega arith)

-- without the blanks in front
start_put : {c : Bool} {v w : List ℕ} → Put c v w → c ≡ false → Put false (trim_start v) (trim_start w)
start_put (end q r) e = rw (q, r) (end refl refl)
start_put (keep x l m p q r) e = rw (q, r) (go (is_blank x) refl (start_put p))
  where
    go : (b : Bool) → is_blank x ≡ b → (is_digit x ≡ false → Put false (trim_start l) (trim_start m)) → Put false (trim_start (x ∷ l)) (trim_start (x ∷ m))
    go true t h = rw t (h (blank-plain x t))
    go false t h = rw t (keep x l m p refl refl)
start_put (put x l m f d p q r) e = rw (q, r, digit_no_blank x d) (put x l m refl d p refl refl)

-- a byte that is no blank stays before what is left of the rest
solid_end : (x : ℕ) (l : List ℕ) → is_blank x ≡ false → before_end x l ≡ x ∷ l
solid_end x [] e = rw e
solid_end x (y ∷ l) e = refl

-- nothing has no zeros
nothing_put : {c : Bool} {v w : List ℕ} → Put c v w → v ≡ [] → w ≡ []
nothing_put (end q r) e = r
nothing_put (keep x l m p q r) e = absurd (nil_cons x l (sym e ∙ q))
nothing_put (put x l m f d p q r) e = absurd (nil_cons x l (sym e ∙ q))

-- one byte and what is left of the rest
one_end : {c : Bool} (x : ℕ) (l m : List ℕ) → Put (is_digit x) l m → Put c (before_end x l) (before_end x m)
one_end {c} x [] m p = rw (nothing_put p refl) (all_kept c (before_end x []))
one_end x (y ∷ l) [] p = absurd (let h = no_shorter p in omega arith)
one_end x (y ∷ l) (z ∷ m) p = keep x (y ∷ l) (z ∷ m) p refl refl

-- without the blanks at the end
end_put : {c : Bool} {v w : List ℕ} → Put c v w → Put c (trim_end v) (trim_end w)
end_put (end q r) = rw (q, r) (end refl refl)
end_put (keep x l m p q r) = rw (q, r) (one_end x (trim_end l) (trim_end m) (end_put p))
end_put (put x l m f d p q r) =
    let s = solid_end x (trim_end l) (digit_no_blank x d) in
    rw (q, r, solid_end digit_zero (trim_end m) refl, s) (put x (trim_end l) (trim_end m) f d (rw s at (end_put p)) refl refl)

-- without the blanks at both ends
pub trim_put : {v w : List ℕ} → Put false v w → Put false (trim v) (trim w)
trim_put p = end_put (start_put p refl)
