-- Which texts have more zeros, at least: zeros put byte by byte are zeros put before numbers.
use Prim.Native.Nat.{ℕ, suc}
use mathlib.Core.Path.{◌≡◌, refl, sym, ◌∙◌, ap}
use mathlib.Core.Bool.{Bool, true, false}
use mathlib.Core.List.{List, [], ◌∷◌, ◌++◌}
use lib.ListN.{get_or}
use borrow.Author.Tests.{not-true}
use Rattle.rules_server.specs.Octets.{is_digit, all, digit_zero}
use Rattle.rules_demands.specs.LeadingZeros.{zeros, last, MoreZeros, same, number, MoreZerosLaws}
use Rattle.laws_server.proofs.grammar.Bytes.{and_left, and_both, nil_cons}
use Rattle.laws_server.proofs.zeros.Texts.{plain, Put, end, keep, put, both_ways, all_kept, zeros_put, same_first}
use Rattle.laws_server.proofs.zeros.Texts.{same_rest, by_bytes, ends}

-- a byte that is no digit before both texts
plain_first : (x : ℕ) {l m : List ℕ} → is_digit x ≡ false → MoreZeros l m → MoreZeros (x ∷ l) (x ∷ m)
plain_first x e (same d r) = same (and_both (plain x) _ (rw e) d) (ap (λ (k : List ℕ). x ∷ k) r)
plain_first x e (number t n rest padded k d g f p q r) =
    number (x ∷ t) n rest padded k (and_both (plain x) (all plain t) (rw e) d) g f p (ap (λ (k : List ℕ). x ∷ k) q) (ap (λ (k : List ℕ). x ∷ k) r)

-- a zero more before a number that the first text begins with
zero_first : {x : ℕ} {l v m : List ℕ} → is_digit x ≡ true → v ≡ x ∷ l → MoreZeros v m → MoreZeros v (digit_zero ∷ m)
zero_first {x} {l} h e (same d r) = absurd (both_ways h (not-true (is_digit x) (and_left (plain x) (all plain l) (rw e at d))))
zero_first h e (number [] n rest padded k d g f p q r) = number [] n rest padded (suc k) refl g f p q (ap (λ (l : List ℕ). digit_zero ∷ l) r)
zero_first {x} {l} h e (number (y ∷ t) n rest padded k d g f p q r) =
    let z : y ≡ x = same_first (sym e ∙ q) in
    absurd (both_ways h (rw z at (not-true (is_digit y) (and_left (plain y) (all plain t) d))))

-- digits that both texts begin with, and texts behind them that begin with none
record Inside (v w : List ℕ) : Type 0 where
  pub digits : List ℕ
  pub rest : List ℕ
  pub padded : List ℕ
  pub all_digits : all is_digit digits ≡ true
  pub stops : is_digit (get_or rest 0 0) ≡ false
  pub more : MoreZeros rest padded
  pub first : v ≡ digits ++ rest
  pub second : w ≡ digits ++ padded

-- zeros put byte by byte, where c says that a digit stands before
record Pieces (c : Bool) (v w : List ℕ) : Type 0 where
  pub more : MoreZeros v w
  pub inside : c ≡ true → Inside v w

-- one digit more
digit_inside : (x : ℕ) {l m : List ℕ} → is_digit x ≡ true → Inside l m → Inside (x ∷ l) (x ∷ m)
digit_inside x e i =
    record {
      digits = x ∷ i.digits;
      rest = i.rest;
      padded = i.padded;
      all_digits = and_both (is_digit x) (all is_digit i.digits) e i.all_digits;
      stops = i.stops;
      more = i.more;
      first = ap (λ (k : List ℕ). x ∷ k) i.first;
      second = ap (λ (k : List ℕ). x ∷ k) i.second;
    }

-- a digit and what stands inside its number are a number
digit_more : (x : ℕ) {l m : List ℕ} → is_digit x ≡ true → Inside l m → MoreZeros (x ∷ l) (x ∷ m)
digit_more x e i =
    number [] (x ∷ i.digits) i.rest i.padded 0 refl
    (record { some = refl; digits = and_both (is_digit x) (all is_digit i.digits) e i.all_digits }) i.stops i.more
    (ap (λ (k : List ℕ). x ∷ k) i.first) (ap (λ (k : List ℕ). x ∷ k) i.second)

-- texts that begin with no digit
none_inside : {v w : List ℕ} → is_digit (get_or v 0 0) ≡ false → MoreZeros v w → Inside v w
none_inside {v} {w} e m = record { digits = []; rest = v; padded = w; all_digits = refl; stops = e; more = m; first = refl; second = refl }

-- a byte that is kept
kept_pieces : {c : Bool} (x : ℕ) {l m : List ℕ} → Pieces (is_digit x) l m → Pieces c (x ∷ l) (x ∷ m)
kept_pieces {c} x {l} {m} b = go (is_digit x) refl
  where
    go : (t : Bool) → is_digit x ≡ t → Pieces c (x ∷ l) (x ∷ m)
    go true e = record { more = digit_more x e (b.inside e); inside = λ h. digit_inside x e (b.inside e) }
    go false e = let m = plain_first x e b.more in record { more = m; inside = λ h. none_inside e m }

pieces : {c : Bool} {v w : List ℕ} → Put c v w → Pieces c v w
pieces (end q r) = rw (q, r) (record { more = same refl refl; inside = λ h. none_inside refl (same refl refl) })
pieces (keep x l m p q r) = let b = kept_pieces x (pieces p) in rw (q, r) b
pieces (put x l m f d p q r) =
    let b = zero_first d refl (pieces p).more in
    rw (q, r) (record { more = b; inside = λ h. absurd (both_ways h f) })

-- zeros put behind a text that is kept
behind_kept : {c : Bool} (a v w : List ℕ) → Put (ends c a) v w → Put c (a ++ v) (a ++ w)
behind_kept [] v w p = p
behind_kept {c = c} (x ∷ a) v w p = keep x (a ++ v) (a ++ w) (behind_kept {c = is_digit x} a v w p) refl refl

-- the byte before what stands behind a text is its last
ends-last : (x : ℕ) (a : List ℕ) → ends (is_digit x) a ≡ is_digit (last (x ∷ a))
ends-last x [] = refl
ends-last x (y ∷ a) = ends-last y a

-- of a text that ends with no digit
ends-plain : (a : List ℕ) → is_digit (last a) ≡ false → ends false a ≡ false
ends-plain [] e = refl
ends-plain (x ∷ a) e = ends-last x a ∙ e

-- zeros before a digit
zeros-before : (k : ℕ) (l : List ℕ) → is_digit (get_or l 0 0) ≡ true → Put false l (zeros k ++ l)
zeros-before k [] e = absurd (both_ways e refl)
zeros-before k (x ∷ l) e = zeros_put k x l (x ∷ l) e (all_kept false (x ∷ l))

-- a text that has zeros put into it and begins with a digit began with one
record Begun (u : List ℕ) : Type 0 where
  pub digit : ℕ
  pub rest : List ℕ
  pub is : is_digit digit ≡ true
  pub text : u ≡ digit ∷ rest

begun : {c : Bool} {u v : List ℕ} (y : ℕ) (l : List ℕ) → Put c u v → v ≡ y ∷ l → is_digit y ≡ true → Begun u
begun y l (end q r) e d = absurd (nil_cons y l (sym r ∙ e))
begun y l (keep x k m p q r) e d = record { digit = x; rest = k; is = rw (same_first (sym e ∙ r)) d; text = q }
begun y l (put x k m f t p q r) e d = record { digit = x; rest = k; is = t; text = q }

-- a zero before a text that begins with a digit
zero_put : {c : Bool} {u m : List ℕ} → c ≡ false → Begun u → Put c u m → Put c u (digit_zero ∷ m)
zero_put {c} {u} {m} f b p = put b.digit b.rest m f b.is (rw (sym f, sym b.text) p) b.text refl

-- zeros put twice; of the second time the byte before may count as a digit where it is none
put_twice : {c d : Bool} {u v w : List ℕ} → Put c v w → Put d u v → (c ≡ false → d ≡ false) → Put d u w
put_twice (end q r) s h = rw (r ∙ sym q) s
put_twice (keep y l m p q r) (end e f) h = absurd (nil_cons y l (sym f ∙ q))
put_twice (keep y l m p q r) (keep x k n s e f) h =
    let z : y ≡ x = same_first (sym f ∙ q) in
    let t : n ≡ l = same_rest (sym f ∙ q) in
    keep x k m (put_twice p (rw (sym t) s) (λ g. rw (sym z) g)) e (r ∙ ap (λ (i : ℕ). i ∷ m) z)
put_twice (keep y l m p q r) (put x k n c d s e f) h =
    let z : y ≡ digit_zero = same_first (sym f ∙ q) in
    let t : n ≡ l = same_rest (sym f ∙ q) in
    put x k m c d (put_twice p (rw (sym t) s) (λ g. refl)) e (r ∙ ap (λ (i : ℕ). i ∷ m) z)
put_twice {d = d} {u} (put y l m c t p q r) s h =
    rw r (zero_put (h c) (begun y l s q t) (put_twice p (rw (sym q) s) (λ g. h c)))

pub more_zeros_laws : MoreZerosLaws
more_zeros_laws = record {
  none = λ v. (pieces (all_kept false v)).more;
  one = λ a l k e d. (pieces {c = false} (behind_kept a l (zeros k ++ l) (rw (ends-plain a e) (zeros-before k l d)))).more;
  twice = λ u v w a b. (pieces {c = false} (put_twice (by_bytes b) (by_bytes a) (λ e. e))).more;
}
