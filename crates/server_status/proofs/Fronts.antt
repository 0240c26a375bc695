-- What std's tests of slices say in the documents' words.
use Rattle.std.proofs.Common.{◌≡◌, ℕ, ◌-◌, ◌≤◌, suc, Bool, not, ◌&&◌, ◌||◌, false, true, List, [], ◌∷◌, ◌++◌, length, take, drop, get_or, eqb, refl, sym, arith}
use borrow.Author.Tests.{eq-eqb, ne_eqb, eqb-true, eqb-false, le-ltb}
use Rattle.std.specs.Cmp.Lexicographic.{pointwise}
use Rattle.std.specs.List.{list_all, starts_with as begins, ends_with as ends}
use Rattle.rules_server.specs.Limits.{max_type}
use Rattle.rules_server.specs.Octets.{all, is_nil, same, starts_with, is_type_byte}
use Rattle.rules_server.specs.Tags.{bad_type, is_multipart_type}

-- the same bytes
pub same_bytes : (a b : List ℕ) → pointwise eqb a b ≡ same a b
same_bytes [] [] = refl
same_bytes [] (y ∷ b) = refl
same_bytes (x ∷ a) [] = refl
same_bytes (x ∷ a) (y ∷ b) = rw (same_bytes a b)

-- a test of all bytes
pub all_passes : (p : ℕ → Bool) (l : List ℕ) → list_all p l ≡ all p l
all_passes p [] = refl
all_passes p (x ∷ l) = rw (all_passes p l)

-- nothing, by its length
pub nil_length : (l : List ℕ) → is_nil l ≡ eqb (length l) 0
nil_length [] = refl
nil_length (x ∷ l) = sym (ne_eqb (suc (length l)) 0 (λ e. omega arith))

-- a test for the same number in either order
eqb_turned : (a b : ℕ) → eqb a b ≡ eqb b a
eqb_turned a b = go (eqb b a) refl
  where
    go : (t : Bool) → eqb b a ≡ t → eqb a b ≡ t
    go true e = eq-eqb a b (sym (eqb-true b a e))
    go false e = ne_eqb a b (λ f. eqb-false b a e (sym f))

-- a front, by what stands there
front_is : (q l : List ℕ) → pointwise eqb (take (length q) l) q ≡ starts_with q l
front_is [] [] = refl
front_is [] (y ∷ l) = refl
front_is (x ∷ q) [] = refl
front_is (x ∷ q) (y ∷ l) = rw (front_is q l, eqb_turned y x)

-- a front of two parts
two_fronts : (q p l : List ℕ) → starts_with (q ++ p) l ≡ (starts_with q l && starts_with p (drop (length q) l))
two_fronts [] p [] = refl
two_fronts [] p (y ∷ l) = refl
two_fronts (x ∷ q) p [] = refl
two_fronts (x ∷ q) p (y ∷ l) = rw (two_fronts q p l) (grind (arith))

-- another front than the first part
pub other_front : (q p l : List ℕ) → pointwise eqb (take (length q) l) q ≡ false → starts_with (q ++ p) l ≡ false
other_front q p l e = rw (two_fronts q p l, ← front_is q l, e)

-- behind the first part the second decides
pub behind_front : (q p l rest : List ℕ) → pointwise eqb (take (length q) l) q ≡ true → rest ≡ drop (length q) l → starts_with p rest ≡ starts_with (q ++ p) l
behind_front q p l rest e f = rw (two_fronts q p l, ← front_is q l, e, f)

-- the first byte
first_is : (l : List ℕ) → begins eqb l (32 ∷ []) ≡ eqb (get_or l 0 0) 32
first_is [] = refl
first_is (x ∷ l) = rw (eqb_turned x 32) (grind (arith))

-- the last byte
last_is : (l : List ℕ) → ends eqb l (32 ∷ []) ≡ eqb (get_or l (length l - 1) 0) 32
last_is [] = refl
last_is (x ∷ []) = rw (eqb_turned x 32) (grind (arith))
last_is (x ∷ y ∷ l) =
    let e : length (x ∷ y ∷ l) - 1 ≡ suc (length l) = omega arith in
    let f : length (y ∷ l) - 1 ≡ length l = omega arith in
    let g = rw f at (last_is (y ∷ l)) in
    rw e g

-- where none of three tests holds the fourth is left
pub last_left : (a b d m : Bool) → ((a || b) || d) ≡ false → m ≡ (a || b || d || m)
last_left false false false m e = refl
last_left false false true m e = cc
last_left false true d m e = cc
last_left true b d m e = cc

-- of a type that is not too long the bytes, the two ends and the name are left to test
pub bad_type_rest : (t : List ℕ) (a b d : Bool) → length t ≤ max_type → a ≡ list_all is_type_byte t → b ≡ begins eqb t (32 ∷ []) → d ≡ ends eqb t (32 ∷ [])
    → (not a || b || d || is_multipart_type t) ≡ bad_type t
unfolding bad_type
bad_type_rest t a b d h e f g = rw (le-ltb max_type (length t) h, e, f, g, all_passes is_type_byte t, first_is t, last_is t)
