-- Laws for loops over byte strings by index, and for the ends that such loops give.
use Prim.Native.Nat.{ℕ, zero, suc, ◌+◌, ◌-◌, ◌≤◌, ◌<◌}
use native.Mathlib.Numerals.{add-one}
use native.Mathlib.Omega.{arith}
use mathlib.Core.Bool.{false, and-false}
use mathlib.Core.List.{List, [], ◌∷◌, ◌++◌, map}
use mathlib.Core.Path.{◌≡◌, refl, ap}
use lib.Dec.{eqb, eqb-zero-suc, eqb-suc-suc}
use lib.ListN.{length, take, drop, get_or, length-map, length-drop, drop_of_length-le}
use lib.Seq.{drop-cons, take_all, take-suc}
use Rattle.rules_server.specs.Octets.{lower, is_nil, same, same_fold, starts_with}

-- the rest from i on is the byte at i and the rest from i + 1 on
pub drop-next : (l : List ℕ) (i : ℕ) → i < length l → drop i l ≡ get_or l i 0 ∷ drop (i + 1) l
drop-next l i h = rw (add-one, drop-cons l i 0 h)

-- nothing is left from the end on
pub drop_end : (l : List ℕ) (i : ℕ) → length l ≤ i → drop i l ≡ []
drop_end l i h = drop_of_length-le l h

-- the part from i to the end is the rest from i on
pub part_to_end : (l : List ℕ) (i : ℕ) → take (length l - i) (drop i l) ≡ drop i l
part_to_end l i = take_all (length l - i) (drop i l) (simp length-drop (omega arith))

-- the front of i + 1 bytes is the front of i and the byte at i
pub take-next : (l : List ℕ) (i : ℕ) → i < length l → take (i + 1) l ≡ take i l ++ (get_or l i 0 ∷ [])
take-next l i h = rw (add-one, take-suc l i 0 h)

-- the front of e bytes is the front of e - 1 and the byte at e - 1
pub take-last : (l : List ℕ) (e : ℕ) → 0 < e → e ≤ length l → take e l ≡ take (e - 1) l ++ (get_or l (e - 1) 0 ∷ [])
take-last l e p h =
    let q : (e - 1) + 1 ≡ e = omega arith in
    rw q at (take-next l (e - 1) (omega arith))

-- nothing is left from i on exactly when i is the length
pub nil_drop : (i : ℕ) (l : List ℕ) → i ≤ length l → is_nil (drop i l) ≡ eqb i (length l)
nil_drop zero [] h = refl
nil_drop zero (x ∷ l) h = rw (eqb-zero-suc (length l))
nil_drop (suc i) [] h = absurd (omega arith)
nil_drop (suc i) (x ∷ l) h = rw (eqb-suc-suc i (length l)) (nil_drop i l (omega arith))

-- a list that has a length is not empty
pub not_nil : (l : List ℕ) → (length l ≡ 0 → ⊥) → is_nil l ≡ false
not_nil [] h = absurd (h refl)
not_nil (x ∷ l) h = refl

-- a list that is shorter does not begin with p
pub starts_short : (p l : List ℕ) → length l < length p → starts_with p l ≡ false
starts_short [] l h = absurd (omega arith)
starts_short (x ∷ p) [] h = refl
starts_short (x ∷ p) (y ∷ l) h = rw (starts_short p l (omega arith)) (and-false (eqb x y))

-- lists of unlike lengths are not the same
pub same_unlike : (a b : List ℕ) → (length a ≡ length b → ⊥) → same a b ≡ false
same_unlike [] [] h = absurd (h refl)
same_unlike [] (y ∷ b) h = refl
same_unlike (x ∷ a) [] h = refl
same_unlike (x ∷ a) (y ∷ b) h = rw (same_unlike a b (λ e. h (ap suc e))) (and-false (eqb x y))

-- nor are they but for the case of letters
pub same_fold_unlike : (a b : List ℕ) → (length a ≡ length b → ⊥) → same_fold a b ≡ false
same_fold_unlike a b h = same_unlike (map lower a) (map lower b) (λ e. h (simp length-map at e))
