-- The blanks at the ends of a list, by how many there are.
use Rattle.std.proofs.Common.{◌≡◌, ℕ, suc, ◌-◌, ◌+◌, Bool, true, false, List}
use Rattle.std.proofs.Common.{[], ◌∷◌, ◌++◌, length, length-append, take, drop, reverse, arith, refl}
use Rattle.std.specs.List.{prefix_len}
use Rattle.std.proofs.lemmas.List.{reverse-reverse, take_all, take-append-le}
use Rattle.std.proofs.lemmas.Grind.{reverse_onto}
use Rattle.rules_server.specs.Octets.{is_blank, trim_start, trim_end}

-- a blank at the end does not change what is trimmed there
pub trim_end-blank : (l : List ℕ) (x : ℕ) → is_blank x ≡ true → trim_end (l ++ (x ∷ [])) ≡ trim_end l
trim_end-blank [] x e = rw e
trim_end-blank (y ∷ l) x e = rw (trim_end-blank l x e)

-- a list that ends in no blank is trimmed there already
pub trim_end_kept : (l : List ℕ) (x : ℕ) → is_blank x ≡ false → trim_end (l ++ (x ∷ [])) ≡ l ++ (x ∷ [])
trim_end_kept [] x e = rw e
trim_end_kept (y ∷ []) x e = rw (trim_end_kept [] x e)
trim_end_kept (y ∷ z ∷ l) x e = rw (trim_end_kept (z ∷ l) x e)

-- the blanks in front
pub trim_start_is : (l : List ℕ) → drop (prefix_len is_blank l) l ≡ trim_start l
trim_start_is [] = refl
trim_start_is (x ∷ l) = go (is_blank x) refl (trim_start_is l)
  where
    go : (b : Bool) → is_blank x ≡ b → drop (prefix_len is_blank l) l ≡ trim_start l
        → drop (prefix_len is_blank (x ∷ l)) (x ∷ l) ≡ trim_start (x ∷ l)
    go true e ih =
        let one : 1 + prefix_len is_blank l ≡ suc (prefix_len is_blank l) = omega arith in
        rw (e, one) ih
    go false e ih = rw e

-- the blanks at the end, of a list that is turned
trim_end_turned : (r : List ℕ) → take (length (reverse r) - prefix_len is_blank r) (reverse r) ≡ trim_end (reverse r)
trim_end_turned [] = refl
trim_end_turned (x ∷ r) = go (is_blank x) refl (trim_end_turned r)
  where
    go : (b : Bool) → is_blank x ≡ b → take (length (reverse r) - prefix_len is_blank r) (reverse r) ≡ trim_end (reverse r)
        → take (length (reverse (x ∷ r)) - prefix_len is_blank (x ∷ r)) (reverse (x ∷ r)) ≡ trim_end (reverse (x ∷ r))
    go true e ih =
        let k = prefix_len is_blank r in
        let left : length (reverse r ++ (x ∷ [])) - (1 + k) ≡ length (reverse r) - k = omega (arith, length-append {A = ℕ}) in
        rw (reverse_onto r x [], e, trim_end-blank (reverse r) x e, left, take-append-le (length (reverse r) - k) (reverse r) (x ∷ []) (omega arith)) ih
    go false e ih = rw (reverse_onto r x [], e, trim_end_kept (reverse r) x e) (take_all _ (reverse r ++ (x ∷ [])) (omega arith))

pub trim_end_is : (l : List ℕ) → take (length l - prefix_len is_blank (reverse l)) l ≡ trim_end l
trim_end_is l = rw reverse-reverse at (trim_end_turned (reverse l))
