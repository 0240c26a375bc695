-- Laws of tests, and of tests that every byte of a text passes.
use Prim.Native.Nat.{ℕ}
use mathlib.Core.Path.{◌≡◌, refl, sym}
use mathlib.Core.Bool.{Bool, true, false, ◌&&◌, true≢false}
use mathlib.Core.List.{List, [], ◌∷◌, ◌++◌}
use native.Mathlib.Omega.{arith}
use Rattle.rules_server.specs.Octets.{all}

-- of two tests that pass, the first passes
pub and_left : (a b : Bool) → (a && b) ≡ true → a ≡ true
and_left true b e = refl
and_left false b e = e

-- of two tests that pass, the second passes
pub and_right : (a b : Bool) → (a && b) ≡ true → b ≡ true
and_right true b e = e
and_right false b e = absurd (true≢false (sym e))

-- two tests that pass, pass together
pub and_both : (a b : Bool) → a ≡ true → b ≡ true → (a && b) ≡ true
and_both a b e f = simp (e, f)

-- what the bytes of two texts pass, those of the one text behind the other pass
pub all-append : (p : ℕ → Bool) (a b : List ℕ) → all p a ≡ true → all p b ≡ true → all p (a ++ b) ≡ true
all-append p [] b e f = f
all-append p (x ∷ a) b e f = and_both (p x) (all p (a ++ b)) (and_left (p x) (all p a) e) (all-append p a b (and_right (p x) (all p a) e) f)

-- bytes that pass one test pass a weaker one
pub all_weaker : (p q : ℕ → Bool) → ((x : ℕ) → p x ≡ true → q x ≡ true) → (l : List ℕ) → all p l ≡ true → all q l ≡ true
all_weaker p q h [] e = refl
all_weaker p q h (x ∷ l) e = and_both (q x) (all q l) (h x (and_left (p x) (all p l) e)) (all_weaker p q h l (and_right (p x) (all p l) e))

-- nothing has no first
pub nil_cons : {A : Type 0} (x : A) (l : List A) → [] ≡ x ∷ l → ⊥
nil_cons x l e = let z : ◌≡◌ {A = ℕ} 0 1 = cc in omega arith
