-- Which positions placed runs cover: just those of the runs before.
-- Assumes nothing.
use Prim.Native.Nat.{ℕ, ◌+◌, ◌≤◌}
use native.Mathlib.Omega.{arith}
use mathlib.Core.Path.{◌≡◌, refl}
use mathlib.Core.Logic.{◌⊎◌, inl, inr, ⊎_elim}
use mathlib.Core.Bool.{Bool, true, false, cond}
use mathlib.Core.List.{List, [], ◌∷◌}
use lib.Dec.{leb}
use borrow.Author.Tests.{leb-true, leb-false}
use Rattle.rules_server.specs.Limits.{merge_gap}
use Rattle.rules_server.specs.Parts.{near, hull, joined, apart, place, gather}
use Rattle.rules_server.specs.declared.Run.{Run}
use Rattle.rules_demands.specs.Positions.{Each, In, Covers}
use Rattle.laws_server.proofs.Runs.{Closed, near_true, closed_gather}

-- what lies in a run lies in its hull with another
pub in_left : (p : ℕ) (r q : Run) → In p r → In p (hull r q)
in_left p r q h = (omega arith, omega arith)

-- the hull with one before it
pub in_right : (p : ℕ) (r q : Run) → In p q → In p (hull r q)
in_right p r q h = (omega arith, omega arith)

-- what lies in the hull of two runs that overlap or touch lies in one of them
pub in_hull : (p : ℕ) (r q : Run) → near merge_gap r q ≡ true → In p (hull r q) → In p r ⊎ In p q
in_hull p r q e h = go (leb r.first p) refl (leb p r.last) refl (near_true merge_gap r q e)
  where
    go : (a : Bool) → leb r.first p ≡ a → (b : Bool) → leb p r.last ≡ b → (q.first ≤ r.last + merge_gap) × (r.first ≤ q.last + merge_gap)
        → In p r ⊎ In p q
    go true x true y m = inl (leb-true _ _ x, leb-true _ _ y)
    go true x false y m = let k = leb-false p r.last y in inr (omega arith, omega arith)
    go false x true y m = let k = leb-false r.first p x in inr (omega arith, omega arith)
    go false x false y m = let k = leb-false r.first p x in inr (omega arith, omega arith)

-- a statement that follows from p's lying in any of the runs follows from their covering p
pub covers_each : (X : Type 0) (p : ℕ) (rs : List Run) → Covers p rs → Each (λ (r : Run). In p r → X) rs → X
covers_each X p [] c h = absurd c
covers_each X p (r ∷ rs) (inl i) h = h.0 i
covers_each X p (r ∷ rs) (inr c) h = covers_each X p rs c h.1

-- and the other way
pub each_covers : (X : Type 0) (p : ℕ) (rs : List Run) → (Covers p rs → X) → Each (λ (r : Run). In p r → X) rs
each_covers X p [] h = tt
each_covers X p (r ∷ rs) h = (λ i. h (inl i), each_covers X p rs (λ c. h (inr c)))

-- gathered runs cover no position that the runs before did not
pub gather_covered : (p : ℕ) (rs done : List Run) → Covers p (gather merge_gap rs done) → Covers p rs ⊎ Covers p done
gather_covered p rs done c =
    covers_each X p (gather merge_gap rs done) c
    (closed_gather (λ (r : Run). In p r → X) merge_gap closed rs done (each_covers X p rs inl) (each_covers X p done inr))
  where
    X : Type 0
    X = Covers p rs ⊎ Covers p done

    closed : Closed merge_gap (λ (r : Run). In p r → X)
    closed r q e f g i = ⊎_elim f g (in_hull p r q e i)

-- the joined run covers what r does
pub in_joined : (g p : ℕ) (r : Run) (qs : List Run) → In p r → In p (joined g r qs)
in_joined g p r [] i = i
in_joined g p r (q ∷ qs) i = in_joined g p (cond (near g r q) (hull r q) r) qs (step (near g r q))
  where
    step : (b : Bool) → In p (cond b (hull r q) r)
    step true = in_left p r q i
    step false = i

-- the joined run and those that stay cover what the runs did
pub joined_covers : (g p : ℕ) (r : Run) (qs : List Run) → Covers p qs → In p (joined g r qs) ⊎ Covers p (apart g r qs)
joined_covers g p r [] c = absurd c
joined_covers g p r (q ∷ qs) c = go (near g r q) c (joined_covers g p (hull r q) qs) (joined_covers g p r qs)
  where
    keep : In p (joined g r qs) ⊎ Covers p (apart g r qs) → In p (joined g r qs) ⊎ Covers p (q ∷ apart g r qs)
    keep (inl i) = inl i
    keep (inr c) = inr (inr c)

    go : (b : Bool) → Covers p (q ∷ qs) → (Covers p qs → In p (joined g (hull r q) qs) ⊎ Covers p (apart g (hull r q) qs))
        → (Covers p qs → In p (joined g r qs) ⊎ Covers p (apart g r qs))
        → In p (joined g (cond b (hull r q) r) qs) ⊎ Covers p (cond b (apart g (hull r q) qs) (q ∷ apart g r qs))
    go true (inl i) met kept = inl (in_joined g p (hull r q) qs (in_right p r q i))
    go true (inr c) met kept = met c
    go false (inl i) met kept = inr (inl i)
    go false (inr c) met kept = keep (kept c)

-- placed runs cover what r and the runs before did
pub place_covers : (g p : ℕ) (r : Run) (qs : List Run) → In p r ⊎ Covers p qs → Covers p (place g r qs)
place_covers g p r [] c = c
place_covers g p r (q ∷ qs) c = go (near g r q) c (place_covers g p r qs)
  where
    go : (b : Bool) → In p r ⊎ Covers p (q ∷ qs) → (In p r ⊎ Covers p qs → Covers p (place g r qs))
        → Covers p (cond b (joined g (hull r q) qs ∷ apart g (hull r q) qs) (q ∷ place g r qs))
    go true (inl i) kept = inl (in_joined g p (hull r q) qs (in_left p r q i))
    go true (inr (inl i)) kept = inl (in_joined g p (hull r q) qs (in_right p r q i))
    go true (inr (inr c)) kept = joined_covers g p (hull r q) qs c
    go false (inl i) kept = inr (kept (inl i))
    go false (inr (inl i)) kept = inl i
    go false (inr (inr c)) kept = inr (kept (inr c))

-- gathered runs cover what the runs before did
pub gather_covers : (g p : ℕ) (rs done : List Run) → Covers p rs ⊎ Covers p done → Covers p (gather g rs done)
gather_covers g p [] done (inl c) = absurd c
gather_covers g p [] done (inr c) = c
gather_covers g p (r ∷ rs) done (inl (inl i)) = gather_covers g p rs (place g r done) (inr (place_covers g p r done (inl i)))
gather_covers g p (r ∷ rs) done (inl (inr c)) = gather_covers g p rs (place g r done) (inl c)
gather_covers g p (r ∷ rs) done (inr c) = gather_covers g p rs (place g r done) (inr (place_covers g p r done (inr c)))
