-- Placing a run among others (`place`, `joined`, `apart`, `gather` of the rules): what it keeps, for any gap g.
-- Assumes nothing.
use Prim.Native.Nat.{ℕ, ◌+◌, ◌≤◌, ◌<◌}
use native.Mathlib.Omega.{arith}
use mathlib.Core.Path.{◌≡◌, refl}
use mathlib.Core.Logic.{◌⊎◌, inl, inr}
use mathlib.Core.Bool.{Bool, true, false, cond, ◌&&◌, and-eq-true_iff}
use mathlib.Core.List.{List, [], ◌∷◌}
use lib.Dec.{leb}
use borrow.Author.Tests.{leb-true, leb-false}
use Rattle.rules_server.specs.Parts.{near, hull, joined, apart, place, gather}
use Rattle.rules_server.specs.declared.Run.{Run}
use Rattle.rules_demands.specs.Positions.{Each, Pairs, RunIn, In}

-- by cases on a test, with its equation
pub tested : {A : Type 0} (b : Bool) → (b ≡ true → A) → (b ≡ false → A) → A
tested true t f = t refl
tested false t f = f refl

-- at least g positions lie between r and q
abbrev pub Apart : ℕ → Run → Run → Type 0
Apart g r q = (r.last + g < q.first) ⊎ (q.last + g < r.first)

-- r and q meet: the two orders that the test compares
pub near_true : (g : ℕ) (r q : Run) → near g r q ≡ true → (q.first ≤ r.last + g) × (r.first ≤ q.last + g)
unfolding near
near_true g r q e =
    let h = (and-eq-true_iff (leb q.first (r.last + g)) (leb r.first (q.last + g))).0 e in
    (leb-true _ _ h.0, leb-true _ _ h.1)

-- r and q do not meet: one lies beyond the other
pub near_false : (g : ℕ) (r q : Run) → near g r q ≡ false → Apart g r q
unfolding near
near_false g r q e = go (leb q.first (r.last + g)) refl e
  where
    go : (b : Bool) → leb q.first (r.last + g) ≡ b → (b && leb r.first (q.last + g)) ≡ false → Apart g r q
    go true h e = inr (leb-false _ _ e)
    go false h e = inl (leb-false _ _ h)

-- runs apart share no position
pub apart_in : (g p : ℕ) (r q : Run) → Apart g r q → In p r → In p q → ⊥
apart_in g p r q (inl a) i j = omega arith
apart_in g p r q (inr a) i j = omega arith

-- a property of each run from another
pub each_map : {P Q : Run → Type 0} (rs : List Run) → ((r : Run) → P r → Q r) → Each P rs → Each Q rs
each_map [] f h = tt
each_map (r ∷ rs) f h = (f r h.0, each_map rs f h.1)

-- from two others
pub each_both : {P Q S : Run → Type 0} (rs : List Run) → ((r : Run) → P r → Q r → S r) → Each P rs → Each Q rs → Each S rs
each_both [] f h k = tt
each_both (r ∷ rs) f h k = (f r h.0 k.0, each_both rs f h.1 k.1)

-- a relation of each two runs from another, and a property of each
pub pairs-map : {P : Run → Type 0} {R S : Run → Run → Type 0} (rs : List Run) → ((r q : Run) → P r → P q → R r q → S r q) → Each P rs → Pairs R rs → Pairs S rs
pairs-map [] f h k = tt
pairs-map (r ∷ rs) f h k = (each_both rs (λ q. f r q h.0) h.1 k.0, pairs-map rs f h.1 k.1)

-- a property that two runs hand to their hull when they meet
abbrev pub Closed : ℕ → (Run → Type 0) → Type 0
Closed g P = (r q : Run) → near g r q ≡ true → P r → P q → P (hull r q)

-- each run that stays had the property before
pub each_apart : (P : Run → Type 0) (g : ℕ) (r : Run) (qs : List Run) → Each P qs → Each P (apart g r qs)
each_apart P g r [] h = tt
each_apart P g r (q ∷ qs) h = go (near g r q) (each_apart P g (hull r q) qs h.1) (each_apart P g r qs h.1)
  where
    go : (b : Bool) → Each P (apart g (hull r q) qs) → Each P (apart g r qs) → Each P (cond b (apart g (hull r q) qs) (q ∷ apart g r qs))
    go true met kept = met
    go false met kept = (h.0, kept)

-- runs that stay stand to each other as before
pub pairs-apart : (R : Run → Run → Type 0) (g : ℕ) (r : Run) (qs : List Run) → Pairs R qs → Pairs R (apart g r qs)
pairs-apart R g r [] h = tt
pairs-apart R g r (q ∷ qs) h = go (near g r q) (pairs-apart R g (hull r q) qs h.1) (pairs-apart R g r qs h.1)
  where
    go : (b : Bool) → Pairs R (apart g (hull r q) qs) → Pairs R (apart g r qs) → Pairs R (cond b (apart g (hull r q) qs) (q ∷ apart g r qs))
    go true met kept = met
    go false met kept = (each_apart (R q) g r qs h.0, kept)

-- a closed property of all goes over to the joined run
pub closed_joined : (P : Run → Type 0) (g : ℕ) → Closed g P → (r : Run) (qs : List Run) → P r → Each P qs → P (joined g r qs)
closed_joined P g c r [] h hs = h
closed_joined P g c r (q ∷ qs) h hs = closed_joined P g c (cond (near g r q) (hull r q) r) qs (step (near g r q) refl) hs.1
  where
    step : (b : Bool) → near g r q ≡ b → P (cond b (hull r q) r)
    step true e = c r q e h hs.0
    step false e = h

-- and to each run once r is placed
pub closed_place : (P : Run → Type 0) (g : ℕ) → Closed g P → (r : Run) (qs : List Run) → P r → Each P qs → Each P (place g r qs)
closed_place P g c r [] h hs = (h, tt)
closed_place P g c r (q ∷ qs) h hs = go (near g r q) refl (closed_place P g c r qs h hs.1)
  where
    go : (b : Bool) → near g r q ≡ b → Each P (place g r qs) → Each P (cond b (joined g (hull r q) qs ∷ apart g (hull r q) qs) (q ∷ place g r qs))
    go true e kept = (closed_joined P g c (hull r q) qs (c r q e h hs.0) hs.1, each_apart P g (hull r q) qs hs.1)
    go false e kept = (hs.0, kept)

-- and to each run once all are placed
pub closed_gather : (P : Run → Type 0) (g : ℕ) → Closed g P → (rs done : List Run) → Each P rs → Each P done → Each P (gather g rs done)
closed_gather P g c [] done hs ds = ds
closed_gather P g c (r ∷ rs) done hs ds = closed_gather P g c rs (place g r done) hs.1 (closed_place P g c r done hs.0 ds)

-- the hull of two runs of positions of n bytes is one
pub proper_hull : (g n : ℕ) → Closed g (RunIn n)
proper_hull g n r q e h k = record { ordered = omega arith; inside = omega arith }

-- a run apart from two that meet is apart from their hull
pub apart-hull : (g n : ℕ) (x : Run) → RunIn n x → Closed g (Apart g x)
apart-hull g n x o r q e h k = go h k (near_true g r q e)
  where
    go : Apart g x r → Apart g x q → (q.first ≤ r.last + g) × (r.first ≤ q.last + g) → Apart g x (hull r q)
    go (inl a) (inl b) m = inl (omega arith)
    go (inl a) (inr b) m = absurd (omega arith)
    go (inr a) (inl b) m = absurd (omega arith)
    go (inr a) (inr b) m = inr (omega arith)

-- from either side
pub apart_swap : (g : ℕ) (r q : Run) → Apart g r q → Apart g q r
apart_swap g r q (inl a) = inr a
apart_swap g r q (inr a) = inl a

-- the joined run is apart from each run that stays
pub joined-apart : (g n : ℕ) (r : Run) (qs : List Run) → Each (RunIn n) qs → Pairs (Apart g) qs → Each (Apart g (joined g r qs)) (apart g r qs)
joined-apart g n r [] hs ps = tt
joined-apart g n r (q ∷ qs) hs ps = go (near g r q) refl (joined-apart g n (hull r q) qs hs.1 ps.1) (joined-apart g n r qs hs.1 ps.1)
  where
    go : (b : Bool) → near g r q ≡ b → Each (Apart g (joined g (hull r q) qs)) (apart g (hull r q) qs) → Each (Apart g (joined g r qs)) (apart g r qs)
        → Each (Apart g (joined g (cond b (hull r q) r) qs)) (cond b (apart g (hull r q) qs) (q ∷ apart g r qs))
    go true e met kept = met
    go false e met kept = (
      apart_swap g q (joined g r qs)
          (closed_joined (Apart g q) g (apart-hull g n q hs.0) r qs (apart_swap g r q (near_false g r q e)) ps.0),
      kept,
    )

-- placing a run keeps runs apart
pub place-apart : (g n : ℕ) (r : Run) (qs : List Run) → Each (RunIn n) qs → Pairs (Apart g) qs → Pairs (Apart g) (place g r qs)
place-apart g n r [] hs ps = (tt, tt)
place-apart g n r (q ∷ qs) hs ps = go (near g r q) refl (place-apart g n r qs hs.1 ps.1)
  where
    go : (b : Bool) → near g r q ≡ b → Pairs (Apart g) (place g r qs)
        → Pairs (Apart g) (cond b (joined g (hull r q) qs ∷ apart g (hull r q) qs) (q ∷ place g r qs))
    go true e kept = (joined-apart g n (hull r q) qs hs.1 ps.1, pairs-apart (Apart g) g (hull r q) qs ps.1)
    go false e kept = (closed_place (Apart g q) g (apart-hull g n q hs.0) r qs (apart_swap g r q (near_false g r q e)) ps.0, kept)

-- and so does placing all
pub gather-apart : (g n : ℕ) (rs done : List Run) → Each (RunIn n) rs → Each (RunIn n) done → Pairs (Apart g) done → Pairs (Apart g) (gather g rs done)
gather-apart g n [] done hs ds ps = ps
gather-apart g n (r ∷ rs) done hs ds ps =
    gather-apart g n rs (place g r done) hs.1 (closed_place (RunIn n) g (proper_hull g n) r done hs.0 ds) (place-apart g n r done ds ps)
