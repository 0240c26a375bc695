-- Tests that decide a fault, and the number of the first fault of several.
use Prim.Native.Nat.{ℕ}
use mathlib.Core.Path.{◌≡◌, refl, sym, ◌∙◌}
use mathlib.Core.Bool.{Bool, true, false, cond, not, ◌&&◌, ◌||◌, true≢false}
use mathlib.Core.Logic.{◌⊎◌, inl, inr}
use lib.Dec.{eqb}
use borrow.Author.Tests.{eqb-true, eq-eqb}
use Rattle.rules_demands.specs.RefusalLines.{First, this, not_this}

-- the test passes exactly when this holds
pub record Decides (test : Bool) (A : Type 0) : Type 0 where
  pub yes : test ≡ true → A
  pub sure : A → test ≡ true

-- the number of the first fault is r, and 0 where there is none
pub record Says (r : ℕ) (fault : ℕ → Type 0) : Type 0 where
  pub some_fault : (r ≡ 0 → ⊥) → fault r
  pub same : (k : ℕ) → fault k → r ≡ k

-- a test by its result
pub by_test : {A : Type 0} (t : Bool) → (t ≡ true → A) → (t ≡ false → A) → A
by_test true f g = f refl
by_test false f g = g refl

-- what fails is not so
fails : {A : Type 0} (t : Bool) → Decides t A → t ≡ false → A → ⊥
fails t d e a = true≢false (sym (d.sure a) ∙ e)

-- either of two tests
pub or_decides : {A B : Type 0} (a b : Bool) → Decides a A → Decides b B → Decides (a || b) ((A ⊎ B))
or_decides {A} {B} a b d e = record { yes = yes a d; sure = sure }
  where
    yes : (a : Bool) → Decides a A → (a || b) ≡ true → (A ⊎ B)
    yes true d f = inl (d.yes refl)
    yes false d f = inr (e.yes f)

    right : (a : Bool) → b ≡ true → (a || b) ≡ true
    right true f = refl
    right false f = f

    sure : (A ⊎ B) → (a || b) ≡ true
    sure (inl x) = rw (d.sure x)
    sure (inr y) = right a (e.sure y)

-- both
pub and_decides : {A B : Type 0} (a b : Bool) → Decides a A → Decides b B → Decides (a && b) (A × B)
and_decides {A} {B} a b d e = record { yes = yes a d; sure = λ p. rw (d.sure p.0, e.sure p.1) }
  where
    yes : (a : Bool) → Decides a A → (a && b) ≡ true → A × B
    yes true d f = (d.yes refl, e.yes f)
    yes false d f = absurd (true≢false (sym f))

-- a test that fails
pub not_decides : {A : Type 0} (a : Bool) → Decides a A → Decides (not a) (A → ⊥)
not_decides {A} a d = record { yes = λ f. fails a d (off a f); sure = sure a d }
  where
    off : (a : Bool) → not a ≡ true → a ≡ false
    off true f = absurd (true≢false (sym f))
    off false f = refl

    sure : (a : Bool) → Decides a A → (A → ⊥) → not a ≡ true
    sure true d f = absurd (f (d.yes refl))
    sure false d f = refl

-- equal numbers
pub eq_decides : (a b : ℕ) → Decides (eqb a b) (a ≡ b)
eq_decides a b = record { yes = eqb-true a b; sure = eq-eqb a b }

-- the same under another name
pub renamed : {A B : Type 0} (t : Bool) → Decides t A → (A → B) → (B → A) → Decides t B
renamed t d f g = record { yes = λ e. f (d.yes e); sure = λ b. d.sure (g b) }

-- a test is what it is
pub is_decides : (t : Bool) → Decides t (t ≡ true)
is_decides t = record { yes = λ e. e; sure = λ e. e }

-- no fault
pub none-says : Says 0 (λ k. ⊥)
none-says = record { some_fault = λ f. f refl; same = λ k e. absurd e }

-- one fault before others, which are looked at only where it does not apply
pub first_says : {A : Type 0} {later : ℕ → Type 0} (t : Bool) (m r : ℕ) → Decides t A → ((A → ⊥) → Says r later)
    → Says (cond t m r) (λ k. First m A (later k) k)
first_says {A} {later} t m r d s = go t d
  where
    go : (t : Bool) → Decides t A → Says (cond t m r) (λ k. First m A (later k) k)
    go true d = record { some_fault = λ f. this (d.yes refl) refl; same = same }
      where
        same : (k : ℕ) → First m A (later k) k → m ≡ k
        same k (this a e) = sym e
        same k (not_this f l) = absurd (f (d.yes refl))
    go false d = record { some_fault = λ f. not_this (fails false d refl) ((s (fails false d refl)).some_fault f); same = same }
      where
        same : (k : ℕ) → First m A (later k) k → r ≡ k
        same k (this a e) = absurd (fails false d refl a)
        same k (not_this f l) = (s f).same k l
