-- Tests of numbers, and when a position lies in a run.
-- Assumes nothing.
use Prim.Native.Nat.{ℕ, suc, ◌≤◌, ◌<◌}
use native.Mathlib.Omega.{arith}
use mathlib.Core.Path.{◌≡◌, refl}
use mathlib.Core.Bool.{Bool, true, false, cond, ◌||◌, and-false, or-false}
use lib.Dec.{ltb, eqb}
use borrow.Author.Tests.{ltb-true, ltb-false, eqb-true, eqb-false, le-leb, lt-leb, eq-eqb, ne_eqb}
use Rattle.rules_server.specs.declared.Run.{Run}
use Rattle.rules_tablet.specs.Runs.{run, lies}

-- what holds of both arms holds of the one that the test picks
pub on_cond : {A : Type 0} (P : A → Type 0) (b : Bool) (x y : A) → (b ≡ true → P x) → (b ≡ false → P y) → P (cond b x y)
on_cond P true x y t f = t refl
on_cond P false x y t f = f refl

-- by cases: a is below b, or not
pub below_or : {A : Type 0} (a b : ℕ) → (a < b → A) → (b ≤ a → A) → A
below_or {A} a b t f = go (ltb a b) refl
  where
    go : (c : Bool) → ltb a b ≡ c → A
    go true e = t (ltb-true a b e)
    go false e = f (ltb-false a b e)

-- by cases: a is b, or not
pub equal_or : {A : Type 0} (a b : ℕ) → (a ≡ b → A) → ((a ≡ b → ⊥) → A) → A
equal_or {A} a b t f = go (eqb a b) refl
  where
    go : (c : Bool) → eqb a b ≡ c → A
    go true e = t (eqb-true a b e)
    go false e = f (eqb-false a b e)

-- a position from the first to the last lies in the run
pub lies_in_lem : (q : ℕ) (r : Run) → r.first ≤ q → q ≤ r.last → lies q r ≡ true
lies_in_lem q r a b = rw (le-leb r.first q a, le-leb q r.last b)

-- one before the first does not
pub lies-before : (q : ℕ) (r : Run) → q < r.first → lies q r ≡ false
lies-before q r h = rw (lt-leb r.first q h)

-- one behind the last does not
pub lies-behind : (q : ℕ) (r : Run) → r.last < q → lies q r ≡ false
lies-behind q r h = rw (lt-leb q r.last h, and-false)

-- a run of one position
pub lies_point : (q p : ℕ) → lies q (run p p) ≡ eqb q p
lies_point q p =
    equal_or q p
    (λ e. rw (eq-eqb q p e) (lies_in_lem q (run p p) (omega arith) (omega arith)))
    (λ e. rw (ne_eqb q p e) (below_or q p (λ h. lies-before q (run p p) h) (λ h. lies-behind q (run p p) (omega arith))))

-- a run cut in two behind b
pub lies_split : (q a b c : ℕ) → a ≤ suc b → b ≤ c → lies q (run a c) ≡ (lies q (run a b) || lies q (run (suc b) c))
lies_split q a b c h k =
    below_or b q
    (λ l. rw (le-leb a q (omega arith), lt-leb q b l, le-leb (suc b) q l))
    (λ l. rw (le-leb q b l, le-leb q c (omega arith), lt-leb (suc b) q (omega arith), or-false))
