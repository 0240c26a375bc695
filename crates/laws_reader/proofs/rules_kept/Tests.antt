-- Cases on a test, and what a conjunction or a disjunction of tests says.
-- Assumes nothing.
use mathlib.Core.Path.{◌≡◌, refl}
use mathlib.Core.List.{List, [], ◌∷◌}
use mathlib.Core.Bool.{Bool, true, false, cond, ◌&&◌, ◌||◌, false≢true, true≢false}

-- a property of a choice, by cases on its test, with the test's equation
pub by_test : {A : Type 0} (P : A → Type 0) (b : Bool) {x y : A} → (b ≡ true → P x) → (b ≡ false → P y) → P (cond b x y)
by_test P true t f = t refl
by_test P false t f = f refl

-- a true conjunction's first part is true
pub and_left : (a b : Bool) → (a && b) ≡ true → a ≡ true
and_left true b e = refl
and_left false b e = e

-- its second part is true
pub and_right : (a b : Bool) → (a && b) ≡ true → b ≡ true
and_right true b e = e
and_right false b e = absurd (false≢true e)

-- a conjunction of several tests, the first one apart
abbrev pub together : Bool → List Bool → Bool
together a [] = a
together a (b ∷ bs) = together (a && b) bs

-- each of the tests is true
abbrev pub Trues : List Bool → Type 0
Trues [] = Unit {0}
Trues (b ∷ bs) = (b ≡ true) × Trues bs

-- a true conjunction's tests are true
pub trues : (a : Bool) (bs : List Bool) → together a bs ≡ true → Trues (a ∷ bs)
trues a [] e = (e, tt)
trues a (b ∷ bs) e = let h = trues (a && b) bs e in (and_left a b h.0, (and_right a b h.0, h.1))

-- a conjunction of true tests is true
pub all_true : (a : Bool) (bs : List Bool) → Trues (a ∷ bs) → together a bs ≡ true
all_true a [] h = h.0
all_true a (b ∷ bs) h = all_true (a && b) bs (rw h.0 h.1.0, h.1.1)

-- a false disjunction's first part is false
pub or_left : (a b : Bool) → (a || b) ≡ false → a ≡ false
or_left true b e = e
or_left false b e = refl

-- its second part is false
pub or_right : (a b : Bool) → (a || b) ≡ false → b ≡ false
or_right true b e = absurd (true≢false e)
or_right false b e = e

-- a disjunction of several tests, the first one apart
abbrev pub either : Bool → List Bool → Bool
either a [] = a
either a (b ∷ bs) = either (a || b) bs

-- each of the tests is false
abbrev pub Falses : List Bool → Type 0
Falses [] = Unit {0}
Falses (b ∷ bs) = (b ≡ false) × Falses bs

-- a false disjunction's tests are false
pub falses : (a : Bool) (bs : List Bool) → either a bs ≡ false → Falses (a ∷ bs)
falses a [] e = (e, tt)
falses a (b ∷ bs) e = let h = falses (a || b) bs e in (or_left a b h.0, (or_right a b h.0, h.1))

-- of a false conjunction with a true first part the second is false
pub and_rest : (a b : Bool) → (a && b) ≡ false → a ≡ true → b ≡ false
and_rest a b e h = rw h at e

-- of a true disjunction with a false first part the second is true
pub or_rest : (a b : Bool) → (a || b) ≡ true → a ≡ false → b ≡ true
or_rest a b e h = rw h at e
