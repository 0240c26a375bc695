-- Laws of tables whose rows carry what they decide, for rows of any kind and any number of them.
use mathlib.Core.Path.{◌≡◌, refl, ◌∙◌, ap}
use mathlib.Core.Bool.{Bool, true, false, cond, ◌&&◌, ◌||◌}
use mathlib.Core.List.{List, [], ◌∷◌, ◌++◌}
use Rattle.rules_demands.specs.FirstRows.{FirstHolds, NoneHolds}

-- a table has a first row that holds, or none does
pub data Found {A : Type 0} (holds : A → Bool) (rows : List A) : Type 0 where
  found : (row : A) → FirstHolds holds rows row → Found holds rows
  missing : NoneHolds holds rows → Found holds rows

pub find : {A : Type 0} (holds : A → Bool) (rows : List A) → Found holds rows
find holds [] = missing tt
find {A} holds (r ∷ rs) = go (holds r) refl (find holds rs)
  where
    go : (b : Bool) → holds r ≡ b → Found holds rs → Found holds (r ∷ rs)
    go true e w = found r (record { before = []; behind = rs; split = refl; earlier = tt; here = e })
    go false e (found row h) =
        found row
        (record {
          before = r ∷ h.before;
          behind = h.behind;
          split = ap (λ (l : List A). r ∷ l) h.split;
          earlier = (e, h.earlier);
          here = h.here;
        })
    go false e (missing n) = missing (e, n)

-- what a fold down the table gives: `given` of the first row that holds, `otherwise` where none does
abbrev pub first_of : {A B : Type 0} → (A → Bool) → (A → B) → B → List A → B
first_of holds given otherwise [] = otherwise
first_of holds given otherwise (r ∷ rs) = cond (holds r) (given r) (first_of holds given otherwise rs)

first_split : {A B : Type 0} (holds : A → Bool) (given : A → B) (otherwise : B) (before : List A) (row : A) (behind : List A)
    → NoneHolds holds before → holds row ≡ true → first_of holds given otherwise (before ++ (row ∷ behind)) ≡ given row
first_split holds given otherwise [] row behind n e = rw e refl
first_split holds given otherwise (r ∷ before) row behind n e = rw n.0 (first_split holds given otherwise before row behind n.1 e)

-- of the first row that holds
pub first_is : {A B : Type 0} (holds : A → Bool) (given : A → B) (otherwise : B) (rows : List A) (row : A) → FirstHolds holds rows row
    → first_of holds given otherwise rows ≡ given row
first_is holds given otherwise rows row h =
    ap (first_of holds given otherwise) h.split ∙ first_split holds given otherwise h.before row h.behind h.earlier h.here

-- where none does
pub first_none : {A B : Type 0} (holds : A → Bool) (given : A → B) (otherwise : B) (rows : List A) → NoneHolds holds rows
    → first_of holds given otherwise rows ≡ otherwise
first_none holds given otherwise [] n = refl
first_none holds given otherwise (r ∷ rs) n = rw n.0 (first_none holds given otherwise rs n.1)

-- ---- rows by what they carry

-- the test of the first row that is picked, false where there is none
abbrev pub test_of : {A : Type 0} → (A → Bool) → (A → Bool) → List A → Bool
test_of holds picks [] = false
test_of holds picks (r ∷ rs) = cond (picks r) (holds r) (test_of holds picks rs)

-- where no row holds, no row that is picked does
pub none_picked : {A : Type 0} (holds picks : A → Bool) (rows : List A) → NoneHolds holds rows → test_of holds picks rows ≡ false
none_picked holds picks [] n = refl
none_picked holds picks (r ∷ rs) n = go (picks r) (none_picked holds picks rs n.1)
  where
    go : (b : Bool) → test_of holds picks rs ≡ false → cond b (holds r) (test_of holds picks rs) ≡ false
    go true e = n.0
    go false e = e

-- some row that is picked holds
abbrev pub any_of : {A : Type 0} → (A → Bool) → (A → Bool) → List A → Bool
any_of holds picks [] = false
any_of holds picks (r ∷ rs) = (picks r && holds r) || any_of holds picks rs

any_split : {A : Type 0} (holds picks : A → Bool) (before : List A) (row : A) (behind : List A) → holds row ≡ true → picks row ≡ true
    → any_of holds picks (before ++ (row ∷ behind)) ≡ true
any_split holds picks [] row behind e p = rw (p, e) refl
any_split holds picks (r ∷ before) row behind e p = go (picks r && holds r) (any_split holds picks before row behind e p)
  where
    go : (b : Bool) → any_of holds picks (before ++ (row ∷ behind)) ≡ true → (b || any_of holds picks (before ++ (row ∷ behind))) ≡ true
    go true h = refl
    go false h = h

-- where the first row that holds is picked
pub first_picked : {A : Type 0} (holds picks : A → Bool) (rows : List A) (row : A) → FirstHolds holds rows row → picks row ≡ true
    → any_of holds picks rows ≡ true
first_picked holds picks rows row h p = rw h.split (any_split holds picks h.before row h.behind h.here p)
