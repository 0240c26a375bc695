-- "The first line that applies decides", said of a table whose rows carry what they decide: a row is named by itself and by no place in the table.
use Rattle.std.specs.Prelude.{◌≡◌, Bool, true, false, List, [], ◌∷◌, ◌++◌}

-- no row holds
abbrev pub NoneHolds : {A : Type 0} → (A → Bool) → List A → Type 0
NoneHolds holds [] = Unit {0}
NoneHolds holds (r ∷ rs) = (holds r ≡ false) × NoneHolds holds rs

-- the row holds and none before it does
pub record FirstHolds {A : Type 0} (holds : A → Bool) (rows : List A) (row : A) : Type 0 where
  pub before : List A
  pub behind : List A
  pub split : rows ≡ before ++ (row ∷ behind)
  pub earlier : NoneHolds holds before
  pub here : holds row ≡ true
