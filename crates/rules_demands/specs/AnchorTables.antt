-- A table that anchors definitions: what a definition gives beside what it has to give, written out.
use Rattle.std.specs.Prelude.{◌≡◌, List, [], ◌∷◌}

infix 68 ◌is◌
-- an entry
pub record Entry (A : Type 0) : Type 0 where
  pub defined : A
  pub literal : A

abbrev pub ◌is◌ : {A : Type 0} → A → A → Entry A
x is y = record { defined = x; literal = y }

-- what the definitions give
abbrev pub defineds : {A : Type 0} → List (Entry A) → List A
defineds [] = []
defineds (e ∷ es) = e.defined ∷ defineds es

-- what they have to give
abbrev pub literals : {A : Type 0} → List (Entry A) → List A
literals [] = []
literals (e ∷ es) = e.literal ∷ literals es

-- the two sides of every entry are the same
abbrev pub Agree : {A : Type 0} → List (Entry A) → Type 0
Agree es = defineds es ≡ literals es
