-- What is found of field lines, and how it is counted.
use Prim.Native.Nat.{ℕ, zero, suc, ◌<◌}
use mathlib.Core.Path.{◌≡◌, refl, sym, ap, ◌∙◌}
use mathlib.Core.Bool.{Bool, true, false, cond, true≢false}
use mathlib.Core.List.{List, [], ◌∷◌}
use Rattle.std.specs.Prelude.{Option, None, Some}
use native.Mathlib.Omega.{arith}
use lib.Dec.{eqb}
use Rattle.rules_demands.specs.AcceptanceGrammar.{number_of, count, lookup}
use Rattle.rules_tablet.specs.Fields.{name_of, value_of, Name, kind_of}

-- a name that no line has is not found
pub count-none : (k : Name) (ls : List (List ℕ)) → count k ls ≡ 0 → lookup k ls ≡ None
count-none k [] e = refl
count-none k (l ∷ ls) e = go (eqb (number_of k) (number_of (kind_of (name_of l)))) (count-none k ls) e
  where
    go : (b : Bool) → (count k ls ≡ 0 → lookup k ls ≡ None) → cond b (suc (count k ls)) (count k ls) ≡ 0 → cond b (Some (value_of l)) (lookup k ls) ≡ None
    go true ih e = absurd (omega arith)
    go false ih e = ih e

-- a value that was found, as it is read, or what was there before
abbrev pub said_or : {A : Type 0} → A → (List ℕ → A) → Option (List ℕ) → A
said_or a f None = a
said_or a f (Some v) = f v

-- what is found is not absent
pub none-some : (v : List ℕ) → None ≡ Some v → ⊥
none-some v e = true≢false (ap (said_or true (λ w. false)) e)

-- what is found is one value
pub some_value : (v w : List ℕ) → Some v ≡ Some w → v ≡ w
some_value v w e = ap (said_or v (λ x. x)) e

-- what is found is counted
pub some-count : (k : Name) (ls : List (List ℕ)) (v : List ℕ) → lookup k ls ≡ Some v → 0 < count k ls
some-count k ls v e = go (count k ls) refl
  where
    go : (c : ℕ) → count k ls ≡ c → 0 < c
    go zero f = absurd (none-some v (sym (count-none k ls f) ∙ e))
    go (suc c) f = omega arith
