-- Laws of stages by their next bytes: one row for each stage, in the enum's order.
-- Assumes nothing.
use Prim.Native.Nat.{ℕ}
use mathlib.Core.Bool.{Bool, true}
use mathlib.Core.Path.{◌≡◌, refl}
use Rattle.rules_tablet.specs.declared.Stage.{Stage}
use Rattle.rules_tablet.specs.declared.Stage.TheVariants.{Plain, Data}
use Rattle.reader_state.specs.declared.stages.NextBytes.{NextBytes}
use Rattle.reader_state.specs.Looks.{look_of, is_data}
use Rattle.laws_reader.proofs.Stages.{Rows, where_met}

-- what the rows say holds of every stage whose next bytes meet a test
pub by_look : (f : NextBytes → Bool) (P : Stage → Type 0) → Rows (λ s. f (look_of s)) P → (s : Stage) → f (look_of s) ≡ true → P s
by_look f P = where_met (λ s. f (look_of s)) P

-- where data comes next, it is that of a plain body or of a part
pub data_cases_lem : (P : Stage → Type 0) → ((next : ℕ) → P (Plain next)) → ((next left : ℕ) → P (Data next left)) → (s : Stage) → is_data s ≡ true → P s
data_cases_lem P f g = where_met is_data P (tt, tt, f, tt, λ k. tt, λ k. tt, λ i. tt, λ i. tt, tt, tt, tt, tt, tt, g, tt, tt, λ k. tt)

-- a row that no stage meets
pub no : {A : Type 0} → ⊥ → A
no x = absurd x

-- a row that asks nothing
pub so : {A : Type 0} → A → Unit {0}
so x = tt

-- a row that holds by itself
pub itself : {A B : Type 0} {x : B} → A → x ≡ x
itself a = refl
