-- What goes together in the rows of the table of reasons. Each row is looked at here, and elsewhere what an answer carries.
use Prim.Native.Nat.{ℕ}
use mathlib.Core.Path.{◌≡◌, refl, sym, ap, ◌∙◌}
use mathlib.Core.Bool.{Bool, true, false, cond}
use mathlib.Core.List.{List, [], ◌∷◌}
use mathlib.Core.Logic.{inl, inr}
use denote.Enum.Declared.{tag_of}
use lib.Dec.{eqb}
use types.Run.{OneOf}
use Rattle.rules_server.specs.contracts.Reason.{the_type}
use Rattle.rules_server.specs.Reasons.{Carried, no_body, whole_file, length_only, asked_parts, reason_row}
use Rattle.rules_server.specs.Status.{status_of}
use Rattle.rules_server.specs.Answers.{ok_answer, unsatisfied_answer, plain_answer}
use Rattle.rules_server.specs.declared.Reason.{Reason}
use Rattle.rules_server.specs.declared.Reason.TheVariants.{Head, None, Long, Unit as OtherUnit, Malformed, Many, ChangedFile, Invalid, Unsatisfiable, Empty}
use Rattle.rules_server.specs.declared.Reason.TheVariants.{Partial}
use Rattle.rules_demands.specs.Demand2Reasons.{ReasonLine, lines_of, line_of, reason_lines, ReasonsHold}

-- the status of a reason by what its answer carries; only HEAD has no body, and only one reason has parts
abbrev pub Fits : Reason → Carried → Type 0
Fits x no_body = (x ≡ Head) × (status_of x ≡ 200)
Fits x whole_file = status_of x ≡ 200
Fits x length_only = status_of x ≡ 416
Fits x asked_parts = (x ≡ Partial) × (status_of x ≡ 206)

-- a test of the reason that has this number in the enum
abbrev tested : (Reason → Bool) → ℕ → List ReasonLine → Bool
tested p k [] = false
tested p k (l ∷ ls) = cond (eqb (tag_of the_type l.reason) k) (p l.reason) (tested p k ls)

-- each row, by itself
checked : (x : Reason) → Fits x (reason_row x).carries × (lines_of (reason_row x).number reason_lines ≡ 1)
    × ((p : Reason → Bool) → tested p (tag_of the_type x) reason_lines ≡ p x)
unfolding reason_lines
checked Head = ((refl, refl), refl, λ p. refl)
checked None = (refl, refl, λ p. refl)
checked Long = (refl, refl, λ p. refl)
checked OtherUnit = (refl, refl, λ p. refl)
checked Malformed = (refl, refl, λ p. refl)
checked Many = (refl, refl, λ p. refl)
checked ChangedFile = (refl, refl, λ p. refl)
checked Invalid = (refl, refl, λ p. refl)
checked Unsatisfiable = (refl, refl, λ p. refl)
checked Empty = (refl, refl, λ p. refl)
checked Partial = ((refl, refl), refl, λ p. refl)

pub fits : (x : Reason) → Fits x (reason_row x).carries
fits x = (checked x).0

-- the table in literals
pub reasons_hold : ReasonsHold
unfolding line_of reason_lines ok_answer unsatisfied_answer plain_answer
reasons_hold = record { given = refl; once = λ x. (checked x).1 }

-- ---- the reasons of an arm of a match, by what their rows say

-- the numbers in the enum of the reasons that pass a test, as an arm is told them
abbrev pub keys_of : (Reason → Bool) → List ReasonLine → List ℕ
keys_of p [] = []
keys_of p (l ∷ ls) = cond (p l.reason) (tag_of the_type l.reason ∷ keys_of p ls) (keys_of p ls)

-- one of some numbers is the first or one of the others
one_of : {A : Type 0} (k : ℕ) (ks : List ℕ) (t : ℕ) → OneOf (k ∷ ks) t → (t ≡ k → A) → (OneOf ks t → A) → A
one_of k [] t h f g = f h
one_of k (j ∷ ks) t (inl h) f g = f h
one_of k (j ∷ ks) t (inr h) f g = g h

among : (p : Reason → Bool) (ls : List ReasonLine) (t : ℕ) → OneOf (keys_of p ls) t → tested p t reason_lines ≡ true
among p [] t h = absurd h
among p (l ∷ ls) t h = go (p l.reason) refl h (among p ls t)
  where
    go : (b : Bool) → p l.reason ≡ b → OneOf (cond b (tag_of the_type l.reason ∷ keys_of p ls) (keys_of p ls)) t
        → (OneOf (keys_of p ls) t → tested p t reason_lines ≡ true) → tested p t reason_lines ≡ true
    go true e h more =
        one_of (tag_of the_type l.reason) (keys_of p ls) t h (λ u. ap (λ (n : ℕ). tested p n reason_lines) u ∙ (checked l.reason).2 p ∙ e) more
    go false e h more = more h

-- a reason with one of these numbers passes the test
pub passes : (p : Reason → Bool) (x : Reason) → OneOf (keys_of p reason_lines) (tag_of the_type x) → p x ≡ true
passes p x h = sym ((checked x).2 p) ∙ among p reason_lines (tag_of the_type x) h
