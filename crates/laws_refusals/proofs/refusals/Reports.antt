-- A report and the stage that it is of.
use Prim.Native.Nat.{ℕ}
use mathlib.Core.Path.{◌≡◌, refl, ap}
use mathlib.Core.Bool.{Bool, true, false, not, true≢false}
use Rattle.rules_tablet.specs.Parsers.{report_of, is_more, is_refusal}
use Rattle.rules_tablet.specs.Feeding.{is_over}
use Rattle.rules_tablet.specs.declared.Report.{Report}
use Rattle.rules_tablet.specs.declared.Report.TheVariants.{More, Finished as AtEnd, Refused as ByNumber}
use Rattle.rules_tablet.specs.declared.Stage.{Stage}
use Rattle.rules_tablet.specs.declared.Stage.TheVariants.{Finished, Refused}
use Rattle.laws_reader.proofs.Stages.{where_met, by_refusal}

-- the number of a report that refuses
abbrev pub number-said : Report → ℕ
number-said More = 0
number-said AtEnd = 0
number-said (ByNumber k) = k

-- whether it is the end
abbrev is_end : Report → Bool
is_end More = false
is_end AtEnd = true
is_end (ByNumber k) = false

-- the stage of a report that refuses
pub stage_refused : (s : Stage) (m : ℕ) → report_of s ≡ ByNumber m → s ≡ Refused m
stage_refused s m e = by_refusal (λ x. report_of x ≡ ByNumber m → x ≡ Refused m) (λ k r. ap Refused (ap number-said r)) s (ap is_refusal e) e

-- of one that ends
pub stage_ended : (s : Stage) → report_of s ≡ AtEnd → s ≡ Finished
stage_ended s e =
    where_met (λ x. is_end (report_of x)) (λ x. x ≡ Finished)
    (tt, tt, λ next. tt, tt, λ k. tt, λ k. tt, λ i. tt, λ i. tt, tt, tt, tt, tt, tt, λ next left. tt, tt, refl, λ k. tt) s (ap is_end e)

-- of one that goes on
pub stage_going : (s : Stage) → report_of s ≡ More → is_over s ≡ false
stage_going s e = ap (λ r. not (is_more r)) e

-- and the report of a stage that is not over
pub report_going : (s : Stage) → is_over s ≡ false → report_of s ≡ More
report_going s e = go (report_of s) e
  where
    go : (r : Report) → not (is_more r) ≡ false → r ≡ More
    go More e = refl
    go AtEnd e = absurd (true≢false e)
    go (ByNumber k) e = absurd (true≢false e)
