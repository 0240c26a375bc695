-- The judgement at a part's empty line: the parser's number is that of the first fault, and a part without one is announced.
use Prim.Native.Nat.{ℕ, zero, suc, ◌+◌, ◌≤◌, ◌<◌}
use mathlib.Core.Path.{◌≡◌, refl, sym, ap, subst, ◌∙◌}
use mathlib.Core.Logic.{inr}
use mathlib.Core.Bool.{Bool, true, false, cond, not, ◌||◌, true≢false}
use mathlib.Core.List.{List, [], ◌∷◌}
use Rattle.std.specs.Prelude.{Option, None, Some}
use native.Mathlib.Omega.{arith}
use lib.Dec.{eqb, leb}
use lib.ListN.{length}
use borrow.Author.Tests.{eqb-true, lt-leb, leb-true, leb-false}
use Rattle.rules_tablet.specs.Fields.{range, range_field, is_wrong, is_foreign, first_of}
use Rattle.rules_tablet.specs.Heads.{has_range, span_of}
use Rattle.rules_tablet.specs.Parsers.{Parser, refuse, part_end}
use Rattle.rules_tablet.specs.declared.RangeField.{RangeField}
use Rattle.rules_tablet.specs.declared.RangeField.TheVariants.{Absent}
use Rattle.rules_tablet.specs.declared.Stage.TheVariants.{Data}
use Rattle.rules_tablet.specs.declared.Head.{Head}
use Rattle.rules_demands.specs.AcceptanceGrammar.{lookup, PartLines}
use Rattle.laws_reader.proofs.own_answers.Multipart.{in_body}
use Rattle.laws_refusals.proofs.acceptance.Fields.{said_or, count-none, some-count}
use Rattle.rules_demands.specs.RefusalLines.{this, not_this}
use Rattle.rules_demands.specs.RefusalParts.{PartHeading, needed, CountFault, WrongPart, ForeignPart, Unfit, PartFault}
use Rattle.laws_refusals.proofs.refusals.Decides.{Decides, Says, by_test, or_decides, renamed, none-says, first_says}
use Rattle.laws_refusals.proofs.refusals.Judging.{no_range_decides}
use Rattle.laws_refusals.proofs.refusals.Fields.{none-count}
use Rattle.laws_refusals.proofs.refusals.PartFields.{part_said, in_part}

-- the range that the lines of a part said
abbrev range_said : List (List ℕ) → RangeField
range_said fs = said_or Absent range_field (lookup range fs)

-- no line
nil_decides : (fs : List (List ℕ)) → Decides (eqb (length fs) 0) (fs ≡ [])
nil_decides [] = record { yes = λ e. refl; sure = λ e. refl }
nil_decides (f ∷ fs) = record {
  yes = λ e. let z = eqb-true (length (f ∷ fs)) 0 e in absurd (omega arith);
  sure = λ e. let z = ap length e in
      absurd (omega arith);
}

-- "15 for line counts"
count_decides : (fs : List (List ℕ)) → Decides (eqb (length fs) 0 || not (has_range (range_said fs))) (CountFault fs)
count_decides fs =
    or_decides (eqb (length fs) 0) (not (has_range (range_said fs))) (nil_decides fs)
    (renamed (not (has_range (range_said fs))) (no_range_decides (lookup range fs)) (none-count range fs) (count-none range fs))

-- a range is found where the counts are right
by_range : {A : Type 0} (fs : List (List ℕ)) → (CountFault fs → ⊥) → ((v : List ℕ) → lookup range fs ≡ Some v → A) → A
by_range {A} fs c f = go (lookup range fs) refl
  where
    go : (o : Option (List ℕ)) → lookup range fs ≡ o → A
    go None e = absurd (c (inr (none-count range fs e)))
    go (Some v) e = f v e

-- the range that is found is the one that the lines said
said_is : (fs : List (List ℕ)) (v : List ℕ) → lookup range fs ≡ Some v → range_said fs ≡ range_field v
said_is fs v e = ap (said_or Absent range_field) e

-- 14
wrong_decides : (n : ℕ) (fs : List (List ℕ)) → (CountFault fs → ⊥) → Decides (is_wrong n (range_said fs)) (WrongPart n fs)
wrong_decides n fs c =
    record {
      yes = λ t. by_range fs c (λ v e. record { value = v; found = e; wrong = subst (λ (r : RangeField). is_wrong n r ≡ true) (said_is fs v e) t });
      sure = λ w. ap (is_wrong n) (said_is fs w.value w.found) ∙ w.wrong;
    }

-- 13
foreign_decides : (n : ℕ) (fs : List (List ℕ)) → (CountFault fs → ⊥) → Decides (is_foreign n (range_said fs)) (ForeignPart n fs)
foreign_decides n fs c =
    record {
      yes = λ t. by_range fs c (λ v e. record { value = v; found = e; foreign = subst (λ (r : RangeField). is_foreign n r ≡ true) (said_is fs v e) t });
      sure = λ w. ap (is_foreign n) (said_is fs w.value w.found) ∙ w.foreign;
    }

-- what must still fit does not
over_decides : (need k z before : ℕ) → z ≡ before + k → Decides (not (leb need k)) (z < before + need)
over_decides need k z before e = record { yes = yes; sure = λ h. rw (lt-leb need k (omega arith)) }
  where
    yes : not (leb need k) ≡ true → z < before + need
    yes t = by_test (leb need k) (λ f. absurd (true≢false (sym (rw f at t)))) (λ f. let g = leb-false need k f in omega arith)

-- "15 for fit"
unfit_decides : (b : List ℕ) (fs : List (List ℕ)) (k z before : ℕ) → z ≡ before + k → (CountFault fs → ⊥)
    → Decides (not (leb (span_of (range_said fs) + 2 + (length b + 4)) k)) (Unfit b z before fs)
unfit_decides b fs k z before e c =
    renamed (not (leb (span_of (range_said fs) + 2 + (length b + 4)) k)) (over_decides (span_of (range_said fs) + 2 + (length b + 4)) k z before e)
    (λ h. by_range fs c (λ v f. record {
      value = v;
      found = f;
      unfit = subst (λ (r : RangeField). z < before + (span_of r + 2 + (length b + 4))) (said_is fs v f) h;
    }))
    (λ u. subst (λ (r : RangeField). z < before + (span_of r + 2 + (length b + 4))) (sym (said_is fs u.value u.found)) u.unfit)

-- the number at a part's empty line, 0 where there is none; k bytes of the body come after its LF
abbrev pub part_number : ℕ → List ℕ → List (List ℕ) → ℕ → ℕ
part_number n b fs k =
    cond (eqb (length fs) 0 || not (has_range (range_said fs))) 15
    (cond (is_wrong n (range_said fs)) 14 (cond (is_foreign n (range_said fs)) 13 (cond (not (leb (span_of (range_said fs) + 2 + (length b + 4)) k)) 15 0)))

-- it is that of the first fault
pub part_says : (n : ℕ) (b : List ℕ) (fs : List (List ℕ)) (k z before : ℕ) → z ≡ before + k → Says (part_number n b fs k) (PartFault n b z before fs)
part_says n b fs k z before e =
    let need = span_of (range_said fs) + 2 + (length b + 4) in
    let r15 = cond {A = ℕ} (not (leb need k)) 15 0 in
    let r13 = cond {A = ℕ} (is_foreign n (range_said fs)) 13 r15 in
    let r14 = cond {A = ℕ} (is_wrong n (range_said fs)) 14 r13 in
    first_says (eqb (length fs) 0 || not (has_range (range_said fs))) 15 r14 (count_decides fs)
    (λ c. first_says (is_wrong n (range_said fs)) 14 r13 (wrong_decides n fs c)
    (λ w. first_says (is_foreign n (range_said fs)) 13 r15 (foreign_decides n fs c)
    (λ f. first_says (not (leb need k)) 15 0 (unfit_decides b fs k z before e c) (λ u. none-says))))

-- a number is not 0
pub part_fault_some : (n : ℕ) (b : List ℕ) (z before : ℕ) (fs : List (List ℕ)) → PartFault n b z before fs 0 → ⊥
part_fault_some n b z before fs (this a e) = omega arith
part_fault_some n b z before fs (not_this a (this c e)) = omega arith
part_fault_some n b z before fs (not_this a (not_this c (this d e))) = omega arith
part_fault_some n b z before fs (not_this a (not_this c (not_this d (this e f)))) = omega arith
part_fault_some n b z before fs (not_this a (not_this c (not_this d (not_this e f)))) = f

-- what an empty line that is not refused says
pub record PartRight (n : ℕ) (b : List ℕ) (z before : ℕ) (fs : List (List ℕ)) : Type 0 where
  pub value : List ℕ
  pub lines : PartLines n fs value
  pub fit : before + needed b value ≤ z

-- a test that does not hold
off : (t : Bool) → (t ≡ true → ⊥) → t ≡ false
off true f = absurd (f refl)
off false f = refl

-- lines without a fault
pub part_right : (n : ℕ) (b : List ℕ) (z before : ℕ) (fs : List (List ℕ)) → PartHeading fs → ((k : ℕ) → PartFault n b z before fs k → ⊥)
    → PartRight n b z before fs
part_right n b z before fs h none-holds = by_range fs counts right
  where
    counts : CountFault fs → ⊥
    counts c = none-holds 15 (this c refl)

    wrong : WrongPart n fs → ⊥
    wrong w = none-holds 14 (not_this counts (this w refl))

    foreign : ForeignPart n fs → ⊥
    foreign f = none-holds 13 (not_this counts (not_this wrong (this f refl)))

    unfit : Unfit b z before fs → ⊥
    unfit u = none-holds 15 (not_this counts (not_this wrong (not_this foreign (this u refl))))

    right : (v : List ℕ) → lookup range fs ≡ Some v → PartRight n b z before fs
    right v e =
        let one = some-count range fs v e in
        record {
          value = v;
          lines = record {
            lines = h.lines;
            few = h.few;
            one_range = omega (arith, one, h.one_range);
            has_range_line = e;
            right = off (is_wrong n (range_field v)) (λ t. wrong (record { value = v; found = e; wrong = t }));
            ours = off (is_foreign n (range_field v)) (λ t. foreign (record { value = v; found = e; foreign = t }));
          };
          fit = by_test (leb (before + needed b v) z) (λ t. leb-true (before + needed b v) z t)
              (λ t. absurd (unfit (record { value = v; found = e; unfit = leb-false (before + needed b v) z t })));
        }

module _ (n : ℕ) (h : Head) (t b : List ℕ) where
  -- what the parser makes of the number
  abbrev pub ruled : List (List ℕ) → ℕ → ℕ → Parser
  ruled fs k zero = in_body (Data (first_of (range_said fs)) (span_of (range_said fs))) k (part_said fs) h t b
  ruled fs k (suc m) = refuse (suc m) (in_part h t b fs k [] true)

  -- so it is
  pub part_end_is : (fs : List (List ℕ)) (k : ℕ) → part_end n (in_part h t b fs k [] true) ≡ ruled fs k (part_number n b fs k)
  unfolding part_end
  part_end_is fs k =
      go (eqb (length fs) 0 || not (has_range (range_said fs))) (is_wrong n (range_said fs)) (is_foreign n (range_said fs))
      (leb (span_of (range_said fs) + 2 + (length b + 4)) k)
    where
      go : (c w f u : Bool) → cond c (refuse 15 (in_part h t b fs k [] true))
          (cond w (refuse 14 (in_part h t b fs k [] true)) (cond f (refuse 13 (in_part h t b fs k [] true))
          (cond u (in_body (Data (first_of (range_said fs)) (span_of (range_said fs))) k (part_said fs) h t b) (refuse 15 (in_part h t b fs k [] true)))))
          ≡ ruled fs k (cond c 15 (cond w 14 (cond f 13 (cond (not u) 15 0))))
      go true w f u = refl
      go false true f u = refl
      go false false true u = refl
      go false false false true = refl
      go false false false false = refl
