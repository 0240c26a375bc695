-- What is read in each form is a date that there is, and the value is its text; and the text of such a date is read as it.
-- Assumes nothing.
use Prim.Native.Nat.{ℕ, ◌-◌, ◌%◌, ◌≤◌}
use mathlib.Core.Path.{◌≡◌, refl, ap, subst, ◌∙◌}
use mathlib.Core.Logic.{◌⊎◌, inl, inr}
use mathlib.Core.Bool.{Bool, true, false, cond, ◌&&◌, ◌||◌, or-true}
use mathlib.Core.List.{List}
use Rattle.std.specs.Prelude.{None, Some}
use native.Mathlib.Omega.{arith}
use lib.Dec.{eqb}
use lib.ListN.{length, drop}
use borrow.Author.Tests.{ne_eqb}
use Rattle.rules_server.specs.Octets.{same}
use Rattle.rules_server.specs.Calendar.{is_valid}
use Rattle.rules_server.specs.Dates.{two_digits, spaced_day, fixdate_text, rfc850_text, asctime_text, fixdate_fields, rfc850_fields, asctime_fields}
use Rattle.rules_server.specs.Dates.{with_year, chosen_year, if_text, read_fixdate, read_asctime, read_rfc850, read_form}
use Rattle.rules_server.specs.declared.Date.{Date}
use Rattle.rules_demands.specs.GrammarDate.{LatestYear, DateText, fixdate, rfc850, asctime}
use Rattle.laws_dates.proofs.calendar.Valid.{bounds}
use Rattle.laws_dates.proofs.texts.Tests.{and_left, and_right, or_cases, same_equal, same_itself}
use Rattle.laws_dates.proofs.texts.Digits.{two_small, four-small}
use Rattle.laws_dates.proofs.texts.Centuries.{chosen_latest, latest_chosen}
use Rattle.laws_dates.proofs.texts.Fields.{fixdate_fields_lem, fixdate_length, rfc850_fields_lem, rfc850_length, InAsctime, asctime_spaced, asctime_digits}

-- the fields x are those of a date d that there is and that passes a test
record ReadBy (test : Date → Bool) (x d : Date) : Type 0 where
  fields : x ≡ d
  valid : is_valid d ≡ true
  passes : test d ≡ true

-- so it is where d is read
read_by : (test : Date → Bool) (x d : Date) → if_text (test x) x ≡ Some d → ReadBy test x d
read_by test x d h = go (is_valid x && test x) refl h
  where
    go : (b : Bool) → (is_valid x && test x) ≡ b → cond b (Some x) None ≡ Some d → ReadBy test x d
    go true e h =
        let q : x ≡ d = cc in
        record {
          fields = q;
          valid = rw q at (and_left (is_valid x) (test x) e);
          passes = rw q at (and_right (is_valid x) (test x) e);
        }
    go false e h = let z : ◌≡◌ {A = ℕ} 0 1 = cc in absurd (omega arith)

-- and where it is so, d is read
reads : (test : Date → Bool) (x d : Date) → x ≡ d → is_valid d ≡ true → test d ≡ true → if_text (test x) x ≡ Some d
reads test x d q v t = rw (q, v, t)

-- what is read as an IMF-fixdate, as an asctime-date and as an rfc850-date
fixdate_read : (r d : Date) (v : List ℕ) → read_fixdate v ≡ Some d → (is_valid d ≡ true) × DateText r d v
unfolding read_fixdate
fixdate_read r d v h =
    let g = read_by (λ x. same v (fixdate_text x)) (fixdate_fields v) d h in
    (g.valid, fixdate (subst (λ (x : Date). x.year ≤ 9999) g.fields (four-small (drop 12 v))) (same_equal v (fixdate_text d) g.passes))

asctime_read : (r d : Date) (v : List ℕ) → read_asctime v ≡ Some d → (is_valid d ≡ true) × DateText r d v
unfolding read_asctime
asctime_read r d v h =
    let g = read_by (λ x. same v (asctime_text (spaced_day x.day) x) || same v (asctime_text (two_digits x.day) x)) (asctime_fields v) d h in
    (g.valid, asctime (subst (λ (x : Date). x.year ≤ 9999) g.fields (four-small (drop 20 v))) (text (or_cases _ _ g.passes)))
  where
    text : (same v (asctime_text (spaced_day d.day) d) ≡ true) ⊎ (same v (asctime_text (two_digits d.day) d) ≡ true)
        → (v ≡ asctime_text (spaced_day d.day) d) ⊎ (v ≡ asctime_text (two_digits d.day) d)
    text (inl e) = inl (same_equal v _ e)
    text (inr e) = inr (same_equal v _ e)

module _ (r : Date) (old : 50 ≤ r.year) where
  rfc850_read : (d : Date) (v : List ℕ) → read_rfc850 r v ≡ Some d → (is_valid d ≡ true) × DateText r d v
  unfolding read_rfc850
  rfc850_read d v h =
      let x : Date = rfc850_fields (drop (length v - 22) v) in
      let g = read_by (λ x. same v (rfc850_text x)) (with_year (chosen_year r x) x) d h in
      let l : LatestYear r (with_year (chosen_year r x) x) = chosen_latest r x old (two_small (drop 7 (drop (length v - 22) v))) in
      (g.valid, rfc850 (subst (LatestYear r) g.fields l) (same_equal v (rfc850_text d) g.passes))

  -- a value that is read is the text of the date
  pub read_text_lem : (d : Date) (v : List ℕ) → read_form r v ≡ Some d → (is_valid d ≡ true) × DateText r d v
  unfolding read_form
  read_text_lem d v h = go (eqb (length v) 29) (eqb (length v) 24) h
    where
      go : (b c : Bool) → cond b (read_fixdate v) (cond c (read_asctime v) (read_rfc850 r v)) ≡ Some d → (is_valid d ≡ true) × DateText r d v
      go true c h = fixdate_read r d v h
      go false true h = asctime_read r d v h
      go false false h = rfc850_read d v h

  -- the form goes by the length
  form_29 : (v : List ℕ) → length v ≡ 29 → read_form r v ≡ read_fixdate v
  unfolding read_form
  form_29 v e = rw e

  form_24 : (v : List ℕ) → length v ≡ 24 → read_form r v ≡ read_asctime v
  unfolding read_form
  form_24 v e = rw e

  form_30 : (v : List ℕ) → 30 ≤ length v → read_form r v ≡ read_rfc850 r v
  unfolding read_form
  form_30 v h = rw (ne_eqb (length v) 29 (λ e. omega arith), ne_eqb (length v) 24 (λ e. omega arith))

  module _ (d : Date) (valid : is_valid d ≡ true) where
    -- each form of a date's text
    fixdate_back : d.year ≤ 9999 → read_form r (fixdate_text d) ≡ Some d
    unfolding read_fixdate
    fixdate_back y = form_29 (fixdate_text d) (fixdate_length d (bounds d valid)) ∙ read
      where
        read : read_fixdate (fixdate_text d) ≡ Some d
        read = reads (λ x. same (fixdate_text d) (fixdate_text x)) _ d (fixdate_fields_lem d (bounds d valid) y) valid (same_itself (fixdate_text d))

    asctime_back : (day : List ℕ) → InAsctime d day
        → (same (asctime_text day d) (asctime_text (spaced_day d.day) d) || same (asctime_text day d) (asctime_text (two_digits d.day) d)) ≡ true
        → read_form r (asctime_text day d) ≡ Some d
    unfolding read_asctime
    asctime_back day a t = form_24 (asctime_text day d) a.length ∙ read
      where
        read : read_asctime (asctime_text day d) ≡ Some d
        read =
            reads (λ x. same (asctime_text day d) (asctime_text (spaced_day x.day) x) || same (asctime_text day d) (asctime_text (two_digits x.day) x)) _ d
            a.fields valid t

    rfc850_back : LatestYear r d → read_form r (rfc850_text d) ≡ Some d
    unfolding read_rfc850
    rfc850_back l = form_30 (rfc850_text d) (rfc850_length d (bounds d valid)) ∙ read
      where
        fields : (x : Date) → x ≡ with_year (d.year % 100) d → with_year (chosen_year r x) x ≡ d
        fields x e = rw e (ap (λ (y : ℕ). with_year y d) (latest_chosen r d old l))

        read : read_rfc850 r (rfc850_text d) ≡ Some d
        read =
            reads (λ x. same (rfc850_text d) (rfc850_text x)) _ d (fields _ (rfc850_fields_lem d (bounds d valid))) valid (same_itself (rfc850_text d))

    -- the text of a date that there is, is read as the date
    pub text_read : (v : List ℕ) → DateText r d v → read_form r v ≡ Some d
    text_read v (fixdate y e) = rw e (fixdate_back y)
    text_read v (rfc850 l e) = rw e (rfc850_back l)
    text_read v (asctime y (inl e)) = rw e (asctime_back _ (asctime_spaced d (bounds d valid) y) (rw (same_itself (asctime_text (spaced_day d.day) d))))
    text_read v (asctime y (inr e)) =
        rw e (asctime_back _ (asctime_digits d (bounds d valid) y) (rw (same_itself (asctime_text (two_digits d.day) d), or-true)))
