-- The year that two digits mean is the latest that puts the date at most 50 years after the reference time.
-- Assumes nothing.
use Prim.Native.Nat.{ℕ, ◌+◌, ◌-◌, ◌%◌, ◌≤◌, ◌<◌}
use mathlib.Core.Path.{◌≡◌, refl, sym, subst, ◌∙◌}
use mathlib.Core.Logic.{◌⊎◌, inl, inr}
use mathlib.Core.Bool.{Bool, true, false, cond, ◌&&◌, or-true, false≢true}
use mathlib.Core.List.{List, [], ◌∷◌}
use native.Mathlib.Omega.{arith}
use lib.Dec.{ltb, eqb}
use lib.ListN.{length}
use borrow.Author.Tests.{ltb-true, eqb-true, lt-ltb, eq-eqb}
use Rattle.rules_server.specs.Calendar.{fields_of}
use Rattle.rules_server.specs.Dates.{not_above, with_year, is_within50_years, in_last_century, chosen_year}
use Rattle.rules_server.specs.declared.Date.{Date}
use Rattle.rules_demands.specs.DateCalendar.{Earlier}
use Rattle.rules_demands.specs.GrammarDate.{AtMost50YearsAfter, LatestYear}
use Rattle.laws_dates.proofs.calendar.Cases.{below_or}
use Rattle.laws_dates.proofs.texts.Tests.{and_left, and_right, or_cases}

-- fields that are not above others are earlier, or the same
not-later : (a b : List ℕ) → length a ≡ length b → not_above a b ≡ true → Earlier a b ⊎ (a ≡ b)
not-later [] [] l e = inr refl
not-later [] (y ∷ b) l e = absurd (omega arith)
not-later (x ∷ a) [] l e = absurd (omega arith)
not-later (x ∷ a) (y ∷ b) l e = first (or_cases (ltb x y) (eqb x y && not_above a b) e) (not-later a b (omega arith))
  where
    rest : x ≡ y → Earlier a b ⊎ (a ≡ b) → Earlier (x ∷ a) (y ∷ b) ⊎ (x ∷ a ≡ y ∷ b)
    rest q (inl h) = inl (inr (q, h))
    rest q (inr h) = inr (cc)

    first : (ltb x y ≡ true) ⊎ ((eqb x y && not_above a b) ≡ true) → (not_above a b ≡ true → Earlier a b ⊎ (a ≡ b))
        → Earlier (x ∷ a) (y ∷ b) ⊎ (x ∷ a ≡ y ∷ b)
    first (inl h) r = inl (inl (ltb-true x y h))
    first (inr h) r = rest (eqb-true x y (and_left (eqb x y) (not_above a b) h)) (r (and_right (eqb x y) (not_above a b) h))

-- the same fields are not above
same-fields : (a : List ℕ) → not_above a a ≡ true
same-fields [] = refl
same-fields (x ∷ a) = rw (eq-eqb x x refl, same-fields a) (or-true (ltb x x))

-- earlier fields are not above
earlier-fields : (a b : List ℕ) → Earlier a b → not_above a b ≡ true
earlier-fields [] b h = absurd h
earlier-fields (x ∷ a) [] h = absurd h
earlier-fields (x ∷ a) (y ∷ b) (inl h) = rw (lt-ltb x y h)
earlier-fields (x ∷ a) (y ∷ b) (inr h) = rw (eq-eqb x y h.0, earlier-fields a b h.1) (or-true (ltb x y))

module _ (r d : Date) where
  -- a date that the test finds within the 50 years is at most 50 years after the reference time
  within-near : is_within50_years r d ≡ true → AtMost50YearsAfter r d
  unfolding is_within50_years
  within-near e = not-later (fields_of d) (fields_of (with_year (r.year + 50) r)) refl e

  -- the test finds each such date
  near-within : AtMost50YearsAfter r d → is_within50_years r d ≡ true
  unfolding is_within50_years
  near-within (inl h) = earlier-fields (fields_of d) (fields_of (with_year (r.year + 50) r)) h
  near-within (inr h) = subst (λ (l : List ℕ). not_above (fields_of d) l ≡ true) h (same-fields (fields_of d))

  -- its year is at most 50 after that of the reference time
  near_year : AtMost50YearsAfter r d → d.year ≤ r.year + 50
  near_year (inl (inl h)) = omega arith
  near_year (inl (inr h)) = omega arith
  near_year (inr h) = let e : d.year ≡ r.year + 50 = cc in omega arith

-- the year that ends in the two digits of d, in the century of the last year that may be
abbrev last : Date → Date → ℕ
last r d = in_last_century r d.year

module _ (r d : Date) (old : 50 ≤ r.year) (digits : d.year < 100) where
  -- the chosen year ends in the two digits
  chosen_digits : chosen_year r d % 100 ≡ d.year
  unfolding chosen_year
  chosen_digits = go (is_within50_years r (with_year (last r d) d))
    where
      go : (b : Bool) → cond b (last r d) (last r d - 100) % 100 ≡ d.year
      go true = omega arith
      go false = omega arith

  -- it is the latest that may be
  pub chosen_latest : LatestYear r (with_year (chosen_year r d) d)
  unfolding chosen_year
  chosen_latest = go (is_within50_years r (with_year (last r d) d)) refl
    where
      no_later : is_within50_years r (with_year (last r d) d) ≡ false → (y : ℕ) → y % 100 ≡ (last r d - 100) % 100
          → AtMost50YearsAfter r (with_year y d) → last r d - 100 < y → ⊥
      no_later e y same n g =
          let h = near_year r (with_year y d) n in
          let q : y ≡ last r d = omega arith in
          false≢true (sym e ∙ near-within r (with_year (last r d) d) (subst (λ (z : ℕ). AtMost50YearsAfter r (with_year z d)) q n))

      go : (b : Bool) → is_within50_years r (with_year (last r d) d) ≡ b → LatestYear r (with_year (cond b (last r d) (last r d - 100)) d)
      go true e = record {
        near = within-near r (with_year (last r d) d) e;
        latest = λ y same n. let h = near_year r (with_year y d) n in omega arith;
      }
      go false e = record {
        near = inl (inl (omega arith));
        latest = λ y same n. below_or (last r d - 100) y (λ g. absurd (no_later e y same n g)) (λ g. g);
      }

-- the latest year that ends in its two digits is the chosen one
pub latest_chosen : (r e : Date) → 50 ≤ r.year → LatestYear r e → chosen_year r (with_year (e.year % 100) e) ≡ e.year
latest_chosen r e old h =
    let d : Date = with_year (e.year % 100) e in
    let small : d.year < 100 = omega arith in
    let c : LatestYear r (with_year (chosen_year r d) d) = chosen_latest r d old small in
    let digits : chosen_year r d % 100 ≡ e.year % 100 = chosen_digits r d old small in
    let below : chosen_year r d ≤ e.year = h.latest (chosen_year r d) digits c.near in
    let above : e.year ≤ chosen_year r d = c.latest e.year (sym digits) h.near in
    omega arith
