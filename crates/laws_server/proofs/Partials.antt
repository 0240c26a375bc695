-- The parts of a 206 and its body, for specs of which none is backward and some is satisfiable, and a file that is not empty.
-- Assumes nothing.
use Prim.Native.Nat.{ℕ, suc, ◌≤◌, ◌<◌}
use native.Mathlib.Omega.{arith}
use mathlib.Core.Path.{◌≡◌, refl, subst}
use mathlib.Core.Logic.{inl, inr, ⊎_elim}
use mathlib.Core.Bool.{Bool, true, false, cond, ◌||◌, false≢true}
use mathlib.Core.List.{List, [], ◌∷◌, Memᴰ}
use lib.ListN.{length}
use Rattle.rules_server.specs.Limits.{merge_gap}
use Rattle.rules_server.specs.Ranges.{ByteSpec, invalid, satisfiable, any_spec}
use Rattle.rules_server.specs.Status.{Resource}
use Rattle.rules_server.specs.Parts.{gather, spec_runs, run_of, parts_of}
use Rattle.rules_server.specs.Answers.{partial_answer}
use Rattle.rules_server.specs.declared.Run.{Run}
use Rattle.rules_demands.specs.Positions.{Asked, positions, times, Each, Pairs, RunIn, Separate, EarliestAt, Covers}
use Rattle.rules_demands.specs.Demand2Server.{Carries, Parted}
use Rattle.laws_server.proofs.Runs.{Apart, each_map, each_both, pairs-map, closed_gather, proper_hull, gather-apart}
use Rattle.laws_server.proofs.Covering.{gather_covered, gather_covers}
use Rattle.laws_server.proofs.Asking.{runs_in_lem, asked_covered, covered_asked}
use Rattle.laws_server.proofs.Starting.{starting}
use Rattle.laws_server.proofs.Earliest.{earliest, Made, made_all, earliest_starting, behind_free}
use Rattle.laws_server.proofs.Places.{at_earliest, earliest_is}
use Rattle.laws_server.proofs.Cells.{body_covered, covered_body, body_once, partial-positions, partial_right}

-- the runs of the specs, placed one after the other
abbrev pub gathered : ℕ → List ByteSpec → List Run
gathered n ss = gather merge_gap (spec_runs n ss) []

-- they are the parts
pub parts_gathered : (n : ℕ) (ss : List ByteSpec) → parts_of n ss ≡ gathered n ss
unfolding parts_of
parts_gathered n ss = refl

-- runs with a position between them are separate
apart_separate : (r q : Run) → Apart merge_gap r q → Separate r q
apart_separate r q (inl a) = inl (omega arith)
apart_separate r q (inr a) = inr (omega arith)

-- where some spec is satisfiable, the runs cover a position
runs-some : (n : ℕ) (ss : List ByteSpec) → Each (RunIn n) (spec_runs n ss) → any_spec (satisfiable n) ss ≡ true → (p : ℕ) × Covers p (spec_runs n ss)
runs-some n [] o e = absurd (false≢true e)
runs-some n (s ∷ ss) o e = go (satisfiable n s) o e (runs-some n ss)
  where
    go : (b : Bool) → Each (RunIn n) (cond b (run_of n s ∷ spec_runs n ss) (spec_runs n ss)) → (b || any_spec (satisfiable n) ss) ≡ true
        → (Each (RunIn n) (spec_runs n ss) → any_spec (satisfiable n) ss ≡ true → (p : ℕ) × Covers p (spec_runs n ss))
        → (p : ℕ) × Covers p (cond b (run_of n s ∷ spec_runs n ss) (spec_runs n ss))
    go true o e rest = ((run_of n s).first, inl (omega arith, o.0.ordered))
    go false o e rest = rest o e

module _ (n : ℕ) (ss : List ByteSpec) (large : 0 < n) (forward : any_spec invalid ss ≡ false) where
  -- the specs' runs lie in the file
  runs_proper : Each (RunIn n) (spec_runs n ss)
  runs_proper = runs_in_lem n ss large forward

  -- each part lies in the file
  pub parts_in : Each (RunIn n) (gathered n ss)
  parts_in = closed_gather (RunIn n) merge_gap (proper_hull merge_gap n) (spec_runs n ss) [] runs_proper tt

  -- between two parts lies a position
  pub parts-apart : Pairs (Apart merge_gap) (gathered n ss)
  parts-apart = gather-apart merge_gap n (spec_runs n ss) [] runs_proper tt tt

  -- so they are separate
  pub parts_separate : Pairs Separate (gathered n ss)
  parts_separate = pairs-map (gathered n ss) (λ r q _ _. apart_separate r q) parts_in parts-apart

  -- the parts cover only what is asked for
  pub parts_asked : (p : ℕ) → Covers p (gathered n ss) → Asked n ss p
  parts_asked p c = covered_asked n p ss large (⊎_elim (λ h. h) absurd (gather_covered p (spec_runs n ss) [] c))

  -- and all of it
  pub asked_parts_lem : (p : ℕ) → Asked n ss p → Covers p (gathered n ss)
  asked_parts_lem p a = gather_covers merge_gap p (spec_runs n ss) [] (inl (asked_covered n p a.spec ss a.is_listed a.asks))

  -- the earliest spec inside a part is the first that begins in it
  parts_earliest : Each (λ (r : Run). earliest n r ss ≡ starting n r ss) (gathered n ss)
  parts_earliest =
      each_map (gathered n ss)
      (λ r h. earliest_starting n r ss runs_proper (λ c. h (gather_covers merge_gap (suc r.last) (spec_runs n ss) [] (inl c))))
      (behind_free n (gathered n ss) parts_in parts-apart)

  -- the parts are made of all the specs
  parts_made : Made n ss (length ss) (gathered n ss)
  parts_made = made_all n ss [] ss [] refl runs_proper (record { reach = λ x l. absurd (omega arith); bounded = tt; ordered = tt })

  -- a spec lies inside each part
  pub parts_inside : Each (λ (r : Run). (i : ℕ) × EarliestAt n r ss i) (gathered n ss)
  parts_inside = each_both (gathered n ss) (λ r e b. (earliest n r ss, at_earliest n large r ss forward (omega arith))) parts_earliest parts_made.bounded

  -- and the parts stand in the order of the earliest
  pub parts-ordered : Pairs (λ (r s : Run). (i j : ℕ) → EarliestAt n r ss i → EarliestAt n s ss j → i < j) (gathered n ss)
  parts-ordered =
      pairs-map (gathered n ss)
      (λ r s e g l i j a b. let x = earliest_is n large r ss i forward a in let y = earliest_is n large s ss j forward b in omega arith)
      parts_earliest parts_made.ordered

  -- where some spec is satisfiable, there is a part
  pub parts-some : any_spec (satisfiable n) ss ≡ true → gathered n ss ≡ [] → ⊥
  parts-some e z = let c = runs-some n ss runs_proper e in subst (Covers c.0) z (gather_covers merge_gap c.0 (spec_runs n ss) [] (inl c.1))

  -- the parts are maximal runs, in their order
  pub parted : any_spec (satisfiable n) ss ≡ true → Parted n ss (gathered n ss)
  parted e =
      record {
        some = parts-some e;
        runs = parts_in;
        separate = parts_separate;
        covers = λ p. (parts_asked p, asked_parts_lem p);
        inside = parts_inside;
        ordered = parts-ordered;
      }

module _ (f : Resource) (ss : List ByteSpec) (large : 0 < length f.file) (forward : any_spec invalid ss ≡ false) where
  -- the body carries only what is asked for
  pub body_asked : (p : ℕ) → Memᴰ p (positions (partial_answer f (gathered (length f.file) ss)).body) → Asked (length f.file) ss p
  body_asked p m =
      parts_asked (length f.file) ss large forward p
      (body_covered f p (gathered (length f.file) ss) (parts_in (length f.file) ss large forward) (rw partial-positions at m))

  -- and all of it
  pub asked_body : (p : ℕ) → Asked (length f.file) ss p → Memᴰ p (positions (partial_answer f (gathered (length f.file) ss)).body)
  asked_body p a =
      rw partial-positions
      (covered_body f p (gathered (length f.file) ss) (parts_in (length f.file) ss large forward) (asked_parts_lem (length f.file) ss large forward p a))

  -- each position once
  pub body_times : (p : ℕ) → times p (positions (partial_answer f (gathered (length f.file) ss)).body) ≤ 1
  body_times p =
      rw partial-positions
      (body_once f p (gathered (length f.file) ss) (parts_in (length f.file) ss large forward) (parts-apart (length f.file) ss large forward))

  -- and with the file's byte
  pub carries : Carries f.file ss (partial_answer f (gathered (length f.file) ss)).body
  carries =
      record {
        asked = body_asked;
        sent = asked_body;
        once = body_times;
        right = λ p b m. partial_right f p b (gathered (length f.file) ss) m;
      }
