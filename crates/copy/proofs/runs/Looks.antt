-- What a position is to runs, by where it stands.
-- Assumes nothing.
use Prim.Native.Nat.{ℕ, suc, ◌+◌, ◌≤◌, ◌<◌}
use native.Mathlib.Nat.{add-zero}
use native.Mathlib.Omega.{arith}
use mathlib.Core.Path.{◌≡◌, refl, ap}
use mathlib.Core.Bool.{false, or-true}
use mathlib.Core.List.{List, [], ◌∷◌}
use lib.Dec.{leb, ltb, eqb}
use lib.ListN.{length, drop, drop_of_length-le}
use borrow.Author.Tests.{leb-true, leb-false, ltb-true, ltb-false, eqb-true, eqb-false, le-leb, lt-leb, lt-ltb, le-ltb, eq-eqb, ne_eqb}
use Rattle.rules_server.specs.declared.Run.{Run}
use Rattle.rules_tablet.specs.Runs.{member, WellFormed, insert}
use Rattle.laws_runs.proofs.Lies.{on_cond, lies-before, lies-behind}
use Rattle.laws_runs.proofs.Members.{not-before, head-member}
use Rattle.laws_runs.proofs.Insert.{join_count}
use Rattle.copy.specs.Lists.{add_run}
use Rattle.copy.proofs.runs.Fronts.{at, front_next}
use Rattle.copy.specs.declared.runs.Standing.{Standing}
use Rattle.copy.specs.declared.runs.Kind.TheVariants.{InRun, BehindRun, BeforeRun, Apart}
use Rattle.copy.specs.Looks.{found, onward, first_held, look_at, Stands, Gap}

-- the cases of a position among runs
look_cases : (P : Standing → Type 0) (n p : ℕ) (r : Run) (rs : List Run)
    → (suc p < r.first → P (found Apart 0 r.first))
    → (suc p ≡ r.first → P (found BeforeRun 0 r.first))
    → (r.first ≤ p → p ≤ r.last → P (found InRun 0 r.last))
    → (r.first ≤ p → p ≡ suc r.last → P (found BehindRun 0 (first_held n rs)))
    → (r.first ≤ p → suc r.last < p → P (onward (look_at n p rs)))
    → P (look_at n p (r ∷ rs))
look_cases P n p r rs apart touches inside follows behind =
    on_cond P (ltb (suc p) r.first) _ _ (λ e. apart (ltb-true _ _ e)) (λ e.
    let a = ltb-false (suc p) r.first e in
    on_cond P (ltb p r.first) _ _ (λ f. let b = ltb-true p r.first f in touches (omega arith)) (λ f.
    let b = ltb-false p r.first f in
    on_cond P (leb p r.last) _ _ (λ g. inside b (leb-true _ _ g)) (λ g.
    let c = leb-false p r.last g in
    on_cond P (eqb p (suc r.last)) _ _ (λ k. follows b (eqb-true _ _ k)) (λ k.
    let d = eqb-false p (suc r.last) k in
    behind b (omega arith)))))

-- to insert a position behind a run and apart from it is to insert it into those behind
insert-behind : (p : ℕ) (r : Run) (rs : List Run) → r.first ≤ p → suc r.last < p → insert p (r ∷ rs) ≡ r ∷ insert p rs
insert-behind p r rs a b =
    rw (le-ltb (suc p) r.first (omega arith), le-ltb p r.first a, lt-leb p r.last (omega arith), ne_eqb p (suc r.last) (λ e. omega arith))

-- and so for a run
add-behind : (p b : ℕ) (r : Run) (rs : List Run) → r.first ≤ p → suc r.last < p → add_run p b (r ∷ rs) ≡ r ∷ add_run p b rs
add-behind p b r rs u v = rw (le-ltb p r.first u, ne_eqb p (suc r.last) (λ e. omega arith))

-- what p is to the runs
pub look_stands : (n p : ℕ) (rs : List Run) → Stands p rs (look_at n p rs)
look_stands n p [] = record {
  reach = λ e. (cc);
  held = λ e. (cc);
  within = λ e. (cc);
  place = omega arith;
  follows = λ e. (cc);
  before = λ e b. refl;
  alone = λ e. refl;
  more = λ e. refl;
  few = λ e. (cc);
  next = λ e. (cc);
}
look_stands n p (r ∷ rs) =
    look_cases (Stands p (r ∷ rs)) n p r rs
    (λ a. record {
      reach = λ e. (cc);
      held = λ e. (cc);
      within = λ e. (cc);
      place = omega arith;
      follows = λ e. (cc);
      before = λ e b. rw (lt-ltb p r.first (omega arith));
      alone = λ e. rw (lt-ltb (suc p) r.first a, lt-ltb p r.first (omega arith), ne_eqb r.first (suc p) (λ f. omega arith));
      more = λ e. rw (lt-ltb (suc p) r.first a);
      few = λ e. (cc);
      next = λ e. (cc);
    })
    (λ a. record {
      reach = λ e. (cc);
      held = λ e. (cc);
      within = λ e. (cc);
      place = omega arith;
      follows = λ e. (cc);
      before = λ e b. rw (lt-ltb p r.first (omega arith));
      alone = λ e. rw (le-ltb (suc p) r.first (omega arith), lt-ltb p r.first (omega arith), eq-eqb r.first (suc p) (omega arith));
      more = λ e. (cc);
      few = λ e. rw (le-ltb (suc p) r.first (omega arith), lt-ltb p r.first (omega arith)) (omega arith);
      next = λ e. omega arith;
    })
    (λ a b. record {
      reach = λ e. b;
      held = λ e q x y. head-member q r rs (omega arith) y;
      within = λ e. (cc);
      place = omega arith;
      follows = λ e. (cc);
      before = λ e. (cc);
      alone = λ e. (cc);
      more = λ e. (cc);
      few = λ e. rw (le-ltb (suc p) r.first (omega arith), le-ltb p r.first a, le-leb p r.last b) (omega arith);
      next = λ e. (cc);
    })
    (λ a b. record {
      reach = λ e. (cc);
      held = λ e. (cc);
      within = λ e. omega arith;
      place = omega arith;
      follows = λ e c. rw (le-ltb p r.first a, eq-eqb p (suc r.last) b);
      before = λ e. (cc);
      alone = λ e. rw (le-ltb (suc p) r.first (omega arith), le-ltb p r.first a, lt-leb p r.last (omega arith), eq-eqb p (suc r.last) b);
      more = λ e. (cc);
      few = λ e.
          rw (le-ltb (suc p) r.first (omega arith), le-ltb p r.first a, lt-leb p r.last (omega arith), eq-eqb p (suc r.last) b)
          (join_count r.first p rs);
      next = λ e. (cc);
    })
    (λ a b.
    let s = look_stands n p rs in
    let w = look_at n p rs in
    record {
      reach = s.reach;
      held = λ e q x y. rw (s.held e q x y, or-true);
      within = λ e. omega (arith, s.within e);
      place = omega (arith, s.place);
      follows = λ e c. rw (add-behind p c r rs a b, s.follows e c);
      before = λ e c. rw (add-behind p c r rs a b, s.before e c);
      alone = λ e. rw (insert-behind p r rs a b, add-behind p p r rs a b, s.alone e);
      more = λ e. rw (insert-behind p r rs a b) (omega (arith, s.more e));
      few = λ e. rw (insert-behind p r rs a b) (omega (arith, s.few e));
      next = s.next;
    })

-- before the first of well-formed runs there is no member
before_first : (lo n q : ℕ) (rs : List Run) → WellFormed lo n rs → q < first_held n rs → member q rs ≡ false
before_first lo n q [] h u = refl
before_first lo n q (r ∷ rs) h u = rw (lies-before q r u) (not-before _ n q rs h.3 (omega arith))

-- the first of well-formed runs begins at lo or behind it, and below n
first_bounds : (lo n : ℕ) (rs : List Run) → WellFormed lo n rs → lo ≤ n → (lo ≤ first_held n rs) × (first_held n rs ≤ n)
first_bounds lo n [] h u = (u, omega arith)
first_bounds lo n (r ∷ rs) h u = (h.0, omega arith)

-- what p is to well-formed runs
pub look_gap : (lo n p : ℕ) (rs : List Run) → WellFormed lo n rs → Gap n p rs (look_at n p rs)
look_gap lo n p [] h = record { below = λ e. (cc); some = λ e u. u; to = λ e. omega arith; free = λ e q x y. refl }
look_gap lo n p (r ∷ rs) h =
    look_cases (Gap n p (r ∷ rs)) n p r rs
    (λ a. record { below = λ e. (cc); some = λ e u. omega arith; to = λ e. omega arith; free = λ e q x y. before_first lo n q (r ∷ rs) h y })
    (λ a. record { below = λ e. (cc); some = λ e u. omega arith; to = λ e. omega arith; free = λ e q x y. before_first lo n q (r ∷ rs) h y })
    (λ a b. record { below = λ e. h.2; some = λ e. (cc); to = λ e. (cc); free = λ e. (cc) })
    (λ a b. record {
      below = λ e. (cc);
      some = λ e u. behind rs h.3 u b;
      to = λ e. ends rs h.3;
      free = λ e q x y. rw (lies-behind q r (omega arith)) (before_first _ n q rs h.3 y);
    })
    (λ a b.
    let g = look_gap _ n p rs h.3 in
    record { below = g.below; some = g.some; to = g.to; free = λ e q x y. rw (lies-behind q r (omega arith)) (g.free e q x y) })
  where
    behind : (rs : List Run) → WellFormed (suc (suc r.last)) n rs → p < n → p ≡ suc r.last → p < first_held n rs
    behind [] h u e = u
    behind (q ∷ qs) h u e = omega arith

    ends : (rs : List Run) → WellFormed (suc (suc r.last)) n rs → first_held n rs ≤ n
    ends [] h = omega arith
    ends (q ∷ qs) h = omega arith

-- the same, i runs further on
abbrev pub further : ℕ → Standing → Standing
further i w = found w.kind (i + w.index) w.end

-- where p stands, it stands i runs further on than among the runs from i on
abbrev pub Looked : List Run → ℕ → ℕ → ℕ → Type 0
Looked rs n p i = look_at n p rs ≡ further i (look_at n p (drop i rs))

-- from the first run on these are all
pub looked_from : (rs : List Run) (n p : ℕ) → Looked rs n p 0
looked_from rs n p = let w = look_at n p rs in ap (λ (j : ℕ). found w.kind j w.end) (omega arith)

-- one run more
further_on : (i : ℕ) (w : Standing) → further i (onward w) ≡ further (i + 1) w
further_on i w = ap (λ (j : ℕ). found w.kind j w.end) (omega arith)

module _ (rs : List Run) (n p i : ℕ) (h : i < length rs) (w : Looked rs n p i) where
  -- p lies before the run at i and does not touch it
  pub stands_apart : suc p < (at rs i).first → look_at n p rs ≡ found Apart i (at rs i).first
  stands_apart a = rw (w, front_next rs i h, lt-ltb (suc p) (at rs i).first a, add-zero)

  -- p lies before the run at i and touches it
  pub stands_before : suc p ≡ (at rs i).first → look_at n p rs ≡ found BeforeRun i (at rs i).first
  stands_before a = rw (w, front_next rs i h, le-ltb (suc p) (at rs i).first (omega arith), lt-ltb p (at rs i).first (omega arith), add-zero)

  module _ (a : (at rs i).first ≤ p) where
    -- p lies in the run at i
    pub stands_in : p ≤ (at rs i).last → look_at n p rs ≡ found InRun i (at rs i).last
    stands_in b = rw (
      w,
      front_next rs i h,
      le-ltb (suc p) (at rs i).first (omega arith),
      le-ltb p (at rs i).first a,
      le-leb p (at rs i).last b,
      add-zero,
    )

    -- p lies behind the run at i and touches it
    pub stands_behind : p ≡ suc (at rs i).last → look_at n p rs ≡ found BehindRun i (first_held n (drop (i + 1) rs))
    stands_behind b =
        rw (
          w,
          front_next rs i h,
          le-ltb (suc p) (at rs i).first (omega arith),
          le-ltb p (at rs i).first a,
          lt-leb p (at rs i).last (omega arith),
          eq-eqb p (suc (at rs i).last) b,
          add-zero,
        )

    -- p lies further on
    pub stands_on : suc (at rs i).last < p → Looked rs n p (i + 1)
    stands_on b =
        rw (
          w,
          front_next rs i h,
          le-ltb (suc p) (at rs i).first (omega arith),
          le-ltb p (at rs i).first a,
          lt-leb p (at rs i).last (omega arith),
          ne_eqb p (suc (at rs i).last) (λ f. omega arith),
        )
        (further_on i (look_at n p (drop (i + 1) rs)))

-- p lies behind all runs
pub stands_last : (rs : List Run) (n p i : ℕ) → length rs ≤ i → Looked rs n p i → look_at n p rs ≡ found Apart i n
stands_last rs n p i h w = rw (w, drop_of_length-le rs h, add-zero)
