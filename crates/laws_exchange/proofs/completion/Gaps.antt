-- The holes of a set: what lies next to them is in the set, and which are left once the first of them are filled.
use Prim.Native.Nat.{ℕ, zero, suc, ◌≤◌, ◌<◌}
use native.Mathlib.Omega.{arith}
use mathlib.Core.Path.{◌≡◌, refl, sym, ◌∙◌, ap}
use mathlib.Core.Bool.{Bool, true, false, not, ◌&&◌, ◌||◌, and-false}
use mathlib.Core.List.{List, [], ◌∷◌}
use lib.ListN.{take, drop}
use borrow.Author.Tests.{not-false}
use Rattle.rules_server.specs.declared.Run.{Run}
use Rattle.rules_tablet.specs.Runs.{lies, member, WellFormed, holes, maximal_runs}
use Rattle.rules_demands.specs.Positions.{Each}
use Rattle.laws_server.proofs.Runs.{each_both, each_map}
use Rattle.laws_runs.proofs.Lies.{below_or, lies-behind}
use Rattle.laws_runs.proofs.Members.{formed_from, not-before, gap_member, unique}
use Rattle.laws_runs.proofs.Scan.{scan_formed, scan_member}
use Rattle.laws_runs.proofs.Holes.{holes_formed, holes_member}
use Rattle.rules_demands.specs.Demand3Arrivals.{Set}
use Rattle.laws_exchange.proofs.completion.Fill.{with-runs, runs-held, Edged}

-- a run that begins at lo or later, below n
record From (lo n : ℕ) (r : Run) : Type 0 where
  start : lo ≤ r.first
  ordered : r.first ≤ r.last
  inside : r.last < n

-- each of well-formed runs is one
formed_each : (lo n : ℕ) (rs : List Run) → WellFormed lo n rs → Each (From lo n) rs
formed_each lo n [] w = tt
formed_each lo n (r ∷ rs) w = (
  record { start = w.0; ordered = w.1; inside = w.2 },
  each_map rs (λ q h. record { start = omega arith; ordered = h.ordered; inside = h.inside })
      (formed_each _ n rs w.3),
)

-- the positions next to a run are in none of the runs
record Alone (rs : List Run) (r : Run) : Type 0 where
  before : (p : ℕ) → suc p ≡ r.first → member p rs ≡ false
  behind : member (suc r.last) rs ≡ false

-- so it is for each of well-formed runs
formed_alone : (lo n : ℕ) (rs : List Run) → WellFormed lo n rs → Each (Alone rs) rs
formed_alone lo n [] w = tt
formed_alone lo n (r ∷ rs) w = (
  record {
    before = λ p e. not-before r.first n p (r ∷ rs) (omega arith, w.1, w.2, w.3) (omega arith);
    behind = gap_member lo n r rs w;
  },
  each_both rs
      (λ q h a. record {
        before = λ p e. rw (lies-behind p r (omega arith)) (a.before p e);
        behind = rw (lies-behind (suc q.last) r (omega arith)) a.behind;
      })
      (formed_each _ n rs w.3) (formed_alone _ n rs w.3),
)

-- a front of well-formed runs
pub take_formed : (lo n k : ℕ) (rs : List Run) → WellFormed lo n rs → WellFormed lo n (take k rs)
take_formed lo n zero rs w = tt
take_formed lo n (suc k) [] w = tt
take_formed lo n (suc k) (r ∷ rs) w = (w.0, w.1, w.2, take_formed _ n k rs w.3)

-- what is behind it
drop_formed : (lo n k : ℕ) (rs : List Run) → WellFormed lo n rs → WellFormed lo n (drop k rs)
drop_formed lo n zero rs w = w
drop_formed lo n (suc k) [] w = tt
drop_formed lo n (suc k) (r ∷ rs) w = formed_from (suc (suc r.last)) lo n (drop k rs) (omega arith) (drop_formed _ n k rs w.3)

-- a property of each run of a front
pub each_take : (P : Run → Type 0) (k : ℕ) (rs : List Run) → Each P rs → Each P (take k rs)
each_take P zero rs h = tt
each_take P (suc k) [] h = tt
each_take P (suc k) (r ∷ rs) h = (h.0, each_take P k rs h.1)

-- the positions behind a front are those that the front does not have
drop-member : (lo n k q : ℕ) (rs : List Run) → WellFormed lo n rs → member q (drop k rs) ≡ (not (member q (take k rs)) && member q rs)
drop-member lo n zero q rs w = refl
drop-member lo n (suc k) q [] w = refl
drop-member lo n (suc k) q (r ∷ rs) w =
    below_or r.last q
    (λ l. rw (lies-behind q r l) (drop-member _ n k q rs w.3))
    (λ l. none (lies q r) (not-before _ n q rs w.3 (omega arith)) (not-before _ n q (drop k rs) (drop_formed _ n k rs w.3) (omega arith)))
  where
    -- a position that neither the others nor those behind the front have
    none : (b : Bool) → member q rs ≡ false → member q (drop k rs) ≡ false → member q (drop k rs) ≡ (not (b || member q (take k rs)) && (b || member q rs))
    none true e f = f
    none false e f = rw (f, e, and-false)

-- neither of two tests
not_either : (a b : Bool) → not (a || b) ≡ (not a && not b)
not_either true b = refl
not_either false b = refl

module _ (n : ℕ) (set : Set) where
  -- the holes of the set
  abbrev pub missing : List Run
  missing = holes n (maximal_runs n set)

  -- they are well-formed
  pub missing_formed : WellFormed 0 n missing
  missing_formed = holes_formed n (maximal_runs n set) (scan_formed n set)

  -- and have the positions that the set does not have
  pub missing_member : (q : ℕ) → q < n → member q missing ≡ not (set q)
  missing_member q l = holes_member n q (maximal_runs n set) (scan_formed n set) l ∙ ap not (scan_member n set q l)

  -- what lies next to a hole is in the set
  pub missing_edged : Each (Edged n set) missing
  missing_edged =
      each_both missing
      (λ r h a. record {
        before = λ p e. not-false (set p) (sym (missing_member p (omega arith)) ∙ a.before p e);
        behind = λ l. not-false (set (suc r.last)) (sym (missing_member (suc r.last) l) ∙ a.behind);
      })
      (formed_each 0 n missing missing_formed) (formed_alone 0 n missing missing_formed)

-- once the first k holes are filled, the others are left
pub holes-left : (n k : ℕ) (set : Set) → missing n (with-runs (take k (missing n set)) set) ≡ drop k (missing n set)
holes-left n k set =
    let hs = missing n set in
    let front = take k hs in
    unique n (missing n (with-runs front set)) (drop k hs) (missing_formed n (with-runs front set)) (drop_formed 0 n k hs (missing_formed n set))
    (λ q l.
    missing_member n (with-runs front set) q l
    ∙ ap not (runs-held 0 n q front set (take_formed 0 n k hs (missing_formed n set)) l)
    ∙ not_either (member q front) (set q)
    ∙ ap (λ (b : Bool). not (member q front) && b) (sym (missing_member n set q l))
    ∙ sym (drop-member 0 n k q hs (missing_formed n set)))
