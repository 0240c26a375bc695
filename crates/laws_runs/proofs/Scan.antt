-- The maximal runs of a set of positions.
-- Assumes nothing.
use Prim.Native.Nat.{ℕ, zero, suc, ◌+◌, ◌≤◌, ◌<◌}
use native.Mathlib.Omega.{arith}
use mathlib.Core.Path.{◌≡◌, refl, sym, ◌∙◌}
use mathlib.Core.Bool.{Bool, ◌||◌}
use mathlib.Core.List.{List, [], ◌∷◌}
use Rattle.rules_server.specs.declared.Run.{Run}
use Rattle.rules_tablet.specs.Runs.{run, lies, member, WellFormed, join_next, insert, extend, maximal_runs_from, maximal_runs, with}
use Rattle.laws_runs.proofs.Lies.{on_cond, below_or, lies_in_lem, lies-behind}
use Rattle.laws_runs.proofs.Members.{not-before, unique}
use Rattle.laws_runs.proofs.Insert.{join_formed, join_member, insert_formed, insert_member}

-- a position in front is a run of one, joined with the next where they touch
extend_join : (p : ℕ) (rs : List Run) → extend p rs ≡ join_next p p rs
extend_join p [] = refl
extend_join p (r ∷ rs) = refl

-- the runs of k positions from p on keep the rule
pub scan_formed_from : (lo n : ℕ) (set : ℕ → Bool) (p k : ℕ) → lo ≤ p → p + k ≤ n → WellFormed lo n (maximal_runs_from set p k)
scan_formed_from lo n set p zero l u = tt
scan_formed_from lo n set p (suc k) l u =
    let later = maximal_runs_from set (suc p) k in
    on_cond (WellFormed lo n) (set p) (extend p later) later
    (λ e.
    rw (extend_join p later)
    (join_formed lo n p p later l (omega arith) (omega arith) (scan_formed_from (suc p) n set (suc p) k (omega arith) (omega arith))))
    (λ e. scan_formed_from lo n set (suc p) k (omega arith) (omega arith))

-- the maximal runs of a set keep the rule
pub scan_formed : (n : ℕ) (set : ℕ → Bool) → WellFormed 0 n (maximal_runs n set)
scan_formed n set = scan_formed_from 0 n set 0 n (omega arith) (omega arith)

-- the first of the positions from p on, and the others
module _ (set : ℕ → Bool) (p k : ℕ) where
  -- the others keep the rule
  later_formed : WellFormed (suc p) (suc p + k) (maximal_runs_from set (suc p) k)
  later_formed = scan_formed_from (suc p) (suc p + k) set (suc p) k (omega arith) (omega arith)

  -- p in front of the others is one member more
  extend-member : (q : ℕ) → member q (extend p (maximal_runs_from set (suc p) k)) ≡ (lies q (run p p) || member q (maximal_runs_from set (suc p) k))
  extend-member q =
      rw (extend_join p (maximal_runs_from set (suc p) k))
      (join_member (suc p + k) p p q (maximal_runs_from set (suc p) k) (omega arith) later_formed)

  -- a position behind p is a member where it is one of the others
  step_later : (q : ℕ) → p < q → member q (maximal_runs_from set p (suc k)) ≡ member q (maximal_runs_from set (suc p) k)
  step_later q l =
      on_cond (λ rs. member q rs ≡ member q (maximal_runs_from set (suc p) k)) (set p) _ _
      (λ e. rw (extend-member q, lies-behind q (run p p) l))
      (λ e. refl)

  -- p is a member where it is in the set
  step_own : member p (maximal_runs_from set p (suc k)) ≡ set p
  step_own =
      on_cond (λ rs. member p rs ≡ set p) (set p) _ _
      (λ e. rw (extend-member p, lies_in_lem p (run p p) (omega arith) (omega arith)) (sym e))
      (λ e. not-before (suc p) (suc p + k) p (maximal_runs_from set (suc p) k) later_formed (omega arith) ∙ sym e)

-- the members of the runs of k positions are those of the set
pub scan_member-from : (set : ℕ → Bool) (p k q : ℕ) → p ≤ q → q < p + k → member q (maximal_runs_from set p k) ≡ set q
scan_member-from set p zero q l u = absurd (omega arith)
scan_member-from set p (suc k) q l u =
    below_or p q
    (λ m. step_later set p k q m ∙ scan_member-from set (suc p) k q m (omega arith))
    (λ m. let e : q ≡ p = omega arith in rw e (step_own set p k))

-- the members of the maximal runs are those of the set
pub scan_member : (n : ℕ) (set : ℕ → Bool) (p : ℕ) → p < n → member p (maximal_runs n set) ≡ set p
scan_member n set p u = scan_member-from set 0 n p (omega arith) (omega arith)

-- runs are the maximal runs of their members
pub scan_is : (n : ℕ) (rs : List Run) → WellFormed 0 n rs → maximal_runs n (λ p. member p rs) ≡ rs
scan_is n rs h = unique n (maximal_runs n (λ p. member p rs)) rs (scan_formed n _) h (λ p u. scan_member n _ p u)

-- the maximal runs with one position more
pub scan_insert : (n p : ℕ) (set : ℕ → Bool) → p < n → maximal_runs n (with p set) ≡ insert p (maximal_runs n set)
scan_insert n p set u =
    unique n (maximal_runs n (with p set)) (insert p (maximal_runs n set)) (scan_formed n _) (insert_formed n p (maximal_runs n set) u (scan_formed n set))
    (λ q l. rw (scan_member n (with p set) q l, insert_member n p q (maximal_runs n set) (scan_formed n set), scan_member n set q l))

-- equal sets have equal runs
pub scan_same : (n : ℕ) (set other : ℕ → Bool) → ((p : ℕ) → p < n → set p ≡ other p) → maximal_runs n set ≡ maximal_runs n other
scan_same n set other s =
    unique n (maximal_runs n set) (maximal_runs n other) (scan_formed n set) (scan_formed n other)
    (λ p u. scan_member n set p u ∙ s p u ∙ sym (scan_member n other p u))
