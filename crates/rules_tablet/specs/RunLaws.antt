-- What holds of sets of positions and their maximal runs: the laws that the tablet end's theorems rest on.
use Rattle.std.specs.Prelude.{ℕ, suc, ◌≤◌, ◌<◌, ◌≡◌, Bool, true, not, ◌||◌, List, eqb, length}
use Rattle.rules_server.specs.declared.Run.{Run}
use Rattle.rules_tablet.specs.Runs.{member, WellFormed, well_formed, insert, holes, maximal_runs, with}

pub record RunLaws : Type 0 where
  -- the test is the rule
  pub test_true : (lo n : ℕ) (rs : List Run) → well_formed lo n rs ≡ true → WellFormed lo n rs
  pub true_test : (lo n : ℕ) (rs : List Run) → WellFormed lo n rs → well_formed lo n rs ≡ true
  -- one position more keeps the rule, and adds just that position
  pub insert_formed : (n p : ℕ) (rs : List Run) → p < n → WellFormed 0 n rs → WellFormed 0 n (insert p rs)
  pub insert_member : (n p q : ℕ) (rs : List Run) → WellFormed 0 n rs → member q (insert p rs) ≡ (eqb q p || member q rs)
  -- a member that is inserted changes nothing
  pub insert_same : (n p : ℕ) (rs : List Run) → WellFormed 0 n rs → member p rs ≡ true → insert p rs ≡ rs
  -- members lie below n
  pub member_below : (n p : ℕ) (rs : List Run) → WellFormed 0 n rs → member p rs ≡ true → p < n
  -- runs with the same members are the same
  pub unique : (n : ℕ) (rs qs : List Run) → WellFormed 0 n rs → WellFormed 0 n qs → ((p : ℕ) → p < n → member p rs ≡ member p qs) → rs ≡ qs
  -- the maximal runs of a set
  pub scan_formed : (n : ℕ) (set : ℕ → Bool) → WellFormed 0 n (maximal_runs n set)
  pub scan_member : (n : ℕ) (set : ℕ → Bool) (p : ℕ) → p < n → member p (maximal_runs n set) ≡ set p
  -- runs are the maximal runs of their members
  pub scan_is : (n : ℕ) (rs : List Run) → WellFormed 0 n rs → maximal_runs n (λ p. member p rs) ≡ rs
  -- the maximal runs with one position more
  pub scan_insert : (n p : ℕ) (set : ℕ → Bool) → p < n → maximal_runs n (with p set) ≡ insert p (maximal_runs n set)
  -- equal sets have equal runs
  pub scan_same : (n : ℕ) (set other : ℕ → Bool) → ((p : ℕ) → p < n → set p ≡ other p) → maximal_runs n set ≡ maximal_runs n other
  -- the holes are the runs of what is missing
  pub holes_formed : (n : ℕ) (rs : List Run) → WellFormed 0 n rs → WellFormed 0 n (holes n rs)
  pub holes_member : (n p : ℕ) (rs : List Run) → WellFormed 0 n rs → p < n → member p (holes n rs) ≡ not (member p rs)
  -- there are at most as many holes as runs, and one more
  pub holes_count : (n : ℕ) (rs : List Run) → WellFormed 0 n rs → length (holes n rs) ≤ suc (length rs)
  -- a position more is at most a run more, and none where the position before or behind it is held
  pub insert_count : (n p : ℕ) (rs : List Run) → WellFormed 0 n rs → length (insert p rs) ≤ suc (length rs)
  pub insert_next : (n p : ℕ) (rs : List Run) → WellFormed 0 n rs → member p rs ≡ true → length (insert (suc p) rs) ≤ length rs
  pub insert_before : (n p : ℕ) (rs : List Run) → WellFormed 0 n rs → member (suc p) rs ≡ true → length (insert p rs) ≤ length rs
