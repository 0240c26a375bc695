-- A run put into a list of runs, and what the steps say to one another.
use Rattle.std.specs.Prelude.{ℕ, suc, ◌≤◌, ◌≡◌, true, cond, List, ◌++◌, leb, ltb, eqb, length, take, drop}
use Rattle.rules_server.specs.declared.Run.{Run}
use Rattle.rules_tablet.specs.Limits.{max_runs}
use Rattle.rules_tablet.specs.Runs.{join_next}
use Rattle.rules_tablet.specs.Copies.{all_blank}
use Rattle.copy.specs.Lists.{runs_in, unused, in_room}
use Rattle.copy.specs.Looks.{found, kind_of, behind_run, is_behind, run_at}
use Rattle.copy.specs.declared.runs.RunList.{RunList}
use Rattle.copy.specs.declared.runs.Standing.{Standing}

-- the runs with the one at i made to end at b, joined with the next where they touch
abbrev pub lengthened : ℕ → ℕ → List Run → List Run
lengthened i b rs = cond (ltb i (length rs)) (take i rs ++ join_next (run_at rs i).first b (drop (suc i) rs)) rs

-- the runs with the run p to b put in before the one at i, joined with it where they touch, where there is room
abbrev pub put_in : ℕ → ℕ → ℕ → List Run → List Run
put_in i p b rs = cond (leb i (length rs)) (in_room (take i rs ++ join_next p b (drop i rs)) rs) rs

-- the runs with the positions from p to b, where p stands so
abbrev pub span_at : Standing → ℕ → ℕ → List Run → List Run
span_at w p b rs = cond (is_behind w.kind) (lengthened w.index b rs) (put_in w.index p b rs)

-- the same with the kind given by number: exactly that of behind a run makes a run longer, any other puts one in
abbrev pub SpansByNumber : Type 0
SpansByNumber =
    (k i e p b : ℕ) (rs : List Run) → span_at (found (kind_of k) i e) p b rs ≡ cond (eqb k behind_run) (lengthened i b rs) (put_in i p b rs)

-- the list r has the runs `list`; its unused places are blank where those of l were
pub record Holds (l : RunList) (list : List Run) (r : RunList) : Type 0 where
  pub room : r.count ≤ max_runs
  pub runs : runs_in r ≡ list
  pub blank : all_blank (unused l) ≡ true → all_blank (unused r) ≡ true

-- the same for an array whose first `count` runs are used
pub record Holding (runs : List Run) (count : ℕ) (list : List Run) (r : RunList) : Type 0 where
  pub room : r.count ≤ max_runs
  pub holds : runs_in r ≡ list
  pub blank : all_blank (drop count runs) ≡ true → all_blank (unused r) ≡ true
