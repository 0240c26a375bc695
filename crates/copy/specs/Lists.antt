-- What a list of runs means, and a whole span of positions added at once.
use Rattle.std.specs.Prelude.{ℕ, suc, ◌+◌, ◌≤◌, ◌<◌, ◌≡◌, false, cond, List, [], ◌∷◌, leb, ltb, eqb, length, take, drop}
use Rattle.rules_server.specs.declared.Run.{Run}
use Rattle.rules_tablet.specs.Limits.{max_runs}
use Rattle.rules_tablet.specs.Runs.{run, member, join_next}
use Rattle.copy.specs.declared.runs.RunList.{RunList}

-- the runs of a list; the places behind them are unused
abbrev pub runs_in : RunList → List Run
runs_in l = take l.count l.runs

abbrev pub unused : RunList → List Run
unused l = drop l.count l.runs

-- how many runs a list has, and its array's length
pub record Sized (l : RunList) (n : ℕ) : Type 0 where
  pub is : n ≡ length (runs_in l)
  pub within : n ≤ max_runs
  pub whole : length l.runs ≡ max_runs
  pub runs : take n l.runs ≡ runs_in l
  pub unused : drop n l.runs ≡ unused l

-- the runs with the run a to b, which lies in a hole, joined with those that it touches
abbrev pub add_run : ℕ → ℕ → List Run → List Run
add_run a b [] = run a b ∷ []
add_run a b (r ∷ rs) =
    cond (ltb a r.first) (join_next a b (r ∷ rs))
    (cond (eqb a (suc r.last)) (join_next r.first b rs)
    (r ∷ add_run a b rs))

-- the runs `more` where there is room for them, else the runs `rs`
abbrev pub in_room : List Run → List Run → List Run
in_room more rs = cond (leb (length more) max_runs) more rs

-- no position from a to b is a member
abbrev pub Free : ℕ → ℕ → List Run → Type 0
Free a b rs = (q : ℕ) → a ≤ q → q ≤ b → member q rs ≡ false

-- the k positions from p on, at least one, lie below n, and none of them is a member
pub record Missing (n p k : ℕ) (rs : List Run) : Type 0 where
  pub some : 1 ≤ k
  pub below : p + k ≤ n
  pub free : (q : ℕ) → p ≤ q → q < p + k → member q rs ≡ false
