-- Where a position stands among runs.
use Rattle.std.specs.Prelude.{ℕ, suc, ◌≤◌, ◌<◌, ◌≡◌, Bool, true, false, not, ◌&&◌, cond, List, [], ◌∷◌, ◌++◌, leb, ltb, eqb, length, map, get_or, take, drop}
use Rattle.rules_server.specs.declared.Run.{Run}
use Rattle.rules_tablet.specs.Runs.{run, member, join_next, insert}
use Rattle.copy.specs.Lists.{add_run}
use Rattle.copy.specs.declared.runs.Kind.{Kind}
use Rattle.copy.specs.declared.runs.Kind.TheVariants.{InRun, BehindRun, BeforeRun, Apart}
use Rattle.copy.specs.declared.runs.Standing.{Standing}

-- ---- how a position stands to a run

-- it is not held
abbrev pub is_free : Kind → Bool
is_free InRun = false
is_free BehindRun = true
is_free BeforeRun = true
is_free Apart = true

-- it is not held, and follows no run
abbrev pub follows_none : Kind → Bool
follows_none InRun = false
follows_none BehindRun = false
follows_none BeforeRun = true
follows_none Apart = true

-- it is held
abbrev pub is_held : Kind → Bool
is_held k = not (is_free k)

-- it follows a run
abbrev pub is_behind : Kind → Bool
is_behind k = is_free k && not (follows_none k)

-- it touches no run, and lies in none
abbrev pub is_apart : Kind → Bool
is_apart InRun = false
is_apart BehindRun = false
is_apart BeforeRun = false
is_apart Apart = true

-- ---- the kinds by number

-- in the run at `index`
abbrev pub in_run : ℕ
in_run = 0

-- straight behind the last position of the run at `index`
abbrev pub behind_run : ℕ
behind_run = 1

-- straight before the first position of the run at `index`
abbrev pub before_run : ℕ
before_run = 2

-- apart from all runs, before the run at `index`
abbrev pub apart_from_runs : ℕ
apart_from_runs = 3

abbrev pub number_of : Kind → ℕ
number_of InRun = in_run
number_of BehindRun = behind_run
number_of BeforeRun = before_run
number_of Apart = apart_from_runs

-- the kind that a number stands for: a number of no kind stands for apart
abbrev pub kind_of : ℕ → Kind
kind_of k = cond (eqb k in_run) InRun (cond (eqb k behind_run) BehindRun (cond (eqb k before_run) BeforeRun Apart))

-- the kinds of the numbers 0 to 4
abbrev pub KindsListed : Type 0
KindsListed = map kind_of (0 ∷ 1 ∷ 2 ∷ 3 ∷ 4 ∷ []) ≡ InRun ∷ BehindRun ∷ BeforeRun ∷ Apart ∷ Apart ∷ []

-- the number of a kind stands for that kind
abbrev pub KindsNumbered : Type 0
KindsNumbered = (k : Kind) → kind_of (number_of k) ≡ k

-- ---- where a position stands

abbrev pub found : Kind → ℕ → ℕ → Standing
found k i e = record { kind = k; index = i; end = e }

-- the same, one run further on
abbrev pub onward : Standing → Standing
onward w = found w.kind (suc w.index) w.end

-- where the first of the runs begins, n where there is none
abbrev pub first_held : ℕ → List Run → ℕ
first_held n [] = n
first_held n (r ∷ rs) = r.first

-- where p stands: it is inserted by the same tests
abbrev pub look_at : ℕ → ℕ → List Run → Standing
look_at n p [] = found Apart 0 n
look_at n p (r ∷ rs) =
    cond (ltb (suc p) r.first) (found Apart 0 r.first)
    (cond (ltb p r.first) (found BeforeRun 0 r.first)
    (cond (leb p r.last) (found InRun 0 r.last)
    (cond (eqb p (suc r.last)) (found BehindRun 0 (first_held n rs))
    (onward (look_at n p rs)))))

-- the run at i
abbrev pub run_at : List Run → ℕ → Run
run_at rs i = get_or rs i (run 0 0)

-- what p is to the runs, by where it stands
pub record Stands (p : ℕ) (rs : List Run) (w : Standing) : Type 0 where
  pub reach : w.kind ≡ InRun → p ≤ w.end
  pub held : w.kind ≡ InRun → (q : ℕ) → p ≤ q → q ≤ w.end → member q rs ≡ true
  pub within : w.kind ≡ BehindRun → w.index < length rs
  pub place : w.index ≤ length rs
  pub follows : w.kind ≡ BehindRun → (b : ℕ) → add_run p b rs ≡ take w.index rs ++ join_next (run_at rs w.index).first b (drop (suc w.index) rs)
  pub before : follows_none w.kind ≡ true → (b : ℕ) → add_run p b rs ≡ take w.index rs ++ join_next p b (drop w.index rs)
  pub alone : is_free w.kind ≡ true → insert p rs ≡ add_run p p rs
  pub more : w.kind ≡ Apart → length (insert p rs) ≡ suc (length rs)
  pub few : is_apart w.kind ≡ false → length (insert p rs) ≤ length rs
  pub next : w.kind ≡ BeforeRun → w.end ≡ suc p

-- and where the runs are well-formed below n
pub record Gap (n p : ℕ) (rs : List Run) (w : Standing) : Type 0 where
  pub below : w.kind ≡ InRun → w.end < n
  pub some : is_free w.kind ≡ true → p < n → p < w.end
  pub to : is_free w.kind ≡ true → w.end ≤ n
  pub free : is_free w.kind ≡ true → (q : ℕ) → p ≤ q → q < w.end → member q rs ≡ false
