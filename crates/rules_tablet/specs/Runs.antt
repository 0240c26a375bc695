-- Sets of positions as sorted maximal runs: membership, one position more, the holes, and the maximal runs of a set.
use Rattle.std.specs.Prelude.{ℕ, zero, suc, ◌-◌, ◌≤◌, ◌<◌, Bool, true, false, cond, ◌&&◌, ◌||◌, List, [], ◌∷◌, leb, ltb, eqb}
use Rattle.rules_server.specs.declared.Run.{Run}

abbrev pub run : ℕ → ℕ → Run
run a b = record { first = a; last = b }

-- p lies in the run
abbrev pub lies : ℕ → Run → Bool
lies p r = leb r.first p && leb p r.last

-- p lies in one of the runs
abbrev pub member : ℕ → List Run → Bool
member p [] = false
member p (r ∷ rs) = lies p r || member p rs

-- ascending from lo on, each run with first at most last, and at least one position between neighbours; all below n
abbrev pub WellFormed : ℕ → ℕ → List Run → Type 0
WellFormed lo n [] = Unit {0}
WellFormed lo n (r ∷ rs) = (lo ≤ r.first) × (r.first ≤ r.last) × (r.last < n) × WellFormed (suc (suc r.last)) n rs

-- the same as a test
abbrev pub well_formed : ℕ → ℕ → List Run → Bool
well_formed lo n [] = true
well_formed lo n (r ∷ rs) = leb lo r.first && leb r.first r.last && ltb r.last n && well_formed (suc (suc r.last)) n rs

-- the run a to b before the runs that follow it, joined with the next where they touch
abbrev pub join_next : ℕ → ℕ → List Run → List Run
join_next a b [] = run a b ∷ []
join_next a b (r ∷ rs) = cond (eqb r.first (suc b)) (run a r.last ∷ rs) (run a b ∷ r ∷ rs)

-- the runs with position p
abbrev pub insert : ℕ → List Run → List Run
insert p [] = run p p ∷ []
insert p (r ∷ rs) =
    cond (ltb (suc p) r.first) (run p p ∷ r ∷ rs)
    (cond (ltb p r.first) (run p r.last ∷ rs)
    (cond (leb p r.last) (r ∷ rs)
    (cond (eqb p (suc r.last)) (join_next r.first p rs)
    (r ∷ insert p rs))))

-- a hole from a up to b, b not counted, if it has a position
abbrev pub hole : ℕ → ℕ → List Run → List Run
hole a b rest = cond (ltb a b) (run a (b - 1) ∷ rest) rest

-- the positions from a up to n that no run has, as maximal runs, ascending
abbrev pub holes_from : ℕ → ℕ → List Run → List Run
holes_from a n [] = hole a n []
holes_from a n (r ∷ rs) = hole a r.first (holes_from (suc r.last) n rs)

abbrev pub holes : ℕ → List Run → List Run
holes n rs = holes_from 0 n rs

-- the maximal runs of a set of positions, from position p on, k of them looked at
abbrev pub extend : ℕ → List Run → List Run
extend p [] = run p p ∷ []
extend p (r ∷ rs) = cond (eqb r.first (suc p)) (run p r.last ∷ rs) (run p p ∷ r ∷ rs)

abbrev pub maximal_runs_from : (ℕ → Bool) → ℕ → ℕ → List Run
maximal_runs_from set p zero = []
maximal_runs_from set p (suc k) = cond (set p) (extend p (maximal_runs_from set (suc p) k)) (maximal_runs_from set (suc p) k)

-- the maximal runs of a set of positions below n
abbrev pub maximal_runs : ℕ → (ℕ → Bool) → List Run
maximal_runs n set = maximal_runs_from set 0 n

-- a set of positions, with position p
abbrev pub with : ℕ → (ℕ → Bool) → ℕ → Bool
with p set q = eqb q p || set q
