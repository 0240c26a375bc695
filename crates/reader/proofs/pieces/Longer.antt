-- A run that is made longer, in place, or begun behind all: where the next position stands then, and what is stored.
-- Assumes nothing.
use Prim.Native.Nat.{ℕ, zero, suc, ◌+◌, ◌-◌, ◌≤◌, ◌<◌, min}
use native.Mathlib.Numerals.{add-one}
use native.Mathlib.Omega.{arith}
use mathlib.Core.Path.{◌≡◌, refl, sym, ap, ◌∙◌}
use mathlib.Core.Bool.{false}
use Rattle.std.specs.Prelude.{None, Ok}
use mathlib.Core.List.{List, [], ◌∷◌, ◌++◌, append_assoc}
use lib.Dec.{eqb}
use lib.ListN.{length, take, drop, set}
use lib.Seq.{sets, length-take-le, get_or-take, set_split}
use borrow.Author.Tests.{le-ltb, lt-leb, eq-eqb, ne_eqb}
use Rattle.rules_server.specs.declared.Run.{Run}
use Rattle.rules_tablet.specs.Limits.{max_runs}
use Rattle.rules_tablet.specs.Runs.{run, WellFormed, join_next, insert}
use Rattle.laws_runs.proofs.Lies.{below_or}
use Rattle.copy.specs.declared.runs.RunList.{RunList}
use Rattle.copy.specs.declared.runs.Standing.{Standing}
use Rattle.copy.specs.Lists.{runs_in, in_room, Sized}
use Rattle.copy.specs.declared.runs.Kind.TheVariants.{InRun, BehindRun, Apart}
use Rattle.copy.specs.Looks.{is_free, is_apart, found, onward, first_held, look_at, run_at}
use Rattle.copy.proofs.runs.Fronts.{rest, ended}
use Rattle.copy.proofs.runs.Looks.{look_stands, look_gap}
use Rattle.copy.specs.Steps.{Holding}
use Rattle.copy.proofs.insertion.Puts.{put_same, put_more, is_lengthened, is_put_lem}
use Rattle.reader_data.specs.Stretches.{StretchIs}
use Rattle.reader_data.proofs.Laws.{all_stored}
use Rattle.reader.specs.Steps.{DataReady, Follows, Begins, Placed, follows, begins, with}
use Rattle.reader.specs.declared.pieces.RunPlace.{RunPlace}

-- a position behind a run, or apart from all, is not in one
behind_held : BehindRun ≡ InRun → ⊥
behind_held e = cc

apart_held : Apart ≡ InRun → ⊥
apart_held e = cc

-- a run of well-formed runs from lo on ends at lo or behind it
last-from : (lo n : ℕ) (rs : List Run) (i : ℕ) → WellFormed lo n rs → i < length rs → lo ≤ (run_at rs i).last
last-from lo n [] i h u = absurd (omega arith)
last-from lo n (r ∷ rs) zero h u = omega (arith, h.0, h.1)
last-from lo n (r ∷ rs) (suc i) h u = omega (arith, h.0, h.1, last-from (suc (suc r.last)) n rs i h.3 (omega arith))

-- a position right behind a run of well-formed runs stands so
look_behind : (lo n p : ℕ) (rs : List Run) (i : ℕ) → WellFormed lo n rs → i < length rs → p ≡ suc (run_at rs i).last
    → look_at n p rs ≡ found BehindRun i (first_held n (drop (suc i) rs))
look_behind lo n p [] i h u e = absurd (omega arith)
look_behind lo n p (r ∷ rs) zero h u e =
    let f : r.first ≤ r.last = h.1 in
    rw (le-ltb (suc p) r.first (omega arith), le-ltb p r.first (omega arith), lt-leb p r.last (omega arith), eq-eqb p (suc r.last) e)
look_behind lo n p (r ∷ rs) (suc i) h u e =
    let f : r.first ≤ r.last = h.1 in
    let d : suc (suc r.last) ≤ (run_at rs i).last = last-from (suc (suc r.last)) n rs i h.3 (omega arith) in
    rw (
      le-ltb (suc p) r.first (omega arith),
      le-ltb p r.first (omega arith),
      lt-leb p r.last (omega arith),
      ne_eqb p (suc r.last)
          (λ x. omega arith),
    )
    (ap onward (look_behind (suc (suc r.last)) n p rs i h.3 (omega arith) e))

-- all that is offered is stored
offered_is : (most len n next k : ℕ) → k ≡ min most len → next + most ≤ n → min (min most len) (n - next) ≡ k
offered_is most len n next k e f =
    let a : k ≤ most = omega arith in
    rw (← e) (omega arith)

-- as far as the next run
stored_is : (o k end next : ℕ) → o ≡ k → next + k ≤ end → k ≡ min o (end - next)
stored_is o k end next e f = omega arith

module _ (l : RunList) (buffer : List ℕ) (next : ℕ) (piece : List ℕ) (most recent k : ℕ) (q x : Run) (d : DataReady l buffer piece) (few : l.count ≤ max_runs)
    (whole : length l.runs ≡ max_runs) (eq : q ≡ run_at l.runs recent) (ex : suc recent < l.count → x ≡ run_at l.runs (suc recent))
    (f : Follows recent l.count q.last x.first next k) (e : k ≡ min most (length piece)) (some : 1 ≤ most) (fits : next + most ≤ length buffer) where
  -- the run's last position
  abbrev b : ℕ
  b = next + (k - 1)

  more : 1 ≤ k
  more = omega (arith, e, some, d.given)

  size : length (runs_in l) ≡ l.count
  size = length-take-le l.count l.runs (omega (arith, few, whole))

  sized : Sized l l.count
  sized = record { is = sym size; within = few; whole = whole; runs = refl; unused = refl }

  -- where the next position stands
  look : look_at (length buffer) next (runs_in l) ≡ found BehindRun recent (first_held (length buffer) (drop (suc recent) (runs_in l)))
  look =
      look_behind 0 (length buffer) next (runs_in l) recent d.formed (omega (arith, size, f.within))
      (rw (get_or-take l.count l.runs recent (run 0 0) f.within, ← eq) f.behind)

  kind : (look_at (length buffer) next (runs_in l)).kind ≡ BehindRun
  kind = ap (λ (w : Standing). w.kind) look

  fewer : length (insert next (runs_in l)) ≤ max_runs
  fewer = omega (arith, (look_stands (length buffer) next (runs_in l)).few (ap is_apart kind), size, few)

  -- the bytes end before the next run
  reach : next + k ≤ first_held (length buffer) (drop (suc recent) (runs_in l))
  reach =
      below_or (suc recent) l.count
      (λ u. rw (rest l.runs l.count (suc recent) u (omega (arith, few, whole)), ← ex u) (omega (arith, f.apart u)))
      (λ u. rw (ended l.runs l.count (suc recent) u) (omega (arith, e, fits)))

  -- the runs with the one at `recent` made longer
  holding : Holding l.runs l.count (take recent l.runs ++ join_next (run_at l.runs recent).first b (drop (recent + 1) (take l.count l.runs)))
      (with l recent (run q.first b) l.count)
  holding =
      rw eq
      (below_or (recent + 1) l.count
      (λ u.
      let following = rest l.runs l.count (recent + 1) u (omega (arith, few, whole)) in
      let v : suc recent < l.count = omega arith in
      let w : suc recent ≡ recent + 1 = omega arith in
      let apart : eqb (run_at l.runs (recent + 1)).first (suc b) ≡ false =
      rw (← w, ← ex v) (ne_eqb x.first (suc b) (λ y. omega (arith, f.apart v, more, y))) in
      rw (following, apart) (rw following at changed))
      (λ u. let none = ended l.runs l.count (recent + 1) u in rw none (rw none at changed)))
    where
      changed : Holding l.runs l.count (take recent l.runs ++ run (run_at l.runs recent).first b ∷ drop (recent + 1) (take l.count l.runs))
          (record { runs = set l.runs recent (run (run_at l.runs recent).first b); count = l.count })
      changed = put_same l.runs l.count recent (recent + 1) (run (run_at l.runs recent).first b) whole few (omega arith)
          (omega (arith, f.within)) refl

  -- the run at `recent` is made longer by the bytes that are offered
  on_stretch : StretchIs l buffer next piece most (Ok (record { runs = with l recent (run q.first b) l.count; taken = k; refusal = None }))
      (sets buffer next (take k piece))
  on_stretch =
      let o = offered_is most (length piece) (length buffer) next k e fits in
      all_stored l buffer next piece most (rw o more) (λ z. behind_held (sym kind ∙ z)) fewer
      ((look_gap 0 (length buffer) next (runs_in l) d.formed).some (ap is_free kind) (omega arith)) k
      (stored_is _ k _ next o (rw (ap (λ (w : Standing). w.end) look) reach))
      (with l recent (run q.first b) l.count)
      (rw look (is_lengthened l l.count sized recent b (with l recent (run q.first b) l.count) f.within holding))

-- a position behind the last of well-formed runs and apart from it stands behind all
look_beyond : (lo n p : ℕ) (rs : List Run) (i : ℕ) → WellFormed lo n rs → suc i ≡ length rs → suc (run_at rs i).last < p
    → look_at n p rs ≡ found Apart (length rs) n
look_beyond lo n p [] i h u e = absurd (omega arith)
look_beyond lo n p (r ∷ []) zero h u e =
    let f : r.first ≤ r.last = h.1 in
    rw (
      le-ltb (suc p) r.first (omega arith),
      le-ltb p r.first (omega arith),
      lt-leb p r.last (omega arith),
      ne_eqb p (suc r.last)
          (λ x. omega arith),
    )
look_beyond lo n p (r ∷ s ∷ rs) zero h u e = absurd (omega arith)
look_beyond lo n p (r ∷ rs) (suc i) h u e =
    let f : r.first ≤ r.last = h.1 in
    let d : suc (suc r.last) ≤ (run_at rs i).last = last-from (suc (suc r.last)) n rs i h.3 (omega arith) in
    rw (
      le-ltb (suc p) r.first (omega arith),
      le-ltb p r.first (omega arith),
      lt-leb p r.last (omega arith),
      ne_eqb p (suc r.last)
          (λ x. omega arith),
    )
    (ap onward (look_beyond (suc (suc r.last)) n p rs i h.3 (omega arith) e))

-- so does any position where there is no run
look_empty : (n p k : ℕ) (rs : List Run) → k ≡ 0 → look_at n p (take k rs) ≡ found Apart k n
look_empty n p zero rs e = refl
look_empty n p (suc k) rs e = absurd (omega arith)

module _ (l : RunList) (buffer : List ℕ) (next : ℕ) (piece : List ℕ) (most recent k : ℕ) (q : Run) (d : DataReady l buffer piece)
    (whole : length l.runs ≡ max_runs) (eq : q ≡ run_at l.runs recent) (f : Begins recent l.count q.last next) (e : k ≡ min most (length piece))
    (some : 1 ≤ most) (fits : next + most ≤ length buffer) where
  few : l.count ≤ max_runs
  few = omega (arith, f.room)

  -- the run that is begun
  abbrev new : Run
  new = run next (next + (k - 1))

  count_is : length (runs_in l) ≡ l.count
  count_is = length-take-le l.count l.runs (omega (arith, few, whole))

  -- where the next position stands
  stands : look_at (length buffer) next (runs_in l) ≡ found Apart l.count (length buffer)
  stands =
      below_or 0 l.count
      (λ u.
      rw count_is at
      (look_beyond 0 (length buffer) next (runs_in l) recent d.formed (omega (arith, count_is, f.within u))
      (rw (get_or-take l.count l.runs recent (run 0 0) (omega (arith, f.within u)), ← eq) (f.apart u))))
      (λ u. look_empty (length buffer) next l.count l.runs (omega arith))

  kind_is : (look_at (length buffer) next (runs_in l)).kind ≡ Apart
  kind_is = ap (λ (w : Standing). w.kind) stands

  -- the runs with the one that is begun behind them
  more_runs : Holding l.runs l.count
      (in_room (take l.count l.runs ++ join_next next (next + (k - 1)) (drop l.count (take l.count l.runs))) (take l.count l.runs))
      (with l l.count new (l.count + 1))
  more_runs =
      let none = ended l.runs l.count l.count (omega arith) in
      rw none
      (rw none at
      (put_more l.runs l.count l.count l.count new whole few (omega arith) (omega arith) (set l.runs l.count new) refl f.room
      (rw (none, set_split l.runs l.count new (omega (arith, f.room, whole)), append_assoc, add-one))))

  -- a run is begun with the bytes that are offered
  on_begun : StretchIs l buffer next piece most (Ok (record { runs = with l l.count new (l.count + 1); taken = k; refusal = None }))
      (sets buffer next (take k piece))
  on_begun =
      let o = offered_is most (length piece) (length buffer) next k e fits in
      let i : 1 ≤ k = omega (arith, e, some, d.given) in
      all_stored l buffer next piece most (rw o i) (λ z. apart_held (sym kind_is ∙ z))
      (omega (arith, (look_stands (length buffer) next (runs_in l)).more kind_is, count_is, f.room))
      ((look_gap 0 (length buffer) next (runs_in l) d.formed).some (ap is_free kind_is) (omega arith)) k
      (stored_is _ k _ next o (rw (ap (λ (w : Standing). w.end) stands) (omega (arith, e, fits))))
      (with l l.count new (l.count + 1))
      (rw stands (is_put_lem l l.count (record { is = sym count_is; within = few; whole = whole; runs = refl; unused = refl }) l.count (next + (k - 1))
      (with l l.count new (l.count + 1)) next (omega arith) more_runs))

-- the run that has the bytes that are offered, at its place
pub on_placed : (l : RunList) (buffer : List ℕ) (next : ℕ) (piece : List ℕ) (most recent k : ℕ) (q x : Run) → DataReady l buffer piece → l.count ≤ max_runs
    → length l.runs ≡ max_runs → q ≡ run_at l.runs recent → (suc recent < l.count → x ≡ run_at l.runs (suc recent))
    → k ≡ min most (length piece) → 1 ≤ most → next + most ≤ length buffer → (r : RunPlace) → Placed recent l.count q x next k r
    → (r.index < max_runs) × StretchIs l buffer next piece most
    (Ok (record { runs = with l r.index (run r.first (next + (k - 1))) r.count; taken = k; refusal = None })) (sets buffer next (take k piece))
on_placed l buffer next piece most recent k q x d few whole eq ex e some fits r (follows f p) =
    rw p (omega (arith, f.within, few), on_stretch l buffer next piece most recent k q x d few whole eq ex f e some fits)
on_placed l buffer next piece most recent k q x d few whole eq ex e some fits r (begins f p) =
    rw p (f.room, on_begun l buffer next piece most recent k q d whole eq f e some fits)
