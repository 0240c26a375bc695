-- Runs moved one place up, the last first, and one place down, the first first: the loops' turns, and their ends.
-- Assumes nothing.
use Prim.Native.Nat.{ℕ, suc, ◌+◌, ◌-◌, ◌≤◌, ◌<◌}
use native.Mathlib.Numerals.{add-one}
use native.Mathlib.Omega.{arith}
use mathlib.Core.Path.{◌≡◌, sym, ◌∙◌}
use mathlib.Core.List.{List, ◌∷◌, ◌++◌, append_assoc, append-nil}
use lib.ListN.{length, take, drop, set, length-set}
use lib.Seq.{take-take, drop-cons, take-set-le, drop-set-lt, get_or-take, get_or-set_same, set_split, append_snoc}
use Rattle.rules_server.specs.declared.Run.{Run}
use Rattle.rules_tablet.specs.Runs.{run}
use Rattle.copy.proofs.runs.Fronts.{at, rest, ended, front-set, rest_set}

-- moving up: the runs before i stay, those from i on stand one place further
pub record Up (runs : List Run) (count start : ℕ) (moved : List Run) (i : ℕ) : Type 0 where
  pub room : count < length runs
  pub size : length moved ≡ length runs
  pub from : start ≤ i
  pub to : i ≤ count
  pub before : take i moved ≡ take i runs
  pub behind : drop (i + 1) moved ≡ drop i (take count runs) ++ drop (count + 1) runs

module _ {runs : List Run} {count start : ℕ} {moved : List Run} {i : ℕ} (w : Up runs count start moved i) where
  -- the run before i moves to i
  pub up_turn : start < i → Up runs count start (set moved (i - 1 + 1) (at moved (i - 1))) (i - 1)
  up_turn h =
      let e : i - 1 + 1 ≡ i = omega arith in
      let blank : Run = run 0 0 in
      let moves : at moved (i - 1) ≡ at runs (i - 1) =
      sym (get_or-take i moved (i - 1) blank (omega arith)) ∙ rw w.before (get_or-take i runs (i - 1) blank (omega arith)) in
      let short : take (i - 1) moved ≡ take (i - 1) runs =
      sym (take-take (i - 1) i moved (omega arith)) ∙ rw w.before (take-take (i - 1) i runs (omega arith)) in
      rw e
      (record {
        room = w.room;
        size = rw length-set w.size;
        from = omega arith;
        to = omega arith;
        before = rw (take-set-le (i - 1) moved i (at moved (i - 1)) (omega arith)) short;
        behind =
            rw (
              rest runs count (i - 1) (omega arith) (omega arith),
              e,
              drop-cons (set moved i (at moved (i - 1))) i blank (rw length-set (omega arith)),
              get_or-set_same moved i (at moved (i - 1)) blank (omega arith),
              drop-set-lt (suc i) moved i (at moved (i - 1)) (omega arith),
              ← add-one i,
              w.behind,
              moves,
            );
      })

  -- at the end r is stored in the place that is free
  pub up_end : i ≤ start → (r : Run) → set moved start r ≡ (take start runs ++ r ∷ drop start (take count runs)) ++ drop (count + 1) runs
  up_end h r =
      let e : i ≡ start = omega arith in
      let b = rw e at w.before in
      let d = rw (e, add-one start) at w.behind in
      rw (set_split moved start r (omega arith), b, d, append_assoc)

-- moving down: the runs behind `gone` up to j stand one place before
pub record Down (runs : List Run) (count gone : ℕ) (kept : List Run) (j : ℕ) : Type 0 where
  pub room : count ≤ length runs
  pub size : length kept ≡ length runs
  pub to : j < count
  pub list : take j kept ++ drop (j + 1) (take count kept) ≡ take gone runs ++ drop (gone + 1) (take count runs)
  pub behind : drop count kept ≡ drop count runs

module _ {runs : List Run} {count gone : ℕ} {kept : List Run} {j : ℕ} (w : Down runs count gone kept j) where
  -- the run behind j moves to j
  pub down_turn : j + 1 < count → Down runs count gone (set kept j (at kept (j + 1))) (j + 1)
  down_turn h =
      let q = at kept (j + 1) in
      record {
        room = w.room;
        size = rw length-set w.size;
        to = h;
        list =
            rw (
              rest_set kept j (j + 1 + 1) count q (omega arith) (omega arith),
              front-set kept j q (omega arith),
              append_snoc,
            )
            (rw (rest kept count (j + 1) h (omega arith)) at w.list);
        behind = rw (drop-set-lt count kept j q w.to) w.behind;
      }

  -- at the end the last place is blank
  pub down_end : count ≤ j + 1 → (r : Run) → set kept (count - 1) r
      ≡ (take gone runs ++ drop (gone + 1) (take count runs)) ++ r ∷ drop count runs
  down_end h r =
      let e : suc j ≡ count = omega arith in
      let f : count - 1 ≡ j = omega arith in
      let l = rw (ended kept count (j + 1) h, append-nil) at w.list in
      rw (f, set_split kept j r (omega arith), l, e, w.behind)
