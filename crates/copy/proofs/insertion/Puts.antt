-- Putting a run into an array in the place of none, one or two of its first runs, and what a list of runs has then.
-- Assumes nothing.
use Prim.Native.Nat.{ℕ, suc, ◌+◌, ◌-◌, ◌≤◌, ◌<◌}
use native.Mathlib.Numerals.{add-one}
use native.Mathlib.Omega.{arith}
use mathlib.Core.Path.{◌≡◌}
use mathlib.Core.Bool.{true}
use mathlib.Core.List.{List, ◌∷◌, ◌++◌, append_assoc}
use lib.ListN.{length, take, drop, set}
use lib.Seq.{take_at, drop_at, drop-cons, drop-set-lt, set_split, append_snoc, get_or-take}
use borrow.Author.Tests.{le-leb, lt-leb, lt-ltb, le-ltb}
use Rattle.rules_server.specs.declared.Run.{Run}
use Rattle.rules_tablet.specs.Limits.{max_runs}
use Rattle.rules_tablet.specs.Runs.{run, join_next}
use Rattle.rules_tablet.specs.Copies.{all_blank}
use Rattle.copy.specs.Lists.{runs_in, in_room, Sized}
use Rattle.copy.specs.declared.runs.RunList.{RunList}
use Rattle.copy.proofs.runs.Fronts.{at, front_of, front-set, rest_set, split_rest, blank_rest, length_put}
use Rattle.copy.specs.Steps.{lengthened, put_in, Holds, Holding}

-- an array of the runs `list` and then the places `tail` holds that list
holding : (runs : List Run) (count : ℕ) (list tail : List Run) (r : RunList)
    → r.count ≤ max_runs → r.runs ≡ list ++ tail → length list ≡ r.count → (all_blank (drop count runs) ≡ true → all_blank tail ≡ true)
    → Holding runs count list r
holding runs count list tail r room e n blank = record {
  room = room;
  holds = rw e (take_at list tail r.count n);
  blank = λ h. rw (e, drop_at list tail r.count n) (blank h);
}

module _ (runs : List Run) (count start next : ℕ) (r : Run) (whole : length runs ≡ max_runs) (room : count ≤ max_runs) (from : start ≤ next)
    (inside : next ≤ count) where
  -- r in the place of the runs from start up to next
  abbrev list : List Run
  list = take start runs ++ r ∷ drop next (take count runs)

  -- their number
  number : length list ≡ suc (start + (count - next))
  number = length_put runs count start next r from inside (omega arith)

  -- there is no room for a run more
  pub put_full : next ≡ start → count ≡ max_runs → Holding runs count (in_room list (take count runs)) (record { runs = runs; count = count })
  put_full e f = record { room = room; holds = rw (lt-leb (length list) max_runs (omega (arith, number))); blank = λ h. h }

  -- in the place of none
  pub put_more : (m : List Run) → next ≡ start → count < max_runs → m ≡ (take start runs ++ r ∷ drop start (take count runs)) ++ drop (count + 1) runs
      → Holding runs count (in_room list (take count runs)) (record { runs = m; count = count + 1 })
  put_more m e f g =
      rw (le-leb (length list) max_runs (omega (arith, number)))
      (holding runs count list (drop (count + 1) runs) _ (omega arith) (rw e g) (omega (arith, number))
      (λ h. rw (add-one count) (blank_rest (at runs count) (drop (suc count) runs) (rw (drop-cons runs count (run 0 0) (omega arith)) at h))))

  -- in the place of one
  pub put_same : next ≡ start + 1 → Holding runs count list (record { runs = set runs start r; count = count })
  put_same e =
      let f : suc start ≡ next = omega arith in
      holding runs count list (drop count runs) _ room
      (rw (set_split runs start r (omega arith), f, split_rest runs count next inside (omega arith), append_assoc))
      (omega (arith, number))
      (λ h. h)

  -- in the place of one there is room
  pub in_room_lem : next ≡ start + 1 → (m : RunList) → Holding runs count list m → Holding runs count (in_room list (take count runs)) m
  in_room_lem e m h = rw (le-leb (length list) max_runs (omega (arith, number))) h

  -- in the place of two
  pub put_fewer : (m : List Run) → next ≡ start + 2
      → m ≡ (take (start + 1) (set runs start r) ++ drop (start + 1 + 1) (take count (set runs start r))) ++ run 0 0 ∷ drop count (set runs start r)
      → Holding runs count list (record { runs = m; count = count - 1 })
  put_fewer m e g =
      let f : start + 1 + 1 ≡ next = omega arith in
      holding runs count list (run 0 0 ∷ drop count runs) _ (omega arith)
      (rw (
        g,
        f,
        front-set runs start r (omega arith),
        append_snoc,
        rest_set runs start next count r (omega arith) inside,
        drop-set-lt count runs start r
            (omega arith),
      ))
      (omega (arith, number))
      (λ h. h)

module _ (l : RunList) (count : ℕ) (s : Sized l count) where
  -- the runs stay
  pub stays : Holds l (runs_in l) (record { runs = l.runs; count = count })
  stays = record { room = s.within; runs = s.runs; blank = λ e. rw s.unused e }

  -- what the array holds, the list has
  pub holds_of : (list : List Run) (r : RunList) → Holding l.runs count list r → Holds l list r
  holds_of list r h = record { room = h.room; runs = h.holds; blank = λ e. h.blank (rw s.unused e) }

  module _ (i : ℕ) (b : ℕ) (r : RunList) where
    -- a run is made longer
    pub is_lengthened : i < count → Holding l.runs count (take i l.runs ++ join_next (at l.runs i).first b (drop (i + 1) (take count l.runs))) r
        → Holds l (lengthened i b (runs_in l)) r
    is_lengthened u h =
        rw (
          lt-ltb i (length (runs_in l)) (omega (arith, s.is)),
          ← s.runs,
          front_of l.runs count i (omega arith),
          get_or-take count l.runs i (run 0 0) u,
          ← add-one i,
        )
        (holds_of _ r h)

    -- there is none to make longer
    pub not-lengthened : count ≤ i → lengthened i b (runs_in l) ≡ runs_in l
    not-lengthened u = rw (le-ltb i (length (runs_in l)) (omega (arith, s.is)))

    -- a run is put in
    pub is_put_lem : (p : ℕ) → i ≤ count → Holding l.runs count
        (in_room (take i l.runs ++ join_next p b (drop i (take count l.runs))) (take count l.runs)) r
        → Holds l (put_in i p b (runs_in l)) r
    is_put_lem p u h =
        rw (le-leb i (length (runs_in l)) (omega (arith, s.is)), ← s.runs, front_of l.runs count i u) (holds_of _ r h)

    -- the index is beyond the runs
    pub not_put : (p : ℕ) → count < i → put_in i p b (runs_in l) ≡ runs_in l
    not_put p u = rw (lt-leb i (length (runs_in l)) (omega (arith, s.is)))
