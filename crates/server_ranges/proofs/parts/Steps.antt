-- Placing a run among the first of a list of runs: the loop's turns, and its end.
use Rattle.std.proofs.Common.{◌≡◌, ℕ, zero, suc, ◌+◌, ◌≤◌, ◌<◌, Bool, true, false, cond, None, Some, List, [], ◌∷◌, ◌++◌, length, get_or, take, drop, set}
use Rattle.std.proofs.Common.{refl, sym, ap, ◌∙◌, add-one, arith, append-nil, length-take, length-set, ltb, drop_of_length-le}
use Rattle.std.proofs.Math.Seq.{append_snoc, get_or-take, drop-set-lt, length-take-le, set_at, slice, slice-cons, slice_empty, take_all, take_at}
use Rattle.std.proofs.Math.Seq.{take-set-lt, take-suc, take-suc-set}
use Rattle.std.proofs.lemmas.List.Quantifiers.{position-Some}
use Rattle.std.proofs.lemmas.List.Sums.{fails_before_first}
use borrow.Author.Tests.{ltb-false}
use Rattle.rules_server.specs.declared.Run.{Run}
use Rattle.rules_server.specs.Limits.{merge_gap}
use Rattle.rules_server.specs.Parts.{near, hull, joined, apart, place}
use Rattle.server_ranges.specs.Listing.{room_of, listing, Lists}
use Rattle.server_ranges.specs.Placing.{first_near, Placed}

-- the run at k
abbrev pub at : List Run → ℕ → Run
at runs k = get_or runs k (record { first = 0; last = 0 })

-- a count of no more runs than there are is the number of the parts
pub lists : (k : ℕ) (runs l : List Run) → k ≤ length runs → listing k runs ≡ l → Lists k runs l
lists k runs l h e = record { parts = e; number = sym (length-take-le k runs h) ∙ ap length e }

-- the definitions at a run, once it is known whether r is near it
module _ (g : ℕ) (r q : Run) (qs : List Run) (b : Bool) (e : near g r q ≡ b) where
  joined_by : joined g r (q ∷ qs) ≡ joined g (cond b (hull r q) r) qs
  joined_by = ap (λ (t : Bool). joined g (cond t (hull r q) r) qs) e

  apart_by : apart g r (q ∷ qs) ≡ cond b (apart g (hull r q) qs) (q ∷ apart g r qs)
  apart_by = ap (λ (t : Bool). cond t (apart g (hull r q) qs) (q ∷ apart g r qs)) e

  place_by : place g r (q ∷ qs) ≡ cond b (joined g (hull r q) qs ∷ apart g (hull r q) qs) (q ∷ place g r qs)
  place_by = ap (λ (t : Bool). cond t (joined g (hull r q) qs ∷ apart g (hull r q) qs) (q ∷ place g r qs)) e

-- runs that are not near r are passed
pub passed : (g : ℕ) (r : Run) (l : List Run) (k : ℕ) → ((i : ℕ) → i < k → near g r (at l i) ≡ false) → place g r l ≡ take k l ++ place g r (drop k l)
passed g r [] zero h = refl
passed g r [] (suc k) h = refl
passed g r (q ∷ l) zero h = refl
passed g r (q ∷ l) (suc k) h =
    place_by g r q l false (h 0 (omega arith)) ∙ ap (λ (x : List Run). q ∷ x) (passed g r l k (λ i j. h (suc i) (omega arith)))

take_take : (k n : ℕ) (l : List Run) → k ≤ n → take k (take n l) ≡ take k l
take_take zero n l h = refl
take_take (suc k) zero l h = absurd (omega arith)
take_take (suc k) (suc n) [] h = refl
take_take (suc k) (suc n) (x ∷ l) h = ap (λ (y : List Run). x ∷ y) (take_take k n l (omega arith))

-- an index that is none is no index below n
beyond : (i n : ℕ) → cond (ltb i n) (Some i) None ≡ None → n ≤ i
beyond i n e = go (ltb i n) refl e
  where
    go : (b : Bool) → ltb i n ≡ b → cond b (Some i) None ≡ None → n ≤ i
    go true h e = cc
    go false h e = ltb-false i n h

-- what is left of the first n from i on begins with the one at i
rest : (runs : List Run) (i n : ℕ) → i < n → n ≤ length runs → slice i n runs ≡ at runs i ∷ slice (i + 1) n runs
rest runs i n hi hn = rw add-one (slice-cons i n runs _ hi hn)

-- a store before i does not change what is left from i on
rest_set : (runs : List Run) (j i n : ℕ) (q : Run) → j < i → i ≤ n → slice i n (set runs j q) ≡ slice i n runs
rest_set runs j i n q hj hi =
    let hn : j < n = omega arith in
    rw (take-set-lt, drop-set-lt)

-- the first i + 1 end with the one at i
front : (runs : List Run) (i : ℕ) → i < length runs → take (i + 1) runs ≡ take i runs ++ (at runs i ∷ [])
front runs i hi = rw add-one (take-suc runs i _ hi)

-- h has taken in those of the runs from i₀ up to i that it meets; the first j of `kept` are those before i₀ and the others up to i
pub record Joining (count k : ℕ) (runs : List Run) (h₀ : Run) (i₀ : ℕ) (kept : List Run) (h : Run) (j i : ℕ) : Type 0 where
  pub size : length kept ≡ length runs
  pub room : count ≤ length runs
  pub after : k < j
  pub behind : j ≤ i
  pub inside : i ≤ count
  pub joins : joined merge_gap h (slice i count kept) ≡ joined merge_gap h₀ (slice i₀ count runs)
  pub parts : take j kept ++ apart merge_gap h (slice i count kept) ≡ take i₀ runs ++ apart merge_gap h₀ (slice i₀ count runs)

module _ {count k : ℕ} {runs : List Run} {h₀ : Run} {i₀ : ℕ} {kept : List Run} {h : Run} {j i : ℕ} (w : Joining count k runs h₀ i₀ kept h j i)
    (more : i < count) where
  -- both equations with what is left split at the run at i
  joins_rest : joined merge_gap h (at kept i ∷ slice (i + 1) count kept) ≡ joined merge_gap h₀ (slice i₀ count runs)
  joins_rest = let n : count ≤ length kept = omega arith in rw (rest kept i count more n) at w.joins

  parts_rest : take j kept ++ apart merge_gap h (at kept i ∷ slice (i + 1) count kept) ≡ take i₀ runs ++ apart merge_gap h₀ (slice i₀ count runs)
  parts_rest = let n : count ≤ length kept = omega arith in rw (rest kept i count more n) at w.parts

  -- a run that h meets is taken in
  pub meet : {h' : Run} → near merge_gap h (at kept i) ≡ true → h' ≡ hull h (at kept i) → Joining count k runs h₀ i₀ kept h' j (i + 1)
  meet e eh = rw eh record {
    size = w.size;
    room = w.room;
    after = w.after;
    behind = omega arith;
    inside = omega arith;
    joins = rw (← joined_by merge_gap h (at kept i) (slice (i + 1) count kept) true e) joins_rest;
    parts = rw (← apart_by merge_gap h (at kept i) (slice (i + 1) count kept) true e) parts_rest;
  }

  -- a run that h does not meet is kept
  pub keep : near merge_gap h (at kept i) ≡ false → Joining count k runs h₀ i₀ (set kept j (at kept i)) h (j + 1) (i + 1)
  keep e =
      let moved = rest_set kept j (i + 1) count (at kept i) (omega arith) (omega arith) in
      record {
        size = rw length-set w.size;
        room = w.room;
        after = omega arith;
        behind = omega arith;
        inside = omega arith;
        joins = rw (moved, ← joined_by merge_gap h (at kept i) (slice (i + 1) count kept) false e) joins_rest;
        parts =
            rw (moved, add-one j, take-suc-set kept j (at kept i) (omega arith), append_snoc)
            (rw (← apart_by merge_gap h (at kept i) (slice (i + 1) count kept) false e) parts_rest);
      }

-- what there is room for is not cut
fitting : (room : ℕ) (ps qs : List Run) → length ps ≤ room → ps ≡ qs → ps ≡ take room qs
fitting room ps qs short e = rw (← e) (sym (take_all room ps short))

-- at the end the run at k is h, with the others behind it
pub absorbed : {count k : ℕ} {runs : List Run} {r h₀ : Run} {kept : List Run} {h : Run} {j i : ℕ}
    → Joining count k runs h₀ (k + 1) kept h j i → count ≤ i → count ≤ room_of runs → first_near r (listing count runs) ≡ Some k → h₀ ≡ hull r (at runs k)
    → Placed r count runs j (set kept k h)
absorbed {count} {k} {runs} {r} {h₀} {kept} {h} {j} {i} w₀ done few found eh =
    let w : Joining count k runs (hull r (at runs k)) (k + 1) kept h j i = rw eh at w₀ in
    let long : length (take count runs) ≡ count = length-take-le count runs w.room in
    let p = position-Some (near merge_gap r) (take count runs) k (record { first = 0; last = 0 }) found in
    let inside : k < count = omega (arith, p.0) in
    let met : near merge_gap r (at runs k) ≡ true = ap (near merge_gap r) (sym (get_or-take count runs k _ inside)) ∙ p.1 in
    let e : i ≡ count = omega arith in
    let none : slice i count kept ≡ [] = rw e (slice_empty count kept) in
    let q : h ≡ joined merge_gap (hull r (at runs k)) (slice (k + 1) count runs) = rw none at w.joins in
    let p' = rw (none, append-nil, front runs k (omega arith), append_snoc) at w.parts in
    record {
      parts = lists j (set kept k h) _ (simp length-set (omega arith))
          (fitting (room_of runs) (take j (set kept k h)) (place merge_gap r (take count runs)) (simp length-take (omega arith))
          (rw (
            take-set-lt j kept k h w.after,
            p',
            set_at (take k runs) (at runs k) _ h k (length-take-le k runs (omega arith)),
            q,
            passed merge_gap r (take count runs) k p.2,
            rest runs k count inside w.room,
            place_by merge_gap r (at runs k) (slice (k + 1) count runs) true met,
            take_take k count runs (omega arith),
          )));
      size = simp length-set w.size;
    }

-- where no run is near r, it goes last
module _ (r : Run) (m : ℕ) (runs : List Run) (few : m ≤ room_of runs) (none : first_near r (listing m runs) ≡ None) where
  goes_last : place merge_gap r (take m runs) ≡ take m runs ++ (r ∷ [])
  goes_last =
      let l = take m runs in
      passed merge_gap r l (length l) (λ k h. fails_before_first (near merge_gap r) l k _ (omega (arith, beyond _ _ none)))
      ∙ (rw (take_all (length l) l (omega arith), drop_of_length-le l {i = length l} (omega arith)) refl)

  -- stored behind the others it is placed
  pub stored : m < room_of runs → Placed r m runs (m + 1) (set runs m r)
  stored more = record {
    parts = lists (m + 1) (set runs m r) _ (simp length-set (omega arith))
        (fitting (room_of runs) (take (m + 1) (set runs m r)) (place merge_gap r (take m runs)) (simp (length-take, length-set) (omega arith))
        (rw (goes_last, add-one m, take-suc-set runs m r (omega arith))));
    size = simp length-set;
  }

  -- without room for it the parts stay as they are
  pub full : room_of runs ≤ m → Placed r m runs m runs
  full all =
      let e : m ≡ room_of runs = omega arith in
      record {
        parts = lists m runs _ (omega arith) (rw goes_last (sym (take_at (take m runs) (r ∷ []) (room_of runs) (length-take-le m runs (omega arith) ∙ e))));
        size = refl;
      }
