-- A part of the buffer that was lent and filled, and what a stretch of positions leaves, by whether it is held.
-- Assumes nothing.
use Prim.Native.Nat.{ℕ, zero, suc, ◌+◌, ◌-◌, ◌≤◌, ◌<◌, min}
use native.Mathlib.Nat.{zero-add, add-zero}
use native.Mathlib.Omega.{arith}
use mathlib.Core.Path.{◌≡◌, refl, sym, ap, ◌∙◌}
use mathlib.Core.Bool.{Bool, true, false, cond, not, false≢true}
use mathlib.Core.List.{List, [], ◌∷◌, ◌++◌, append_assoc}
use lib.Dec.{leb, eqb}
use lib.ListN.{length, get_or, take, drop, length-append, length-drop, take-append-drop}
use lib.Seq.{sets, sets-eq, length-sets, length-take-le, take-take, drop-drop, drop-append-le, get_or-take, get_or-drop}
use borrow.Author.Tests.{le-leb, lt-leb, lt-ltb, eq-eqb, ne_eqb}
use Rattle.rules_server.specs.declared.Run.{Run}
use Rattle.rules_tablet.specs.Limits.{max_runs}
use Rattle.rules_tablet.specs.Runs.{join_next, insert}
use Rattle.laws_runs.proofs.Lies.{equal_or}
use Rattle.laws_runs.proofs.Insert.{join_count}
use Rattle.copy.specs.declared.runs.RunList.{RunList}
use Rattle.copy.specs.declared.runs.Kind.{Kind}
use Rattle.copy.specs.declared.runs.Kind.TheVariants.{InRun, BehindRun, BeforeRun, Apart}
use Rattle.copy.specs.declared.runs.Standing.{Standing}
use Rattle.copy.specs.Lists.{runs_in, add_run}
use Rattle.copy.specs.Looks.{is_held, is_free, is_behind, follows_none, is_apart, Stands}
use Rattle.copy.proofs.runs.Laws.{span_added}
use Rattle.copy.proofs.runs.Looks.{look_stands, look_gap}
use Rattle.copy.specs.Steps.{Holds, span_at}
use Rattle.reader_data.specs.declared.Stretch.{Stretch}
use Rattle.reader_data.specs.Agreements.{Agrees}
use Rattle.reader_data.specs.Stretches.{Along, Ready, StretchOutcome, fresh, held, many, other, StretchIs, Compared, Counted, alike, standing}
use Rattle.reader_data.specs.Stretches.{offered, refusal_of, taken_of, taken_in, runs_left, refusal_in}
use Rattle.std.specs.Prelude.{None, Result, Ok, Err}

-- a part of a list, filled from its front and put back, is the list filled from where the part begins
pub put_sets : (a k : ℕ) (xs vs : List ℕ) → length vs ≤ length (take k (drop a xs)) → a + length vs ≤ length xs
    → take a xs ++ (sets (take k (drop a xs)) 0 vs ++ drop k (drop a xs)) ≡ sets xs a vs
put_sets a k xs vs h u =
    rw (
      sets-eq vs (take k (drop a xs)) 0 (omega arith),
      zero-add,
      append_assoc vs,
      ← drop-append-le (length vs) (take k (drop a xs)) (drop k (drop a xs)) h,
      take-append-drop k (drop a xs),
      drop-drop,
      sets-eq vs xs a u,
    )
    (sym (append_assoc (take a xs) vs (drop (a + length vs) xs)))

-- behind a byte that agrees as many agree, but one
agree_rest : (x y : ℕ) (a b : List ℕ) (j : ℕ) → Agrees (x ∷ a) (y ∷ b) (suc j) → Agrees a b j
agree_rest x y a b j w = record {
  left = omega (arith, w.left);
  right = omega (arith, w.right);
  alike = ap (drop 1) w.alike;
  differ = λ u v. w.differ (omega arith) (omega arith);
}

-- lists that agree in so many bytes and no more agree in as many as the definition says
pub alike_is : (a b : List ℕ) (j : ℕ) → Agrees a b j → j ≡ alike a b
alike_is [] b j w = omega (arith, w.left)
alike_is (x ∷ a) [] j w = omega (arith, w.right)
alike_is (x ∷ a) (y ∷ b) zero w = rw (ne_eqb x y (w.differ (omega arith) (omega arith)))
alike_is (x ∷ a) (y ∷ b) (suc j) w = rw (eq-eqb x y (ap (λ (l : List ℕ). get_or l 0 0) w.alike)) (ap suc (alike_is a b j (agree_rest x y a b j w)))

-- in the fronts of two lists as many bytes agree as in the lists, at most so many as the fronts have
pub alike-front : (k : ℕ) (a b : List ℕ) → alike (take k a) (take k b) ≡ min k (alike a b)
alike-front zero a b = omega arith
alike-front (suc k) [] b = omega arith
alike-front (suc k) (x ∷ a) [] = omega arith
alike-front (suc k) (x ∷ a) (y ∷ b) = go (eqb x y) (alike-front k a b)
  where
    go : (t : Bool) → alike (take k a) (take k b) ≡ min k (alike a b) → cond t (suc (alike (take k a) (take k b))) 0 ≡ min (suc k) (cond t (suc (alike a b)) 0)
    go true e = omega arith
    go false e = omega arith

not-none : (j : ℕ) → (j ≡ 0 → ⊥) → 1 ≤ j
not-none j e = omega arith

-- either way the same
cond-same : {A : Type 0} (t : Bool) (x : A) → x ≡ cond t x x
cond-same true x = refl
cond-same false x = refl

-- the least of what is offered and what a run has from p on
pub run-count : (o e p k : ℕ) → p ≤ e → 1 ≤ o → k ≡ min (o - 1) (e - p) + 1 → k ≡ min o (suc e - p)
run-count o e p k u v f = omega arith

-- and of those that agree
agree_count : (o x m k j : ℕ) → k ≡ min o x → j ≡ min k m → j ≡ min o (min x m)
agree_count o x m k j e f = omega arith

-- it is no more than what is wanted and what is given
least_bounds : (a b c x k j : ℕ) → k ≡ min (min (min a b) c) x → j ≤ k → (j ≤ a) × (j ≤ b) × (k ≤ c)
least_bounds a b c x k j e d = (omega arith, omega arith, omega arith)

-- so many positions from p on do not leave the run
run_bound : (o e p k j q : ℕ) → p ≤ e → k ≡ min o (suc e - p) → j ≤ k → q < p + j → q ≤ e
run_bound o e p k j q u f d v = omega arith

-- a position stands so
kind_cases : {A : Type 0} (k : Kind) → (k ≡ InRun → A) → (k ≡ BehindRun → A) → (k ≡ BeforeRun → A) → (k ≡ Apart → A) → A
kind_cases InRun a b c d = a refl
kind_cases BehindRun a b c d = b refl
kind_cases BeforeRun a b c d = c refl
kind_cases Apart a b c d = d refl

-- a position that is not held
not_held : (k : Kind) → (k ≡ InRun → ⊥) → is_free k ≡ true
not_held k z = kind_cases k (λ e. absurd (z e)) (λ e. ap is_free e) (λ e. ap is_free e) (λ e. ap is_free e)

-- whether there is room for a position is what its kind says
pub grown : (p : ℕ) (rs : List Run) (w : Standing) (r : ℕ) → Stands p rs w → Counted w.kind rs r
    → (max_runs < r → max_runs < length (insert p rs)) × (r ≤ max_runs → length (insert p rs) ≤ max_runs)
grown p rs w r s c = kind_cases w.kind (λ e. touching (ap is_apart e)) (λ e. touching (ap is_apart e)) (λ e. touching (ap is_apart e)) apart
  where
    touching : is_apart w.kind ≡ false → (max_runs < r → max_runs < length (insert p rs)) × (r ≤ max_runs → length (insert p rs) ≤ max_runs)
    touching e =
        let f = rw e at c.is in
        let few = s.few e in
        (λ u. absurd (omega (arith, f, c.room)), λ u. omega (arith, few, c.room))

    apart : w.kind ≡ Apart → (max_runs < r → max_runs < length (insert p rs)) × (r ≤ max_runs → length (insert p rs) ≤ max_runs)
    apart e =
        let f = rw (ap is_apart e) at c.is in
        (λ u. omega (arith, f, s.more e), λ u. omega (arith, f, s.more e))

-- a run put in before others is at most one more
put_count : (rs : List Run) (i p b : ℕ) → i ≤ length rs → length (take i rs ++ join_next p b (drop i rs)) ≤ suc (length rs)
put_count rs i p b u = rw (length-append, length-take-le i rs u) (omega (arith, join_count p b (drop i rs), length-drop i rs))

-- the span that is put in where its first position stands is added
pub span_put : (p : ℕ) (rs : List Run) (w : Standing) → Stands p rs w → is_free w.kind ≡ true → (k : ℕ) → 1 ≤ k → p + k ≤ w.end
    → length (insert p rs) ≤ max_runs → span_at w p (p + (k - 1)) rs ≡ add_run p (p + (k - 1)) rs
span_put p rs w s u k some far few =
    kind_cases w.kind (λ e. absurd (false≢true (sym (ap is_free e) ∙ u)))
    (λ e. rw (ap is_behind e, lt-ltb w.index (length rs) (s.within e)) (sym (s.follows e (p + (k - 1)))))
    (λ e.
    let h : p + (k - 1) ≡ p = omega (arith, s.next e) in
    put_behind (ap is_behind e) (ap follows_none e) (rw (h, ← s.alone u) few))
    (λ e. put_behind (ap is_behind e) (ap follows_none e)
    (rw (s.before (ap follows_none e) (p + (k - 1))) (omega (arith, put_count rs w.index p (p + (k - 1)) s.place, s.more e))))
  where
    put_behind : is_behind w.kind ≡ false → follows_none w.kind ≡ true → length (add_run p (p + (k - 1)) rs) ≤ max_runs → span_at w p (p + (k - 1)) rs ≡ add_run p (p + (k - 1)) rs
    put_behind e two room =
        let is = s.before two (p + (k - 1)) in
        rw (e, le-leb w.index (length rs) s.place, ← is, le-leb (length (add_run p (p + (k - 1)) rs)) max_runs room)

module _ (l : RunList) (buffer : List ℕ) (next : ℕ) (piece : List ℕ) (most : ℕ) where
  -- where the next position stands, and what may be taken
  abbrev w : Standing
  w = standing l buffer next piece most

  abbrev o : ℕ
  o = offered l buffer next piece most

  s : Stands next (runs_in l) w
  s = look_stands (length buffer) next (runs_in l)

  -- nothing is changed
  unchanged : (r : Result Stretch ℕ) → taken_in r ≡ 0 → runs_left l r ≡ l → refusal_in r ≡ refusal_of l buffer next piece most
      → 0 ≡ taken_of l buffer next piece most → (Ready l buffer next piece most → StretchOutcome l buffer next piece r buffer)
      → StretchIs l buffer next piece most r buffer
  unchanged r z y e t f = record {
    kept = refl;
    wanted = omega (arith, z);
    within = omega (arith, z);
    room = λ u. rw y u;
    blank = λ u. rw y u;
    exact = record {
      refusal = e;
      taken = z ∙ t;
      runs = rw (y, z) (cond-same (is_held w.kind) (runs_in l));
      bytes = rw z (cond-same (is_held w.kind) buffer);
      untaken = λ x. y;
      compared = λ x. y;
      counted = λ x y. absurd (omega (arith, x, z));
    };
    stored = f;
  }

  -- no byte is taken, and none is refused
  abbrev idle : Result Stretch ℕ
  idle = Ok (record { runs = l; taken = 0; refusal = None })

  -- nothing may be taken
  pub not_offered : o ≡ 0 → StretchIs l buffer next piece most idle buffer
  not_offered e =
      let t = eq-eqb o 0 e in
      unchanged idle refl refl (rw t) (rw (t, e) (omega arith)) (λ r. absurd (omega (arith, e, r.some, r.given, r.fits)))

  module _ (some : 1 ≤ o) where
    some_test : eqb o 0 ≡ false
    some_test = ne_eqb o 0 (λ e. omega (arith, e, some))

    -- the next position is held
    module _ (z : w.kind ≡ InRun) (k : ℕ) (e : k ≡ min o (suc w.end - next)) where
      -- bytes of it are compared
      compared : 1 ≤ k
      compared = omega (arith, e, s.reach z, some)

      -- as many agree
      agreed : (j : ℕ) → Agrees (take k (drop next buffer)) (take k piece) j → j ≡ min k (alike (drop next buffer) piece)
      agreed j a = alike_is (take k (drop next buffer)) (take k piece) j a ∙ alike-front k (drop next buffer) piece

      -- the first differs
      pub differs : Agrees (take k (drop next buffer)) (take k piece) 0 → StretchIs l buffer next piece most (Err 17) buffer
      differs a =
          let i = compared in
          let d : alike (drop next buffer) piece ≡ 0 = omega (arith, agreed 0 a, i) in
          let t = eq-eqb (alike (drop next buffer) piece) 0 d in
          unchanged (Err 17) refl refl (rw (some_test, ap is_held z, t)) (rw (some_test, ap is_held z, t)) (λ r.
          other (record {
            refused = refl;
            held = s.held z next (omega arith) (s.reach z);
            differ = λ d.
                a.differ (rw (length-take-le k (drop next buffer) (rw length-drop (omega (arith, e)))) i) (rw (length-take-le k piece (omega (arith, e))) i)
                (rw (get_or-take k (drop next buffer) 0 0 i, get_or-take k piece 0 0 i, get_or-drop, add-zero) d);
            bytes = refl;
          }))

      -- so many are as held
      pub all_held_lem : (j : ℕ) → 1 ≤ j → Agrees (take k (drop next buffer)) (take k piece) j
          → StretchIs l buffer next piece most (Ok (record { runs = l; taken = j; refusal = None })) buffer
      all_held_lem j i a =
          let m = alike (drop next buffer) piece in
          let f = agreed j a in
          let d : j ≤ k = omega (arith, f) in
          let t = ne_eqb m 0 (λ x. omega (arith, f, x)) in
          let c = agree_count o (suc w.end - next) m k j e f in
          let b = least_bounds most (length piece) (length buffer - next) (suc w.end - next) k j e d in
          record {
            kept = refl;
            wanted = b.0;
            within = b.1;
            room = λ x. x;
            blank = λ x. x;
            exact = record {
              refusal = rw (some_test, ap is_held z, t);
              taken = rw (some_test, ap is_held z, t) c;
              runs = rw (ap is_held z);
              bytes = rw (ap is_held z);
              untaken = λ x. refl;
              compared = λ x. refl;
              counted = λ x y. absurd (false≢true (sym (ap is_free z) ∙ y));
            };
            stored = λ r. held (record {
              some = i;
              held = λ q x y. s.held z q x (run_bound o w.end next k j q (s.reach z) e d y);
              alike = rw (take-take j k (drop next buffer) d, take-take j k piece d) at a.alike;
              runs = refl;
              bytes = refl;
            });
          }

      -- either of them
      pub is_compared : (r : Result Stretch ℕ) → Compared l (take k (drop next buffer)) (take k piece) r → StretchIs l buffer next piece most r buffer
      is_compared r c =
          equal_or (taken_in r) 0
          (λ x. rw (rw (eq-eqb (taken_in r) 0 x) at c.is) (differs (rw x at c.agrees)))
          (λ x. rw (rw (ne_eqb (taken_in r) 0 x) at c.is) (all_held_lem (taken_in r) (not-none (taken_in r) x) c.agrees))

    -- the next position is not held
    module _ (z : w.kind ≡ InRun → ⊥) where
      free : is_free w.kind ≡ true
      free = not_held w.kind z

      kind_test : is_held w.kind ≡ false
      kind_test = ap not free

      -- it would make too many runs
      pub too_many : max_runs < length (insert next (runs_in l)) → StretchIs l buffer next piece most (Err 16) buffer
      too_many m =
          let t = lt-leb (length (insert next (runs_in l))) max_runs m in
          unchanged (Err 16) refl refl (rw (some_test, kind_test, t)) (rw (some_test, kind_test, t)) (λ r.
          let g = look_gap 0 (length buffer) next (runs_in l) r.formed in
          many (record {
            refused = refl;
            free = g.free free next (omega arith) (g.some free (omega (arith, r.fits, r.some)));
            many = m;
            bytes = refl;
          }))

      module _ (m : length (insert next (runs_in l)) ≤ max_runs) where
        room_test : leb (length (insert next (runs_in l))) max_runs ≡ true
        room_test = le-leb (length (insert next (runs_in l))) max_runs m

        -- no position comes before the next run
        pub no_reach : w.end ≤ next → StretchIs l buffer next piece most idle buffer
        no_reach u =
            unchanged idle refl refl (rw (some_test, kind_test, room_test)) (rw (some_test, kind_test, room_test) (omega (arith, u))) (λ r.
            let g = look_gap 0 (length buffer) next (runs_in l) r.formed in
            absurd (omega (arith, u, g.some free (omega (arith, r.fits, r.some)))))

        -- the bytes before the next run are stored
        pub all_stored : next < w.end → (k : ℕ) → k ≡ min o (w.end - next) → (x : RunList) → Holds l (span_at w next (next + (k - 1)) (runs_in l)) x
            → StretchIs l buffer next piece most (Ok (record { runs = x; taken = k; refusal = None })) (sets buffer next (take k piece))
        all_stored u k e x h =
            let i : 1 ≤ k = omega (arith, e, u, some) in
            let f : next + k ≤ w.end = omega (arith, e, u) in
            let v : next + k ≤ length buffer = omega (arith, e, i) in
            let is = h.runs ∙ span_put next (runs_in l) w s free k i f m in
            record {
              kept = length-sets buffer next (take k piece);
              wanted = omega (arith, e);
              within = omega (arith, e);
              room = λ j. h.room;
              blank = h.blank;
              exact = record {
                refusal = rw (some_test, kind_test, room_test);
                taken = rw (some_test, kind_test, room_test) e;
                runs = rw (kind_test, ne_eqb k 0 (λ j. omega arith)) is;
                bytes = rw kind_test;
                untaken = λ y. absurd (omega (arith, i, y));
                compared = λ y. absurd (z y);
                counted = λ x y. h.room;
              };
              stored = λ r.
                  let g = look_gap 0 (length buffer) next (runs_in l) r.formed in
                  let along : Along false next k (runs_in l) = λ q x y. g.free free q x (omega arith) in
                  fresh (record {
                    some = i;
                    free = along;
                    few = m;
                    runs = is ∙ sym (span_added (length buffer) next k (runs_in l) r.formed (record { some = i; below = v; free = along }));
                    bytes = refl;
                  });
            }
