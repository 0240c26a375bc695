-- What specs ask for, against their runs and the tests of the table of statuses.
-- Assumes nothing.
use Prim.Native.Nat.{ℕ, ◌<◌}
use native.Mathlib.Omega.{arith}
use mathlib.Core.Path.{◌≡◌, refl, subst}
use mathlib.Core.Logic.{inl, inr}
use mathlib.Core.Bool.{Bool, true, false, cond, ◌||◌, true≢false, false≢true}
use mathlib.Core.List.{List, [], ◌∷◌, Memᴰ}
use lib.Dec.{eqb}
use borrow.Author.Tests.{ltb-true, ltb-false, lt-ltb, eqb-false, ne_eqb, not-true}
use Rattle.rules_server.specs.Ranges.{ByteSpec, span, onward, suffix, invalid, satisfiable, any_spec}
use Rattle.rules_server.specs.Parts.{run_of, spec_runs}
use Rattle.rules_demands.specs.Positions.{Asks, Asked, Backward, Satisfiable, Some as SomeSpec, Each, RunIn, In, Covers}

-- a disjunction of tests fails: both do
pub or_false : (a b : Bool) → (a || b) ≡ false → (a ≡ false) × (b ≡ false)
or_false true b e = absurd (true≢false e)
or_false false b e = (refl, e)

-- the test of a backward spec
pub invalid_backward : (s : ByteSpec) → invalid s ≡ true → Backward s
invalid_backward (span a b) e = ltb-true b a e
invalid_backward (onward a) e = absurd (false≢true e)
invalid_backward (suffix k) e = absurd (false≢true e)

-- and the other way
pub backward_invalid : (s : ByteSpec) → Backward s → invalid s ≡ true
backward_invalid (span a b) h = lt-ltb b a h
backward_invalid (onward a) h = absurd h
backward_invalid (suffix k) h = absurd h

-- the test of a satisfiable spec
pub test_satisfiable : (n : ℕ) (s : ByteSpec) → satisfiable n s ≡ true → Satisfiable n s
test_satisfiable n (span a b) e = ltb-true a n e
test_satisfiable n (onward a) e = ltb-true a n e
test_satisfiable n (suffix k) e = let h = eqb-false k 0 (not-true (eqb k 0) e) in omega arith

-- and the other way
pub satisfiable_test : (n : ℕ) (s : ByteSpec) → Satisfiable n s → satisfiable n s ≡ true
satisfiable_test n (span a b) h = lt-ltb a n h
satisfiable_test n (onward a) h = lt-ltb a n h
satisfiable_test n (suffix k) h = rw (ne_eqb k 0 (omega arith))

-- some listed spec passes a test: some listed spec has the property that the test shows
pub some_any : (test : ByteSpec → Bool) (P : ByteSpec → Type 0) → ((s : ByteSpec) → test s ≡ true → P s) → (ss : List ByteSpec) → any_spec test ss ≡ true
    → SomeSpec P ss
some_any test P sound [] e = absurd (false≢true e)
some_any test P sound (s ∷ ss) e = go (test s) refl e (some_any test P sound ss)
  where
    later : SomeSpec P ss → SomeSpec P (s ∷ ss)
    later h = record { spec = h.spec; is_listed = Memᴰ.tail h.is_listed; holds = h.holds }

    go : (b : Bool) → test s ≡ b → (b || any_spec test ss) ≡ true → (any_spec test ss ≡ true → SomeSpec P ss) → SomeSpec P (s ∷ ss)
    go true t e rest = record { spec = s; is_listed = Memᴰ.head refl; holds = sound s t }
    go false t e rest = later (rest e)

-- and the other way
pub any_some : (test : ByteSpec → Bool) (s : ByteSpec) (ss : List ByteSpec) → Memᴰ s ss → test s ≡ true → any_spec test ss ≡ true
any_some test s ss (Memᴰ.head {x} {xs} e) t = go (test x) (subst (λ (y : ByteSpec). test y ≡ true) e t)
  where
    go : (b : Bool) → b ≡ true → (b || any_spec test xs) ≡ true
    go true h = refl
    go false h = absurd (false≢true h)
any_some test s ss (Memᴰ.tail {x} {xs} m) t = go (test x) (any_some test s xs m t)
  where
    go : (b : Bool) → any_spec test xs ≡ true → (b || any_spec test xs) ≡ true
    go true h = refl
    go false h = h

-- the run of a satisfiable spec that does not end before it begins
pub run_in_lem : (n : ℕ) (s : ByteSpec) → 0 < n → invalid s ≡ false → satisfiable n s ≡ true → RunIn n (run_of n s)
run_in_lem n (span a b) h v e = let x = ltb-false b a v in let y = ltb-true a n e in record { ordered = omega arith; inside = omega arith }
run_in_lem n (onward a) h v e = let y = ltb-true a n e in record { ordered = omega arith; inside = omega arith }
run_in_lem n (suffix k) h v e = let y = eqb-false k 0 (not-true (eqb k 0) e) in record { ordered = omega arith; inside = omega arith }

-- the runs of specs of which none ends before it begins
pub runs_in_lem : (n : ℕ) (ss : List ByteSpec) → 0 < n → any_spec invalid ss ≡ false → Each (RunIn n) (spec_runs n ss)
runs_in_lem n [] h v = tt
runs_in_lem n (s ∷ ss) h v = go (satisfiable n s) refl (or_false (invalid s) (any_spec invalid ss) v) (runs_in_lem n ss h)
  where
    go : (b : Bool) → satisfiable n s ≡ b → (invalid s ≡ false) × (any_spec invalid ss ≡ false) → (any_spec invalid ss ≡ false → Each (RunIn n) (spec_runs n ss))
        → Each (RunIn n) (cond b (run_of n s ∷ spec_runs n ss) (spec_runs n ss))
    go true e v rest = (run_in_lem n s h v.0 e, rest v.1)
    go false e v rest = rest v.1

-- a spec that asks for a position is satisfiable, and its run has the position
pub asks-run : (n p : ℕ) (s : ByteSpec) → Asks n s p → (satisfiable n s ≡ true) × In p (run_of n s)
asks-run n p (span a b) h = (lt-ltb a n (omega arith), (omega arith, omega arith))
asks-run n p (onward a) h = (lt-ltb a n (omega arith), (omega arith, omega arith))
asks-run n p (suffix k) h = (rw (ne_eqb k 0 (omega arith)), (omega arith, omega arith))

-- a position of a satisfiable spec's run is one that it asks for
pub run_asks_lem : (n p : ℕ) (s : ByteSpec) → 0 < n → satisfiable n s ≡ true → In p (run_of n s) → Asks n s p
run_asks_lem n p (span a b) z e h = (omega arith, omega arith, omega arith)
run_asks_lem n p (onward a) z e h = (omega arith, omega arith)
run_asks_lem n p (suffix k) z e h = (omega arith, omega arith)

-- the runs cover what is asked for
pub asked_covered : (n p : ℕ) (s : ByteSpec) (ss : List ByteSpec) → Memᴰ s ss → Asks n s p → Covers p (spec_runs n ss)
asked_covered n p s ss (Memᴰ.head {x} {xs} e) a = go (asks-run n p x (subst (λ (y : ByteSpec). Asks n y p) e a))
  where
    go : (satisfiable n x ≡ true) × In p (run_of n x) → Covers p (cond (satisfiable n x) (run_of n x ∷ spec_runs n xs) (spec_runs n xs))
    go h = rw h.0 (inl h.1)
asked_covered n p s ss (Memᴰ.tail {x} {xs} m) a = go (satisfiable n x) (asked_covered n p s xs m a)
  where
    go : (b : Bool) → Covers p (spec_runs n xs) → Covers p (cond b (run_of n x ∷ spec_runs n xs) (spec_runs n xs))
    go true c = inr c
    go false c = c

-- and nothing else
pub covered_asked : (n p : ℕ) (ss : List ByteSpec) → 0 < n → Covers p (spec_runs n ss) → Asked n ss p
covered_asked n p [] h c = absurd c
covered_asked n p (s ∷ ss) h c = go (satisfiable n s) refl c (covered_asked n p ss h)
  where
    later : Asked n ss p → Asked n (s ∷ ss) p
    later a = record { spec = a.spec; is_listed = Memᴰ.tail a.is_listed; asks = a.asks }

    go : (b : Bool) → satisfiable n s ≡ b → Covers p (cond b (run_of n s ∷ spec_runs n ss) (spec_runs n ss)) → (Covers p (spec_runs n ss) → Asked n ss p)
        → Asked n (s ∷ ss) p
    go true e (inl i) rest = record { spec = s; is_listed = Memᴰ.head refl; asks = run_asks_lem n p s h e i }
    go true e (inr c) rest = later (rest c)
    go false e c rest = later (rest c)
