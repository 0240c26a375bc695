-- The place of the first spec that begins inside a run: of two runs that meet, the hull has the lesser.
-- Assumes nothing.
use Prim.Native.Nat.{ℕ, suc, ◌≤◌, min}
use native.Mathlib.Omega.{arith}
use mathlib.Core.Path.{◌≡◌, refl, sym, ◌∙◌}
use mathlib.Core.Logic.{◌⊎◌, inl, inr}
use mathlib.Core.Bool.{Bool, true, false, cond, ◌&&◌, ◌||◌, true≢false, false≢true, and-eq-true_iff}
use mathlib.Core.List.{List, [], ◌∷◌, ◌++◌}
use lib.Dec.{leb}
use lib.ListN.{length}
use borrow.Author.Tests.{leb-true, le-leb}
use Rattle.rules_server.specs.Limits.{merge_gap}
use Rattle.rules_server.specs.Ranges.{ByteSpec, satisfiable}
use Rattle.rules_server.specs.Parts.{near, hull, run_of}
use Rattle.rules_server.specs.declared.Run.{Run}
use Rattle.rules_demands.specs.Positions.{In}
use Rattle.laws_server.proofs.Runs.{tested}
use Rattle.laws_server.proofs.Covering.{in_left, in_right, in_hull}

-- the spec is satisfiable and begins inside the run
abbrev pub starts_in : ℕ → Run → ByteSpec → Bool
starts_in n r s = satisfiable n s && (leb r.first (run_of n s).first && leb (run_of n s).first r.last)

-- the place in the list of the first spec that begins inside a run, or the list's length
abbrev pub starting : ℕ → Run → List ByteSpec → ℕ
starting n r [] = 0
starting n r (s ∷ ss) = cond (starts_in n r s) 0 (suc (starting n r ss))

-- the test, as the facts that it compares
pub starts_true : (n : ℕ) (r : Run) (s : ByteSpec) → starts_in n r s ≡ true → (satisfiable n s ≡ true) × In (run_of n s).first r
starts_true n r s e =
    let h = (and-eq-true_iff (satisfiable n s) (leb r.first (run_of n s).first && leb (run_of n s).first r.last)).0 e in
    let k = (and-eq-true_iff (leb r.first (run_of n s).first) (leb (run_of n s).first r.last)).0 h.1 in
    (h.0, (leb-true _ _ k.0, leb-true _ _ k.1))

-- and the other way
pub true_starts : (n : ℕ) (r : Run) (s : ByteSpec) → satisfiable n s ≡ true → In (run_of n s).first r → starts_in n r s ≡ true
true_starts n r s e h = rw (e, le-leb _ _ h.0, le-leb _ _ h.1)

-- a spec begins inside the hull of two runs that meet when it begins inside one of them
pub starts_hull : (n : ℕ) (r q : Run) (s : ByteSpec) → near merge_gap r q ≡ true → starts_in n (hull r q) s ≡ (starts_in n r s || starts_in n q s)
starts_hull n r q s e = go (starts_in n r s) refl (starts_in n q s) refl
  where
    back : starts_in n (hull r q) s ≡ true → In (run_of n s).first r ⊎ In (run_of n s).first q → starts_in n r s ≡ false → starts_in n q s ≡ false → ⊥
    back t (inl i) f g = true≢false (sym (true_starts n r s (starts_true n (hull r q) s t).0 i) ∙ f)
    back t (inr i) f g = true≢false (sym (true_starts n q s (starts_true n (hull r q) s t).0 i) ∙ g)

    neither : starts_in n r s ≡ false → starts_in n q s ≡ false → starts_in n (hull r q) s ≡ false
    neither f g = tested (starts_in n (hull r q) s) (λ t. absurd (back t (in_hull (run_of n s).first r q e (starts_true n (hull r q) s t).1) f g)) (λ t. t)

    first : starts_in n r s ≡ true → starts_in n (hull r q) s ≡ true
    first t = let h = starts_true n r s t in true_starts n (hull r q) s h.0 (in_left (run_of n s).first r q h.1)

    second : starts_in n q s ≡ true → starts_in n (hull r q) s ≡ true
    second t = let h = starts_true n q s t in true_starts n (hull r q) s h.0 (in_right (run_of n s).first r q h.1)

    go : (a : Bool) → starts_in n r s ≡ a → (b : Bool) → starts_in n q s ≡ b → starts_in n (hull r q) s ≡ (a || b)
    go true f b g = first f
    go false f true g = second g
    go false f false g = neither f g

-- so the first place of the hull is the lesser of theirs
pub starting_hull : (n : ℕ) (r q : Run) (ss : List ByteSpec) → near merge_gap r q ≡ true → starting n (hull r q) ss ≡ min (starting n r ss) (starting n q ss)
starting_hull n r q [] e = omega arith
starting_hull n r q (s ∷ ss) e = go (starts_in n r s) (starts_in n q s) (starts_in n (hull r q) s) (starts_hull n r q s e) (starting_hull n r q ss e)
  where
    go : (a b c : Bool) → c ≡ (a || b) → starting n (hull r q) ss ≡ min (starting n r ss) (starting n q ss)
        → cond c 0 (suc (starting n (hull r q) ss)) ≡ min (cond a 0 (suc (starting n r ss))) (cond b 0 (suc (starting n q ss)))
    go true b true h k = omega arith
    go true b false h k = absurd (false≢true h)
    go false true true h k = omega arith
    go false true false h k = absurd (false≢true h)
    go false false true h k = absurd (true≢false h)
    go false false false h k = omega arith

-- the spec at a run's first place begins inside the run
pub starting_at : (n : ℕ) (r : Run) (before : List ByteSpec) (s : ByteSpec) (after : List ByteSpec) → starting n r (before ++ s ∷ after) ≡ length before
    → starts_in n r s ≡ true
starting_at n r [] s after e = go (starts_in n r s) e
  where
    go : (b : Bool) → cond b 0 (suc (starting n r after)) ≡ 0 → b ≡ true
    go true e = refl
    go false e = absurd (omega arith)
starting_at n r (t ∷ before) s after e = go (starts_in n r t) e (starting_at n r before s after)
  where
    go : (b : Bool) → cond b 0 (suc (starting n r (before ++ s ∷ after))) ≡ suc (length before)
        → (starting n r (before ++ s ∷ after) ≡ length before → starts_in n r s ≡ true) → starts_in n r s ≡ true
    go true e rest = absurd (omega arith)
    go false e rest = rest (omega arith)

-- a spec that begins inside a run stands at its first place or later
pub starting_le : (n : ℕ) (r : Run) (before : List ByteSpec) (s : ByteSpec) (after : List ByteSpec) → starts_in n r s ≡ true
    → starting n r (before ++ s ∷ after) ≤ length before
starting_le n r [] s after e = rw e (omega arith)
starting_le n r (t ∷ before) s after e = go (starts_in n r t) (starting_le n r before s after e)
  where
    go : (b : Bool) → starting n r (before ++ s ∷ after) ≤ length before → cond b 0 (suc (starting n r (before ++ s ∷ after))) ≤ suc (length before)
    go true h = omega arith
    go false h = omega arith
