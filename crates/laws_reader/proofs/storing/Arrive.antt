-- The rule on sets: positions are only added, the number of runs stays within the limit, and cells end to end.
-- Assumes nothing.
use Prim.Native.Nat.{ℕ, suc, ◌+◌, ◌≤◌, ◌<◌}
use native.Mathlib.Nat.{zero-add}
use native.Mathlib.Omega.{arith}
use mathlib.Core.Path.{◌≡◌, refl, sym, ◌∙◌}
use mathlib.Core.Bool.{Bool, true, false, true≢false, cond, or-true}
use mathlib.Core.List.{List, [], ◌∷◌, ◌++◌}
use lib.ListN.{length}
use borrow.Author.Tests.{ltb-false, le-ltb, eq-eqb, ne_eqb}
use Rattle.rules_server.specs.Answers.{Cell, own, from}
use Rattle.rules_tablet.specs.Runs.{maximal_runs, with}
use Rattle.laws_runs.proofs.Lies.{on_cond, equal_or}
use Rattle.laws_runs.proofs.Scan.{scan_same}
use Rattle.rules_demands.specs.Demand3Arrivals.{Set, too_many, arrive, admitted}

-- a position that is added is in the set
pub with_own : (p : ℕ) (set : Set) → with p set p ≡ true
with_own p set = rw (eq-eqb p p refl)

-- a position of the set is still in it
pub with_grows : (p q : ℕ) (set : Set) → set q ≡ true → with p set q ≡ true
with_grows p q set e = rw (e, or-true)

-- any other position is in it where it was
pub with_other : (p q : ℕ) (set : Set) → (q ≡ p → ⊥) → with p set q ≡ set q
with_other p q set f = rw (ne_eqb q p f)

-- a position that is not in it is another one
pub with_away : (p q : ℕ) (set : Set) → with p set q ≡ false → q ≡ p → ⊥
with_away p q set f e = true≢false (sym (with_own p set) ∙ (rw e at f))

-- a position of the set adds nothing
pub with-held : (p q : ℕ) (set : Set) → set p ≡ true → with p set q ≡ set q
with-held p q set e = equal_or q p (λ f. rw (eq-eqb q p f, f, e)) (λ f. with_other p q set f)

-- so its runs are the same
pub scan_held : (n p : ℕ) (set : Set) → set p ≡ true → maximal_runs n (with p set) ≡ maximal_runs n set
scan_held n p set e = scan_same n (with p set) set (λ q u. with-held p q set e)

-- a position that does not make too many runs leaves at most as many as the limit
pub few : (lim n p : ℕ) (set : Set) → too_many lim n p set ≡ false → length (maximal_runs n (with p set)) ≤ lim
unfolding too_many
few lim n p set e = ltb-false lim (length (maximal_runs n (with p set))) e

-- a position of a set within the limit does not make too many
pub few_held : (lim n p : ℕ) (set : Set) → set p ≡ true → length (maximal_runs n set) ≤ lim → too_many lim n p set ≡ false
unfolding too_many
few_held lim n p set e l = rw (scan_held n p set e) (le-ltb lim (length (maximal_runs n set)) l)

-- the set after a position, by whether it makes too many runs
pub arrive_by : (lim n p b : ℕ) (cs : List Cell) (set : Set) (t : Bool) → too_many lim n p set ≡ t
    → arrive lim n (from p b ∷ cs) set ≡ cond t set (arrive lim n cs (with p set))
arrive_by lim n p b cs set t e = rw e

-- and how many bytes are admitted
pub admitted_by : (lim n p b : ℕ) (cs : List Cell) (set : Set) (t : Bool) → too_many lim n p set ≡ t
    → admitted lim n (from p b ∷ cs) set ≡ cond t 0 (suc (admitted lim n cs (with p set)))
admitted_by lim n p b cs set t e = rw e

-- positions are only added
pub arrive_grows : (lim n : ℕ) (cells : List Cell) (set : Set) (p : ℕ) → set p ≡ true → arrive lim n cells set p ≡ true
arrive_grows lim n [] set p e = e
arrive_grows lim n (own b ∷ cs) set p e = arrive_grows lim n cs set p e
arrive_grows lim n (from q b ∷ cs) set p e =
    on_cond (λ (s : Set). s p ≡ true) (too_many lim n q set) set (arrive lim n cs (with q set))
    (λ f. e)
    (λ f. arrive_grows lim n cs (with q set) p (with_grows q p set e))

-- a position that is not there at the end never was
pub arrive-before : (lim n : ℕ) (cells : List Cell) (set : Set) (p : ℕ) → arrive lim n cells set p ≡ false → set p ≡ false
arrive-before lim n cells set p e = go (set p) refl
  where
    go : (x : Bool) → set p ≡ x → set p ≡ false
    go true f = absurd (true≢false (sym (arrive_grows lim n cells set p f) ∙ e))
    go false f = f

-- a set within the limit stays within it
pub arrive-bounded : (lim n : ℕ) (cells : List Cell) (set : Set) → length (maximal_runs n set) ≤ lim → length (maximal_runs n (arrive lim n cells set)) ≤ lim
arrive-bounded lim n [] set l = l
arrive-bounded lim n (own b ∷ cs) set l = arrive-bounded lim n cs set l
arrive-bounded lim n (from p b ∷ cs) set l =
    on_cond (λ (s : Set). length (maximal_runs n s) ≤ lim) (too_many lim n p set) set (arrive lim n cs (with p set))
    (λ e. l)
    (λ e. arrive-bounded lim n cs (with p set) (few lim n p set e))

-- no more is admitted than there is
pub admitted_le : (lim n : ℕ) (cells : List Cell) (set : Set) → admitted lim n cells set ≤ length cells
admitted_le lim n [] set = omega arith
admitted_le lim n (own b ∷ cs) set = omega (arith, admitted_le lim n cs set)
admitted_le lim n (from p b ∷ cs) set =
    on_cond (λ k. k ≤ suc (length cs)) (too_many lim n p set) 0 (suc (admitted lim n cs (with p set)))
    (λ e. omega arith)
    (λ e. omega (arith, admitted_le lim n cs (with p set)))

-- cells behind cells that are all admitted go on from the set that these leave
pub arrive-append : (lim n : ℕ) (a b : List Cell) (set : Set) → admitted lim n a set ≡ length a
    → arrive lim n (a ++ b) set ≡ arrive lim n b (arrive lim n a set)
arrive-append lim n [] b set e = refl
arrive-append lim n (own c ∷ a) b set e = arrive-append lim n a b set (omega arith)
arrive-append lim n (from p c ∷ a) b set e =
    (elim (too_many lim n p set) as (λ t. cond t 0 (suc (admitted lim n a (with p set))) ≡ suc (length a)
    → cond t set (arrive lim n (a ++ b) (with p set)) ≡ arrive lim n b (cond t set (arrive lim n a (with p set)))) [
      | true ↦ λ f. absurd (omega arith)
      | false ↦ λ f. arrive-append lim n a b (with p set) (omega arith)
    ]) e

-- behind cells that are not all admitted nothing is added
pub arrive_cut : (lim n : ℕ) (a b : List Cell) (set : Set) → admitted lim n a set < length a → arrive lim n (a ++ b) set ≡ arrive lim n a set
arrive_cut lim n [] b set l = absurd (omega arith)
arrive_cut lim n (own c ∷ a) b set l = arrive_cut lim n a b set (omega arith)
arrive_cut lim n (from p c ∷ a) b set l =
    (elim (too_many lim n p set) as (λ t. cond t 0 (suc (admitted lim n a (with p set))) < suc (length a)
    → cond t set (arrive lim n (a ++ b) (with p set)) ≡ cond t set (arrive lim n a (with p set))) [
      | true ↦ λ f. refl
      | false ↦ λ f. arrive_cut lim n a b (with p set) (omega arith)
    ]) l

-- cells behind cells that are all admitted are admitted as from the set that these leave
pub admitted-append : (lim n : ℕ) (a b : List Cell) (set : Set) → admitted lim n a set ≡ length a
    → admitted lim n (a ++ b) set ≡ length a + admitted lim n b (arrive lim n a set)
admitted-append lim n [] b set e = sym (zero-add _)
admitted-append lim n (own c ∷ a) b set e = omega (arith, admitted-append lim n a b set (omega arith))
admitted-append lim n (from p c ∷ a) b set e =
    (elim (too_many lim n p set) as (λ t. cond t 0 (suc (admitted lim n a (with p set))) ≡ suc (length a)
    → cond t 0 (suc (admitted lim n (a ++ b) (with p set))) ≡ suc (length a) + admitted lim n b (cond t set (arrive lim n a (with p set)))) [
      | true ↦ λ f. absurd (omega arith)
      | false ↦ λ f. omega (arith, admitted-append lim n a b (with p set) (omega arith))
    ]) e

-- behind cells that are not all admitted none is
pub admitted_cut : (lim n : ℕ) (a b : List Cell) (set : Set) → admitted lim n a set < length a → admitted lim n (a ++ b) set ≡ admitted lim n a set
admitted_cut lim n [] b set l = absurd (omega arith)
admitted_cut lim n (own c ∷ a) b set l = omega (arith, admitted_cut lim n a b set (omega arith))
admitted_cut lim n (from p c ∷ a) b set l =
    (elim (too_many lim n p set) as (λ t. cond t 0 (suc (admitted lim n a (with p set))) < suc (length a)
    → cond t 0 (suc (admitted lim n (a ++ b) (with p set))) ≡ cond t 0 (suc (admitted lim n a (with p set)))) [
      | true ↦ λ f. refl
      | false ↦ λ f. omega (arith, admitted_cut lim n a b (with p set) (omega arith))
    ]) l
