-- Positions next to each other, added to a set one by one: which they are, how many runs there are then, and that cells add them.
use Prim.Native.Nat.{ℕ, zero, suc, ◌+◌, ◌-◌, ◌≤◌, ◌<◌}
use native.Mathlib.Nat.{add-zero}
use native.Mathlib.Omega.{arith}
use mathlib.Core.Path.{◌≡◌, refl, sym, ◌∙◌, ap, fun_ext}
use mathlib.Core.Bool.{Bool, true, false, ◌&&◌, ◌||◌, or_assoc, or_comm}
use mathlib.Core.List.{List, [], ◌∷◌}
use lib.Dec.{leb, ltb, eqb, leb-suc-suc}
use lib.ListN.{length}
use borrow.Author.Tests.{le-ltb}
use Rattle.rules_server.specs.Answers.{Cell, own_then, from_then}
use Rattle.rules_server.specs.declared.Run.{Run}
use Rattle.rules_tablet.specs.Runs.{run, lies, member, maximal_runs, with}
use Rattle.laws_runs.specs.Spans.{insert_span}
use Rattle.laws_runs.proofs.Lies.{lies_in_lem}
use Rattle.laws_runs.proofs.Members.{unique}
use Rattle.laws_runs.proofs.Insert.{insert_count, insert_next, insert_before}
use Rattle.laws_runs.proofs.Scan.{scan_formed, scan_member, scan_insert}
use Rattle.laws_runs.proofs.Spans.{span_member, span_next}
use Rattle.rules_demands.specs.Demand3Arrivals.{Set, too_many, arrive, admitted}
use Rattle.laws_reader.proofs.storing.Arrive.{with_own, with_grows, arrive_by}

-- the set with the k positions from p on
abbrev pub with_span : ℕ → ℕ → Set → Set
with_span p zero set = set
with_span p (suc k) set = with_span (suc p) k (with p set)

-- its runs
scan_span : (n p k : ℕ) (set : Set) → p + k ≤ n → maximal_runs n (with_span p k set) ≡ insert_span p k (maximal_runs n set)
scan_span n p zero set u = refl
scan_span n p (suc k) set u = scan_span n (suc p) k (with p set) (omega arith) ∙ ap (insert_span (suc p) k) (scan_insert n p set (omega arith))

-- positions are only added
pub span_grows : (p k q : ℕ) (set : Set) → set q ≡ true → with_span p k set q ≡ true
span_grows p zero q set e = e
span_grows p (suc k) q set e = span_grows (suc p) k q (with p set) (with_grows p q set e)

-- just those from p on
pub span_held : (n p k q : ℕ) (set : Set) → p + k ≤ n → q < n → with_span p k set q ≡ (leb p q && ltb q (p + k) || set q)
span_held n p k q set u l =
    sym (scan_member n (with_span p k set) q l)
    ∙ ap (member q) (scan_span n p k set u)
    ∙ span_member n p k q (maximal_runs n set) (scan_formed n set)
    ∙ ap (λ (b : Bool). leb p q && ltb q (p + k) || b) (scan_member n set q l)

-- those of a run
pub run-held : (n q : ℕ) (r : Run) (set : Set) → r.first ≤ r.last → r.last < n → q < n
    → with_span r.first (suc r.last - r.first) set q ≡ (lies q r || set q)
run-held n q r set o u l =
    let e : r.first + (suc r.last - r.first) ≡ suc r.last = omega arith in
    span_held n r.first (suc r.last - r.first) q set (omega arith) l ∙ rw (e, leb-suc-suc q r.last)

-- the order in which two positions are added does not matter
with_swap : (p q : ℕ) (set : Set) → with p (with q set) ≡ with q (with p set)
with_swap p q set =
    fun_ext (λ x. sym (or_assoc (eqb x p) (eqb x q) (set x)) ∙ ap (λ (b : Bool). b || set x) (or_comm (eqb x p) (eqb x q))
    ∙ or_assoc (eqb x q) (eqb x p) (set x))

-- nor of a position and several
span_with : (p k q : ℕ) (set : Set) → with_span p k (with q set) ≡ with q (with_span p k set)
span_with p zero q set = refl
span_with p (suc k) q set = ap (with_span (suc p) k) (with_swap p q set) ∙ span_with (suc p) k q (with p set)

-- positions behind one of the set add no run
pub runs-next : (n p k : ℕ) (set : Set) → suc p + k ≤ n → set p ≡ true → length (maximal_runs n (with_span (suc p) k set)) ≤ length (maximal_runs n set)
runs-next n p k set u e = rw (scan_span n (suc p) k set u) (span_next n p k (maximal_runs n set) (scan_formed n set) (scan_member n set p (omega arith) ∙ e))

-- positions before one of the set add no run
pub runs-before : (n p k : ℕ) (set : Set) → p + k < n → set (p + k) ≡ true → length (maximal_runs n (with_span p k set)) ≤ length (maximal_runs n set)
runs-before n p zero set u e = omega arith
runs-before n p (suc k) set u e =
    let later = with_span (suc p) k set in
    let s : p + suc k ≡ suc p + k = omega arith in
    let ih = runs-before n (suc p) k set (omega arith) (rw (← s) e) in
    let touches : member (suc p) (maximal_runs n later) ≡ true = scan_member n later (suc p) (omega arith) ∙ first k (rw (← s) e) in
    let step = insert_before n p (maximal_runs n later) (scan_formed n later) touches in
    rw (span_with (suc p) k p set, scan_insert n p later (omega arith)) (omega arith)
  where
    first : (k : ℕ) → set (suc p + k) ≡ true → with_span (suc p) k set (suc p) ≡ true
    first zero e = rw add-zero at e
    first (suc k) e = span_grows (suc (suc p)) k (suc p) (with (suc p) set) (with_own (suc p) set)

-- a set of all positions is one run
pub runs-whole : (n : ℕ) (set : Set) → ((p : ℕ) → p < n → set p ≡ true) → length (maximal_runs n set) ≤ 1
runs-whole zero set h = omega arith
runs-whole (suc m) set h =
    let one = unique (suc m) (maximal_runs (suc m) set) (run 0 m ∷ []) (scan_formed (suc m) set) (omega arith, omega arith, omega arith, tt)
    (λ p l. scan_member (suc m) set p l ∙ h p l ∙ sym (rw (lies_in_lem p (run 0 m) (omega arith) (omega arith)))) in
    rw one (omega arith)

-- a position more is at most a run more
pub runs_more : (n p : ℕ) (set : Set) → p < n → length (maximal_runs n (with p set)) ≤ suc (length (maximal_runs n set))
runs_more n p set u = rw (scan_insert n p set u) (insert_count n p (maximal_runs n set) (scan_formed n set))

-- so are several positions next to each other
pub span_more : (n p k : ℕ) (set : Set) → p + k ≤ n → length (maximal_runs n (with_span p k set)) ≤ suc (length (maximal_runs n set))
span_more n p zero set u = omega arith
span_more n p (suc k) set u =
    let first = runs_more n p set (omega arith) in
    let others = runs-next n p k (with p set) (omega arith) (with_own p set) in
    omega arith

-- the position behind one that was added is no run more
runs_on : (n p : ℕ) (set : Set) → suc p < n → length (maximal_runs n (with (suc p) (with p set))) ≤ length (maximal_runs n (with p set))
runs_on n p set u =
    rw (scan_insert n (suc p) (with p set) u)
    (insert_next n p (maximal_runs n (with p set)) (scan_formed n (with p set)) (scan_member n (with p set) p (omega arith) ∙ with_own p set))

-- a position within the limit is not too many
not-many : (lim n p : ℕ) (set : Set) → length (maximal_runs n (with p set)) ≤ lim → too_many lim n p set ≡ false
unfolding too_many
not-many lim n p set l = le-ltb lim (length (maximal_runs n (with p set))) l

-- framing of its own adds nothing
pub arrive_own : (lim n : ℕ) (l : List ℕ) (rest : List Cell) (set : Set) → arrive lim n (own_then l rest) set ≡ arrive lim n rest set
arrive_own lim n [] rest set = refl
arrive_own lim n (b ∷ l) rest set = arrive_own lim n l rest set

-- and all of it is admitted
pub admitted_own : (lim n : ℕ) (l : List ℕ) (rest : List Cell) (set : Set) → admitted lim n (own_then l rest) set ≡ length l + admitted lim n rest set
admitted_own lim n [] rest set = omega arith
admitted_own lim n (b ∷ l) rest set = omega (arith, admitted_own lim n l rest set)

-- bytes from position p on add their positions, where the first is within the limit
pub arrive_span : (lim n p : ℕ) (l : List ℕ) (rest : List Cell) (set : Set) → p + length l ≤ n → length (maximal_runs n (with p set)) ≤ lim
    → arrive lim n (from_then p l rest) set ≡ arrive lim n rest (with_span p (length l) set)
arrive_span lim n p [] rest set u few = refl
arrive_span lim n p (b ∷ []) rest set u few = arrive_by lim n p b rest set false (not-many lim n p set few)
arrive_span lim n p (b ∷ c ∷ l) rest set u few =
    let next = runs_on n p set (omega arith) in
    arrive_by lim n p b (from_then (suc p) (c ∷ l) rest) set false (not-many lim n p set few)
    ∙ arrive_span lim n (suc p) (c ∷ l) rest (with p set) (omega arith) (omega arith)
