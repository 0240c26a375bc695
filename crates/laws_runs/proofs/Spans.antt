-- Spans of positions: inserted one by one they add just these positions, and no run after the first.
-- Assumes nothing.
use Prim.Native.Nat.{ℕ, zero, suc, ◌+◌, ◌≤◌}
use native.Mathlib.Nat.{zero-add, add-zero}
use native.Mathlib.Omega.{arith}
use mathlib.Core.Path.{◌≡◌}
use mathlib.Core.Bool.{true, false, ◌&&◌, ◌||◌, and-false, or-false, or_assoc}
use mathlib.Core.List.{List}
use lib.Dec.{leb, ltb, eqb}
use lib.ListN.{length}
use borrow.Author.Tests.{le-leb, lt-leb, lt-ltb, le-ltb, eq-eqb, ne_eqb}
use Rattle.rules_server.specs.declared.Run.{Run}
use Rattle.rules_tablet.specs.Runs.{member, WellFormed, insert}
use Rattle.laws_runs.specs.Spans.{insert_span}
use Rattle.laws_runs.proofs.Lies.{below_or, equal_or}
use Rattle.laws_runs.proofs.Members.{formed_below}
use Rattle.laws_runs.proofs.Insert.{insert_formed, insert_member, insert_own, insert_next}

-- a span keeps the rule
pub span_formed : (n p k : ℕ) (rs : List Run) → p + k ≤ n → WellFormed 0 n rs → WellFormed 0 n (insert_span p k rs)
span_formed n p zero rs u h = h
span_formed n p (suc k) rs u h = span_formed n (suc p) k (insert p rs) (omega arith) (insert_formed n p rs (omega arith) h)

-- a position more keeps the rule below a higher end, wherever it lies
wider : (n p : ℕ) (rs : List Run) → WellFormed 0 n rs → WellFormed 0 (n + suc p) (insert p rs)
wider n p rs h = insert_formed (n + suc p) p rs (omega arith) (formed_below 0 n (n + suc p) rs (omega arith) h)

-- the k + 1 positions from p on are the k behind p, and p
span_first : (p q k : ℕ) → ((leb (suc p) q && ltb q (suc p + k)) || eqb q p) ≡ (leb p q && ltb q (p + suc k))
span_first p q k =
    let s : suc p + k ≡ p + suc k = omega arith in
    rw s
    (equal_or q p
    (λ e. rw (lt-leb (suc p) q (omega arith), eq-eqb q p e, le-leb p q (omega arith), lt-ltb q (p + suc k) (omega arith)))
    (λ e. rw (ne_eqb q p e, or-false)
    (below_or p q (λ l. rw (le-leb (suc p) q l, le-leb p q (omega arith))) (λ l. rw (lt-leb (suc p) q (omega arith), lt-leb p q (omega arith))))))

-- a span of no position has none
span_none : (p q : ℕ) → (leb p q && ltb q (p + 0)) ≡ false
span_none p q = below_or q p (λ l. rw (lt-leb p q l)) (λ l. rw (le-ltb q (p + 0) (omega arith), and-false))

-- a span adds just its positions
pub span_member : (n p k q : ℕ) (rs : List Run) → WellFormed 0 n rs → member q (insert_span p k rs) ≡ (leb p q && ltb q (p + k) || member q rs)
span_member n p zero q rs h = rw (span_none p q)
span_member n p (suc k) q rs h =
    rw (span_member (n + suc p) (suc p) k q (insert p rs) (wider n p rs h), insert_member n p q rs h, ← or_assoc, span_first p q k)

-- a span behind a member adds no run
pub span_next : (n p k : ℕ) (rs : List Run) → WellFormed 0 n rs → member p rs ≡ true → length (insert_span (suc p) k rs) ≤ length rs
span_next n p zero rs h e = omega arith
span_next n p (suc k) rs h e =
    omega (
      arith,
      span_next (n + suc (suc p)) (suc p) k (insert (suc p) rs) (wider n (suc p) rs h) (insert_own n (suc p) rs h),
      insert_next n p rs h e,
    )

-- along a span there are never more runs than with its first position: each further one is next to the one before; whether positions of the span are members
-- already does not matter
pub span_count : (n p j : ℕ) (rs : List Run) → WellFormed 0 n rs → 1 ≤ j → length (insert_span p j rs) ≤ length (insert p rs)
span_count n p zero rs h l = absurd (omega arith)
span_count n p (suc j) rs h l = span_next (n + suc p) p j (insert p rs) (wider n p rs h) (insert_own n p rs h)

-- two spans, one behind the other
pub span_append : (p j k : ℕ) (rs : List Run) → insert_span p (j + k) rs ≡ insert_span (p + j) k (insert_span p j rs)
span_append p zero k rs = simp (zero-add, add-zero)
span_append p (suc j) k rs =
    let s : p + suc j ≡ suc p + j = omega arith in
    let t : suc j + k ≡ suc (j + k) = omega arith in
    rw (t, s) (span_append (suc p) j k (insert p rs))
