-- The next member from a position on: no position before it is one.
-- Assumes nothing.
use Prim.Native.Nat.{ℕ, ◌≤◌, ◌<◌, max}
use native.Mathlib.Omega.{arith}
use mathlib.Core.Path.{◌≡◌, refl, sym, ◌∙◌}
use mathlib.Core.Bool.{true, false, true≢false, or-true}
use mathlib.Core.List.{List, [], ◌∷◌}
use lib.Dec.{leb}
use borrow.Author.Tests.{leb-true, leb-false}
use Rattle.rules_server.specs.declared.Run.{Run}
use Rattle.rules_tablet.specs.Runs.{member, WellFormed}
use Rattle.laws_runs.specs.Spans.{next_held}
use Rattle.laws_runs.proofs.Lies.{on_cond, below_or, lies-before, lies-behind}
use Rattle.laws_runs.proofs.Members.{not-before, head-member}

-- the cases of the next member, by whether p lies behind the first run
next_cases : (P : ℕ → Type 0) (n p : ℕ) (r : Run) (rs : List Run) → (p ≤ r.last → P (max p r.first)) → (r.last < p → P (next_held n p rs))
    → P (next_held n p (r ∷ rs))
next_cases P n p r rs near far = on_cond P (leb p r.last) _ _ (λ e. near (leb-true _ _ e)) (λ e. far (leb-false _ _ e))

-- it is p or behind it, and no more than n
pub next_bounds : (lo n p : ℕ) (rs : List Run) → WellFormed lo n rs → p ≤ n → (p ≤ next_held n p rs) × (next_held n p rs ≤ n)
next_bounds lo n p [] h u = (u, omega arith)
next_bounds lo n p (r ∷ rs) h u =
    next_cases (λ m. (p ≤ m) × (m ≤ n)) n p r rs (λ l. (omega arith, omega arith)) (λ l. next_bounds _ n p rs h.3 u)

-- below n it is a member
pub next-member : (lo n p : ℕ) (rs : List Run) → WellFormed lo n rs → next_held n p rs < n → member (next_held n p rs) rs ≡ true
next-member lo n p [] h = λ u. absurd (omega arith)
next-member lo n p (r ∷ rs) h =
    next_cases (λ m. m < n → member m (r ∷ rs) ≡ true) n p r rs
    (λ l u. head-member (max p r.first) r rs (omega arith) (omega arith))
    (λ l u. rw (next-member _ n p rs h.3 u, or-true))

-- no position from p up to it is a member
pub next_free : (lo n p q : ℕ) (rs : List Run) → WellFormed lo n rs → p ≤ q → q < next_held n p rs → member q rs ≡ false
next_free lo n p q [] h a = λ u. refl
next_free lo n p q (r ∷ rs) h a =
    next_cases (λ m. q < m → member q (r ∷ rs) ≡ false) n p r rs
    (λ l u. rw (lies-before q r (omega arith)) (not-before _ n q rs h.3 (omega arith)))
    (λ l u. rw (lies-behind q r (omega arith)) (next_free _ n p q rs h.3 a u))

-- it lies behind p where p is no member
pub next-after : (lo n p : ℕ) (rs : List Run) → WellFormed lo n rs → p < n → member p rs ≡ false → p < next_held n p rs
next-after lo n p rs h u e =
    below_or p (next_held n p rs) (λ l. l) (λ l.
    let b = next_bounds lo n p rs h (omega arith) in
    let f : next_held n p rs ≡ p = omega arith in
    absurd (true≢false (sym (rw f at (next-member lo n p rs h (omega arith))) ∙ e)))
