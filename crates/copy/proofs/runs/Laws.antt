-- A whole span that lies in a hole is added as one run.
-- Assumes nothing.
use Prim.Native.Nat.{ℕ, suc, ◌+◌, ◌-◌, ◌≤◌, ◌<◌}
use native.Mathlib.Omega.{arith}
use mathlib.Core.Path.{◌≡◌, refl, sym, ◌∙◌}
use mathlib.Core.Bool.{Bool, true, false, true≢false, ◌||◌, or_assoc, or_comm}
use mathlib.Core.List.{List, [], ◌∷◌}
use lib.Dec.{ltb, eqb, leb-suc-suc}
use borrow.Author.Tests.{ltb-true, ltb-false, eqb-true, eqb-false}
use Rattle.rules_server.specs.declared.Run.{Run}
use Rattle.rules_tablet.specs.Runs.{run, lies, member, WellFormed, join_next}
use Rattle.laws_runs.specs.Spans.{insert_span}
use Rattle.laws_runs.proofs.Lies.{on_cond, below_or, lies_split}
use Rattle.laws_runs.proofs.Members.{unique, head-member}
use Rattle.laws_runs.proofs.Insert.{join_formed, join_member}
use Rattle.laws_runs.proofs.Spans.{span_formed, span_member}
use Rattle.copy.specs.Lists.{add_run, Free, Missing}

-- the cases of a run among others
add_cases : (P : List Run → Type 0) (a b : ℕ) (r : Run) (rs : List Run)
    → (a < r.first → P (join_next a b (r ∷ rs)))
    → (r.first ≤ a → a ≡ suc r.last → P (join_next r.first b rs))
    → (r.first ≤ a → (a ≡ suc r.last → ⊥) → P (r ∷ add_run a b rs))
    → P (add_run a b (r ∷ rs))
add_cases P a b r rs before touches behind =
    on_cond P (ltb a r.first) _ _ (λ e. before (ltb-true _ _ e)) (λ e.
    let l = ltb-false a r.first e in
    on_cond P (eqb a (suc r.last)) _ _ (λ f. touches l (eqb-true _ _ f)) (λ f. behind l (eqb-false _ _ f)))

-- runs that begin at a or behind it and leave a to b free begin behind b
free_behind : (lo n a b : ℕ) (rs : List Run) → a ≤ lo → WellFormed lo n rs → Free a b rs → WellFormed (suc b) n rs
free_behind lo n a b [] l h free = tt
free_behind lo n a b (r ∷ rs) l h free =
    below_or b r.first
    (λ u. (u, h.1, h.2, h.3))
    (λ u. absurd (true≢false (sym (head-member r.first r rs (omega arith) h.1) ∙ free r.first (omega arith) u)))

-- the positions that a run and others leave free, the others leave free
free_rest : (a b : ℕ) (r : Run) (rs : List Run) → Free a b (r ∷ rs) → Free a b rs
free_rest a b r rs free q l u = go (lies q r) (member q rs) (free q l u)
  where
    go : (s t : Bool) → (s || t) ≡ false → t ≡ false
    go true t e = absurd (true≢false e)
    go false t e = e

-- a run that begins at a or before it, and does not have a, ends before a
ends-before : (a b : ℕ) (r : Run) (rs : List Run) → a ≤ b → r.first ≤ a → Free a b (r ∷ rs) → r.last < a
ends-before a b r rs m l free =
    below_or r.last a (λ u. u) (λ u. absurd (true≢false (sym (head-member a r rs l u) ∙ free a (omega arith) m)))

-- the run a to b in a hole keeps the rule
add_formed : (lo n a b : ℕ) (rs : List Run) → lo ≤ a → a ≤ b → b < n → WellFormed lo n rs → Free a b rs → WellFormed lo n (add_run a b rs)
add_formed lo n a b [] l m u h free = (l, m, u, tt)
add_formed lo n a b (r ∷ rs) l m u h free =
    add_cases (WellFormed lo n) a b r rs
    (λ e. join_formed lo n a b (r ∷ rs) l m u (free_behind r.first n a b (r ∷ rs) (omega arith) (omega arith, h.1, h.2, h.3) free))
    (λ e f. join_formed lo n r.first b rs h.0 (omega arith) u (free_behind _ n a b rs (omega arith) h.3 (free_rest a b r rs free)))
    (λ e f.
    let d = ends-before a b r rs m e free in
    (h.0, h.1, h.2, add_formed _ n a b rs (omega arith) m u h.3 (free_rest a b r rs free)))

-- the first two of three swapped
or_swap : (a b c : Bool) → (a || (b || c)) ≡ (b || (a || c))
or_swap a b c = sym (or_assoc a b c) ∙ rw (or_comm a b) (or_assoc b a c)

-- the run a to b in a hole adds its positions
add_member_lem : (lo n a b q : ℕ) (rs : List Run) → a ≤ b → WellFormed lo n rs → Free a b rs → member q (add_run a b rs) ≡ (lies q (run a b) || member q rs)
add_member_lem lo n a b q [] m h free = refl
add_member_lem lo n a b q (r ∷ rs) m h free =
    add_cases (λ l. member q l ≡ (lies q (run a b) || member q (r ∷ rs))) a b r rs
    (λ e. join_member n a b q (r ∷ rs) m (free_behind r.first n a b (r ∷ rs) (omega arith) (omega arith, h.1, h.2, h.3) free))
    (λ e f.
    rw (
      join_member n r.first b q rs (omega arith) (free_behind _ n a b rs (omega arith) h.3 (free_rest a b r rs free)),
      lies_split q r.first r.last b (omega arith) (omega arith),
      ← f,
      or_assoc,
    )
    (or_swap (lies q r) (lies q (run a b)) (member q rs)))
    (λ e f. rw (add_member_lem _ n a b q rs m h.3 (free_rest a b r rs free)) (or_swap (lies q r) (lies q (run a b)) (member q rs)))

-- a span of positions that are missing is added as one run
pub span_added : (n p k : ℕ) (rs : List Run) → WellFormed 0 n rs → Missing n p k rs → insert_span p k rs ≡ add_run p (p + (k - 1)) rs
span_added n p k rs h w =
    let b = p + (k - 1) in
    let e : p + k ≡ suc b = omega arith in
    let free : Free p b rs = λ q l u. w.free q l (omega arith) in
    unique n (insert_span p k rs) (add_run p b rs)
    (span_formed n p k rs w.below h)
    (add_formed 0 n p b rs (omega arith) (omega arith) (omega arith) h free)
    (λ q l. rw (span_member n p k q rs h, add_member_lem 0 n p b q rs (omega arith) h free, e, leb-suc-suc q b))
