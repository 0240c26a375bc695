-- The holes: the maximal runs of what is missing.
-- Assumes nothing.
use Prim.Native.Nat.{ℕ, suc, ◌-◌, ◌≤◌, ◌<◌}
use native.Mathlib.Omega.{arith}
use mathlib.Core.Path.{◌≡◌, refl}
use mathlib.Core.Bool.{true, not}
use mathlib.Core.List.{List, [], ◌∷◌}
use lib.Dec.{ltb}
use lib.ListN.{length}
use borrow.Author.Tests.{ltb-true, ltb-false}
use Rattle.rules_server.specs.declared.Run.{Run}
use Rattle.rules_tablet.specs.Runs.{run, member, WellFormed, hole, holes_from, holes}
use Rattle.laws_runs.proofs.Lies.{on_cond, below_or, lies_in_lem, lies-before, lies-behind}
use Rattle.laws_runs.proofs.Members.{formed_from, not-before, head-member}

-- the cases of a hole from a up to b
pub hole_cases : (P : List Run → Type 0) (a b : ℕ) (rest : List Run) → (a < b → P (run a (b - 1) ∷ rest)) → (b ≤ a → P rest) → P (hole a b rest)
hole_cases P a b rest some none = on_cond P (ltb a b) _ _ (λ e. some (ltb-true _ _ e)) (λ e. none (ltb-false _ _ e))

-- the holes from a on keep the rule
pub holes_formed_from : (lo a n : ℕ) (rs : List Run) → lo ≤ a → WellFormed a n rs → WellFormed lo n (holes_from a n rs)
holes_formed_from lo a n [] l h = hole_cases (WellFormed lo n) a n [] (λ e. (l, omega arith, omega arith, tt)) (λ e. tt)
holes_formed_from lo a n (r ∷ rs) l h =
    let k = formed_from _ (suc r.last) n rs (omega arith) h.3 in
    hole_cases (WellFormed lo n) a r.first _
    (λ e. (l, omega arith, omega arith, holes_formed_from (suc (suc (r.first - 1))) (suc r.last) n rs (omega arith) k))
    (λ e. holes_formed_from lo (suc r.last) n rs (omega arith) k)

-- the holes keep the rule
pub holes_formed : (n : ℕ) (rs : List Run) → WellFormed 0 n rs → WellFormed 0 n (holes n rs)
holes_formed n rs h = holes_formed_from 0 0 n rs (omega arith) h

-- the positions of a hole are members
hole_in : (a b q : ℕ) (rest : List Run) → a ≤ q → q < b → member q (hole a b rest) ≡ true
hole_in a b q rest l u = hole_cases (λ rs. member q rs ≡ true) a b rest (λ e. head-member q (run a (b - 1)) rest l (omega arith)) (λ e. absurd (omega arith))

-- a position behind a hole is a member where it is one of the rest
hole-behind : (a b q : ℕ) (rest : List Run) → b ≤ q → member q (hole a b rest) ≡ member q rest
hole-behind a b q rest l = hole_cases (λ rs. member q rs ≡ member q rest) a b rest (λ e. rw (lies-behind q (run a (b - 1)) (omega arith))) (λ e. refl)

-- the members of the holes from a on are the positions that are missing
pub holes-member-from : (a n q : ℕ) (rs : List Run) → WellFormed a n rs → a ≤ q → q < n → member q (holes_from a n rs) ≡ not (member q rs)
holes-member-from a n q [] h l u = hole_in a n q [] l u
holes-member-from a n q (r ∷ rs) h l u =
    let k = formed_from _ (suc r.last) n rs (omega arith) h.3 in
    below_or q r.first
    (λ e. rw (hole_in a r.first q (holes_from (suc r.last) n rs) l e, lies-before q r e, not-before _ n q rs k (omega arith)))
    (λ e. rw (hole-behind a r.first q (holes_from (suc r.last) n rs) e)
    (below_or r.last q
    (λ f. rw (lies-behind q r f) (holes-member-from (suc r.last) n q rs k f u))
    (λ f. rw (lies_in_lem q r e f) (not-before (suc r.last) n q (holes_from (suc r.last) n rs) (holes_formed_from _ (suc r.last) n rs (omega arith) k)
    (omega arith)))))

-- the members of the holes are the positions that are missing
pub holes_member : (n p : ℕ) (rs : List Run) → WellFormed 0 n rs → p < n → member p (holes n rs) ≡ not (member p rs)
holes_member n p rs h u = holes-member-from 0 n p rs h (omega arith) u

-- there are at most as many holes from a on as runs, and one more
holes-count-from : (a n : ℕ) (rs : List Run) → length (holes_from a n rs) ≤ suc (length rs)
holes-count-from a n [] = hole_cases (λ hs. length hs ≤ 1) a n [] (λ e. omega arith) (λ e. omega arith)
holes-count-from a n (r ∷ rs) =
    let k = holes-count-from (suc r.last) n rs in
    hole_cases (λ hs. length hs ≤ suc (suc (length rs))) a r.first _ (λ e. omega arith) (λ e. omega arith)

-- there are at most as many holes as runs, and one more
pub holes_count : (n : ℕ) (rs : List Run) → WellFormed 0 n rs → length (holes n rs) ≤ suc (length rs)
holes_count n rs h = holes-count-from 0 n rs
