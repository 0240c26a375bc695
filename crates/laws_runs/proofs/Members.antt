-- Members of well-formed runs: which positions are none, and that runs with the same members are the same.
-- Assumes nothing.
use Prim.Native.Nat.{ℕ, suc, ◌≤◌, ◌<◌}
use native.Mathlib.Omega.{arith}
use mathlib.Core.Path.{◌≡◌, refl, sym, ap₂, ◌∙◌}
use mathlib.Core.Bool.{true, false, true≢false, ◌&&◌, and-eq-true_iff}
use mathlib.Core.List.{List, [], ◌∷◌}
use lib.Dec.{leb, ltb}
use borrow.Author.Tests.{leb-true, ltb-true, le-leb, lt-ltb}
use Rattle.rules_server.specs.declared.Run.{Run}
use Rattle.rules_tablet.specs.Runs.{member, WellFormed, well_formed}
use Rattle.laws_runs.proofs.Lies.{below_or, lies_in_lem, lies-before, lies-behind}

-- the test holds: so does the rule
pub test_true : (lo n : ℕ) (rs : List Run) → well_formed lo n rs ≡ true → WellFormed lo n rs
test_true lo n [] e = tt
test_true lo n (r ∷ rs) e =
    let a = (and-eq-true_iff (leb lo r.first && leb r.first r.last && ltb r.last n) _).0 e in
    let b = (and-eq-true_iff (leb lo r.first && leb r.first r.last) _).0 a.0 in
    let c = (and-eq-true_iff (leb lo r.first) _).0 b.0 in
    (leb-true _ _ c.0, leb-true _ _ c.1, ltb-true _ _ b.1, test_true _ n rs a.1)

-- the rule holds: so does the test
pub true_test : (lo n : ℕ) (rs : List Run) → WellFormed lo n rs → well_formed lo n rs ≡ true
true_test lo n [] h = refl
true_test lo n (r ∷ rs) h = rw (le-leb _ _ h.0, le-leb _ _ h.1, lt-ltb _ _ h.2) (true_test _ n rs h.3)

-- runs well-formed from lo on are so from any earlier position on
pub formed_from : (lo lower n : ℕ) (rs : List Run) → lower ≤ lo → WellFormed lo n rs → WellFormed lower n rs
formed_from lo lower n [] l h = tt
formed_from lo lower n (r ∷ rs) l h = (omega arith, h.1, h.2, h.3)

-- runs well-formed below n are so below any higher end
pub formed_below : (lo n higher : ℕ) (rs : List Run) → n ≤ higher → WellFormed lo n rs → WellFormed lo higher rs
formed_below lo n higher [] l h = tt
formed_below lo n higher (r ∷ rs) l h = (h.0, h.1, omega arith, formed_below _ n higher rs l h.3)

-- no member lies before the start
pub not-before : (lo n q : ℕ) (rs : List Run) → WellFormed lo n rs → q < lo → member q rs ≡ false
not-before lo n q [] h l = refl
not-before lo n q (r ∷ rs) h l = rw (lies-before q r (omega arith)) (not-before _ n q rs h.3 (omega arith))

-- no member lies at n or behind it
pub not-behind : (lo n q : ℕ) (rs : List Run) → WellFormed lo n rs → n ≤ q → member q rs ≡ false
not-behind lo n q [] h l = refl
not-behind lo n q (r ∷ rs) h l = rw (lies-behind q r (omega arith)) (not-behind _ n q rs h.3 l)

-- members lie below n
pub member_below : (n p : ℕ) (rs : List Run) → WellFormed 0 n rs → member p rs ≡ true → p < n
member_below n p rs h e = below_or p n (λ l. l) (λ l. absurd (true≢false (sym e ∙ not-behind 0 n p rs h l)))

-- the positions of the first run are members
pub head-member : (q : ℕ) (r : Run) (rs : List Run) → r.first ≤ q → q ≤ r.last → member q (r ∷ rs) ≡ true
head-member q r rs a b = rw (lies_in_lem q r a b)

-- the position behind the first run is none
pub gap_member : (lo n : ℕ) (r : Run) (rs : List Run) → WellFormed lo n (r ∷ rs) → member (suc r.last) (r ∷ rs) ≡ false
gap_member lo n r rs h = rw (lies-behind (suc r.last) r (omega arith)) (not-before _ n _ rs h.3 (omega arith))

-- the same positions are members
abbrev pub Same : List Run → List Run → Type 0
Same rs qs = (p : ℕ) → member p rs ≡ member p qs

-- of two lists with the same members the first run begins no later
first_le : (lo n : ℕ) (r q : Run) (rs qs : List Run) → WellFormed lo n (r ∷ rs) → WellFormed lo n (q ∷ qs) → Same (r ∷ rs) (q ∷ qs) → r.first ≤ q.first
first_le lo n r q rs qs h k s =
    below_or q.first r.first
    (λ l. absurd (true≢false (
    sym (head-member q.first q qs (omega arith) k.1)
    ∙ sym (s q.first)
    ∙ not-before r.first n q.first (r ∷ rs) (omega arith, h.1, h.2, h.3) l)))
    (λ l. l)

-- where both begin together, the first run ends no sooner
last_le : (lo n : ℕ) (r q : Run) (rs qs : List Run) → WellFormed lo n (r ∷ rs) → WellFormed lo n (q ∷ qs) → r.first ≡ q.first → Same (r ∷ rs) (q ∷ qs)
    → q.last ≤ r.last
last_le lo n r q rs qs h k e s =
    below_or r.last q.last
    (λ l. absurd (true≢false (
    sym (head-member (suc r.last) q qs (omega arith) (omega arith))
    ∙ sym (s (suc r.last))
    ∙ gap_member lo n r rs h)))
    (λ l. l)

-- where both end together, the members behind the first run are the same
rest_same : (lo n : ℕ) (r q : Run) (rs qs : List Run) → WellFormed lo n (r ∷ rs) → WellFormed lo n (q ∷ qs) → r.last ≡ q.last → Same (r ∷ rs) (q ∷ qs)
    → Same rs qs
rest_same lo n r q rs qs h k e s p =
    below_or r.last p
    (λ l. simp (lies-behind p r l, lies-behind p q (omega arith)) at (s p))
    (λ l. not-before _ n p rs h.3 (omega arith) ∙ sym (not-before _ n p qs k.3 (omega arith)))

-- runs with the same members are the same, from lo on
same-runs : (lo n : ℕ) (rs qs : List Run) → WellFormed lo n rs → WellFormed lo n qs → Same rs qs → rs ≡ qs
same-runs lo n [] [] h k s = refl
same-runs lo n [] (q ∷ qs) h k s = absurd (true≢false (sym (head-member q.first q qs (omega arith) k.1) ∙ sym (s q.first)))
same-runs lo n (r ∷ rs) [] h k s = absurd (true≢false (sym (head-member r.first r rs (omega arith) h.1) ∙ s r.first))
same-runs lo n (r ∷ rs) (q ∷ qs) h k s =
    let t : Same (q ∷ qs) (r ∷ rs) = λ p. sym (s p) in
    let a : r.first ≡ q.first = omega (arith, first_le lo n r q rs qs h k s, first_le lo n q r qs rs k h t) in
    let b : r.last ≡ q.last = omega (arith, last_le lo n r q rs qs h k a s, last_le lo n q r qs rs k h (sym a) t) in
    let e : r ≡ q = λ i. record { first = a i; last = b i } in
    let l = formed_from (suc (suc q.last)) (suc (suc r.last)) n qs (omega arith) k.3 in
    ap₂ ◌∷◌ e (same-runs _ n rs qs h.3 l (rest_same lo n r q rs qs h k b s))

-- runs with the same members below n are the same
pub unique : (n : ℕ) (rs qs : List Run) → WellFormed 0 n rs → WellFormed 0 n qs → ((p : ℕ) → p < n → member p rs ≡ member p qs) → rs ≡ qs
unique n rs qs h k s =
    same-runs 0 n rs qs h k
    (λ p. below_or p n (λ l. s p l) (λ l. not-behind 0 n p rs h l ∙ sym (not-behind 0 n p qs k l)))
