-- One position more: the rule is kept, just that position is added, and at most a run.
-- Assumes nothing.
use Prim.Native.Nat.{ℕ, suc, ◌≤◌, ◌<◌}
use native.Mathlib.Omega.{arith}
use mathlib.Core.Path.{◌≡◌, refl, sym, ap, ◌∙◌}
use mathlib.Core.Bool.{Bool, true, false, true≢false, ◌||◌, or_assoc}
use mathlib.Core.List.{List, [], ◌∷◌}
use lib.Dec.{leb, ltb, eqb}
use lib.ListN.{length}
use borrow.Author.Tests.{leb-true, leb-false, ltb-true, ltb-false, eqb-true, eqb-false, eq-eqb, ne_eqb}
use Rattle.rules_server.specs.declared.Run.{Run}
use Rattle.rules_tablet.specs.Runs.{run, lies, member, WellFormed, join_next, insert}
use Rattle.laws_runs.proofs.Lies.{on_cond, equal_or, lies_in_lem, lies-behind, lies_point, lies_split}
use Rattle.laws_runs.proofs.Members.{not-before, member_below, unique}

-- the cases of a run before others
pub join_cases : (P : List Run → Type 0) (a b : ℕ) (r : Run) (rs : List Run)
    → (r.first ≡ suc b → P (run a r.last ∷ rs))
    → ((r.first ≡ suc b → ⊥) → P (run a b ∷ r ∷ rs))
    → P (join_next a b (r ∷ rs))
join_cases P a b r rs touch apart = on_cond P (eqb r.first (suc b)) _ _ (λ e. touch (eqb-true _ _ e)) (λ e. apart (eqb-false _ _ e))

-- the cases of a position among runs
pub insert_cases : (P : List Run → Type 0) (p : ℕ) (r : Run) (rs : List Run)
    → (suc p < r.first → P (run p p ∷ r ∷ rs))
    → (suc p ≡ r.first → P (run p r.last ∷ rs))
    → (r.first ≤ p → p ≤ r.last → P (r ∷ rs))
    → (r.first ≤ p → p ≡ suc r.last → P (join_next r.first p rs))
    → (r.first ≤ p → suc r.last < p → P (r ∷ insert p rs))
    → P (insert p (r ∷ rs))
insert_cases P p r rs before touches inside follows behind =
    on_cond P (ltb (suc p) r.first) _ _ (λ e. before (ltb-true _ _ e)) (λ e.
    let a = ltb-false (suc p) r.first e in
    on_cond P (ltb p r.first) _ _ (λ f. let b = ltb-true p r.first f in touches (omega arith)) (λ f.
    let b = ltb-false p r.first f in
    on_cond P (leb p r.last) _ _ (λ g. inside b (leb-true _ _ g)) (λ g.
    let c = leb-false p r.last g in
    on_cond P (eqb p (suc r.last)) _ _ (λ k. follows b (eqb-true _ _ k)) (λ k.
    let d = eqb-false p (suc r.last) k in
    behind b (omega arith)))))

-- a run before the others keeps the rule
pub join_formed : (lo n a b : ℕ) (rs : List Run) → lo ≤ a → a ≤ b → b < n → WellFormed (suc b) n rs → WellFormed lo n (join_next a b rs)
join_formed lo n a b [] l m u h = (l, m, u, tt)
join_formed lo n a b (r ∷ rs) l m u h =
    join_cases (WellFormed lo n) a b r rs
    (λ e. (l, omega arith, h.2, h.3))
    (λ e. (l, m, u, (omega arith, h.1, h.2, h.3)))

-- a run before the others adds its positions
pub join_member : (n a b q : ℕ) (rs : List Run) → a ≤ b → WellFormed (suc b) n rs → member q (join_next a b rs) ≡ (lies q (run a b) || member q rs)
join_member n a b q [] m h = refl
join_member n a b q (r ∷ rs) m h =
    join_cases (λ l. member q l ≡ (lies q (run a b) || member q (r ∷ rs))) a b r rs
    (λ e. rw (lies_split q a b r.last (omega arith) (omega arith), e) (or_assoc (lies q (run a b)) _ _))
    (λ e. refl)

-- a run before the others is at most a run more
pub join_count : (a b : ℕ) (rs : List Run) → length (join_next a b rs) ≤ suc (length rs)
join_count a b [] = omega arith
join_count a b (r ∷ rs) = join_cases (λ l. length l ≤ suc (suc (length rs))) a b r rs (λ e. omega arith) (λ e. omega arith)

-- a position more keeps the rule from lo on
pub insert_formed_from : (lo n p : ℕ) (rs : List Run) → lo ≤ p → p < n → WellFormed lo n rs → WellFormed lo n (insert p rs)
insert_formed_from lo n p [] l u h = (l, omega arith, u, tt)
insert_formed_from lo n p (r ∷ rs) l u h =
    insert_cases (WellFormed lo n) p r rs
    (λ e. (l, omega arith, u, (e, h.1, h.2, h.3)))
    (λ e. (l, omega arith, h.2, h.3))
    (λ a b. h)
    (λ a e. join_formed lo n r.first p rs h.0 a u (rw e h.3))
    (λ a e. (h.0, h.1, h.2, insert_formed_from _ n p rs e u h.3))

-- a position more keeps the rule
pub insert_formed : (n p : ℕ) (rs : List Run) → p < n → WellFormed 0 n rs → WellFormed 0 n (insert p rs)
insert_formed n p rs u h = insert_formed_from 0 n p rs (omega arith) u h

-- the first two of three swapped
or_swap : (a b c : Bool) → (a || (b || c)) ≡ (b || (a || c))
or_swap true true c = refl
or_swap true false c = refl
or_swap false b c = refl

-- a test that another one contains
or_absorb : (a b c : Bool) → (a ≡ true → b ≡ true) → (b || c) ≡ (a || (b || c))
or_absorb true b c h = rw (h refl)
or_absorb false b c h = refl

-- a position more adds just that position, from lo on
pub insert-member-from : (lo n p q : ℕ) (rs : List Run) → WellFormed lo n rs → member q (insert p rs) ≡ (eqb q p || member q rs)
insert-member-from lo n p q [] h = ap (λ (t : Bool). t || false) (lies_point q p)
insert-member-from lo n p q (r ∷ rs) h =
    insert_cases (λ l. member q l ≡ (eqb q p || member q (r ∷ rs))) p r rs
    (λ e. rw (lies_point q p))
    (λ e. rw (lies_split q p p r.last (omega arith) (omega arith), lies_point q p, e) (or_assoc (eqb q p) (lies q r) (member q rs)))
    (λ a b. or_absorb (eqb q p) (lies q r) (member q rs) (λ e. let f = eqb-true q p e in lies_in_lem q r (omega arith) (omega arith)))
    (λ a e.
    rw (
      join_member n r.first p q rs a (rw e h.3),
      lies_split q r.first r.last p (omega arith) (omega arith),
      ← e,
      lies_point q p,
      or_assoc,
    )
    (or_swap (lies q r) (eqb q p) (member q rs)))
    (λ a e. rw (insert-member-from _ n p q rs h.3) (or_swap (lies q r) (eqb q p) (member q rs)))

-- a position more adds just that position
pub insert_member : (n p q : ℕ) (rs : List Run) → WellFormed 0 n rs → member q (insert p rs) ≡ (eqb q p || member q rs)
insert_member n p q rs h = insert-member-from 0 n p q rs h

-- the position itself is a member then
pub insert_own : (n p : ℕ) (rs : List Run) → WellFormed 0 n rs → member p (insert p rs) ≡ true
insert_own n p rs h = rw (insert_member n p p rs h, eq-eqb p p refl)

-- a member that is inserted changes nothing
pub insert_same : (n p : ℕ) (rs : List Run) → WellFormed 0 n rs → member p rs ≡ true → insert p rs ≡ rs
insert_same n p rs h e =
    unique n (insert p rs) rs (insert_formed n p rs (member_below n p rs h e) h) h
    (λ q l. rw (insert_member n p q rs h) (equal_or q p (λ f. rw (f, eq-eqb p p refl) (sym e)) (λ f. rw (ne_eqb q p f))))

-- a position more is at most a run more, whatever the runs
insert-count_any : (p : ℕ) (rs : List Run) → length (insert p rs) ≤ suc (length rs)
insert-count_any p [] = omega arith
insert-count_any p (r ∷ rs) =
    insert_cases (λ l. length l ≤ suc (suc (length rs))) p r rs
    (λ e. omega arith)
    (λ e. omega arith)
    (λ a b. omega arith)
    (λ a e. omega (arith, join_count r.first p rs))
    (λ a e. omega (arith, insert-count_any p rs))

-- a position more is at most a run more
pub insert_count : (n p : ℕ) (rs : List Run) → WellFormed 0 n rs → length (insert p rs) ≤ suc (length rs)
insert_count n p rs h = insert-count_any p rs

-- a position next to a member, before or behind it, adds no run
beside : (lo n p m : ℕ) (rs : List Run) → m ≤ suc p → p ≤ suc m → WellFormed lo n rs → member m rs ≡ true → length (insert p rs) ≤ length rs
beside lo n p m [] a b h e = absurd (true≢false (sym e))
beside lo n p m (r ∷ rs) a b h e =
    insert_cases (λ l. length l ≤ suc (length rs)) p r rs
    (λ l. absurd (true≢false (sym e ∙ not-before r.first n m (r ∷ rs) (omega arith, h.1, h.2, h.3) (omega arith))))
    (λ l. omega arith)
    (λ l u. omega arith)
    (λ l u. join_count r.first p rs)
    (λ l u. omega (arith, beside _ n p m rs a b h.3 (rw (lies-behind m r (omega arith)) at e)))

-- a position behind a member adds no run
pub insert_next : (n p : ℕ) (rs : List Run) → WellFormed 0 n rs → member p rs ≡ true → length (insert (suc p) rs) ≤ length rs
insert_next n p rs h e = beside 0 n (suc p) p rs (omega arith) (omega arith) h e

-- a position before a member adds no run
pub insert_before : (n p : ℕ) (rs : List Run) → WellFormed 0 n rs → member (suc p) rs ≡ true → length (insert p rs) ≤ length rs
insert_before n p rs h e = beside 0 n p (suc p) rs (omega arith) (omega arith) h e
