-- Gathered runs stand in the order of the earliest spec inside each.
-- Assumes nothing.
use Prim.Native.Nat.{ℕ, suc, ◌≤◌, ◌<◌}
use native.Mathlib.Omega.{arith}
use mathlib.Core.Path.{◌≡◌, refl, sym, subst, ap, ◌∙◌}
use mathlib.Core.Logic.{inl, inr}
use mathlib.Core.Bool.{Bool, true, false, cond, ◌&&◌, true≢false}
use mathlib.Core.List.{List, [], ◌∷◌, ◌++◌}
use lib.Dec.{leb, ltb}
use lib.ListN.{length, length-append}
use lib.Seq.{append_snoc}
use borrow.Author.Tests.{leb-true, leb-false, le-leb, lt-leb, ltb-true, ltb-false}
use Rattle.rules_server.specs.Limits.{merge_gap}
use Rattle.rules_server.specs.Ranges.{ByteSpec, satisfiable}
use Rattle.rules_server.specs.Parts.{place, gather, run_of, spec_runs}
use Rattle.rules_server.specs.declared.Run.{Run}
use Rattle.rules_demands.specs.Positions.{Each, Pairs, RunIn, In, Covers}
use Rattle.laws_server.proofs.Runs.{tested, Apart, each_map, each_both}
use Rattle.laws_server.proofs.Covering.{covers_each, place_covers}
use Rattle.laws_server.proofs.Starting.{starts_in, starting, starts_true, true_starts, starting_at, starting_le}
use Rattle.laws_server.proofs.Order.{Reach, Earlier, place-ordered, place-bounded}

-- the runs made of the specs before number i: each begins with one of those, and those begin in them
pub record Made (n : ℕ) (ss : List ByteSpec) (i : ℕ) (rs : List Run) : Type 0 where
  pub reach : (x : Run) → starting n x ss < i → Reach n ss x rs
  pub bounded : Each (λ (r : Run). starting n r ss < i) rs
  pub ordered : Pairs (Earlier n ss) rs

module _ (n : ℕ) (ss before : List ByteSpec) (s : ByteSpec) (after : List ByteSpec) (split : ss ≡ before ++ s ∷ after) where
  -- the spec at number `length before` is s
  at_split : (x : Run) → starting n x ss ≡ length before → starts_in n x s ≡ true
  at_split x e = starting_at n x before s after (ap (λ (l : List ByteSpec). starting n x l) (sym split) ∙ e)

  -- and a run in which s begins has its first place there or before
  le_split : (x : Run) → starts_in n x s ≡ true → starting n x ss ≤ length before
  le_split x e = rw split (starting_le n x before s after e)

  -- a spec that is not satisfiable changes nothing
  pub made_skip : (rs : List Run) → satisfiable n s ≡ false → Made n ss (length before) rs → Made n ss (suc (length before)) rs
  made_skip rs f m =
      record {
        reach = λ x l. m.reach x (less x l);
        bounded = each_map rs (λ (x : Run) (k : starting n x ss < length before). omega arith) m.bounded;
        ordered = m.ordered;
      }
    where
      less : (x : Run) → starting n x ss < suc (length before) → starting n x ss < length before
      less x l = tested (ltb (starting n x ss) (length before)) (ltb-true _ _)
          (λ g. absurd (true≢false (sym (starts_true n x s (at_split x (let k = ltb-false (starting n x ss) (length before) g in omega arith))).0 ∙ f)))

  -- a satisfiable one's run is placed
  pub made_place : (rs : List Run) → satisfiable n s ≡ true → RunIn n (run_of n s) → Made n ss (length before) rs
      → Made n ss (suc (length before)) (place merge_gap (run_of n s) rs)
  made_place rs t o m =
      record {
        reach = λ x l. tested (ltb (starting n x ss) (length before)) (λ g. old x (m.reach x (ltb-true _ _ g)))
            (λ g. new x (let k = ltb-false (starting n x ss) (length before) g in omega arith));
        bounded = place-bounded n ss (length before) (run_of n s) rs at_most m.bounded;
        ordered = place-ordered n ss (length before) (run_of n s) rs (record { at_most = at_most; reach = m.reach (run_of n s) }) m.bounded m.ordered;
      }
    where
      at_most : starting n (run_of n s) ss ≤ length before
      at_most = le_split (run_of n s) (true_starts n (run_of n s) s t (omega arith, o.ordered))

      old : (x : Run) → Reach n ss x rs → Reach n ss x (place merge_gap (run_of n s) rs)
      old x r = record { at = r.at; inside = r.inside; covered = place_covers merge_gap r.at (run_of n s) rs (inr r.covered); least = r.least }

      new : (x : Run) → starting n x ss ≡ length before → Reach n ss x (place merge_gap (run_of n s) rs)
      new x e =
          record {
            at = (run_of n s).first;
            inside = (starts_true n x s (at_split x e)).1;
            covered = place_covers merge_gap (run_of n s).first (run_of n s) rs (inl (omega arith, o.ordered));
            least = λ y i. let k = le_split y (true_starts n y s t i) in omega arith;
          }

-- placing the runs of the rest of the specs
pub made_all : (n : ℕ) (ss before after : List ByteSpec) (rs : List Run) → ss ≡ before ++ after → Each (RunIn n) (spec_runs n after)
    → Made n ss (length before) rs → Made n ss (length ss) (gather merge_gap (spec_runs n after) rs)
made_all n ss before [] rs e o m = subst (λ (k : ℕ). Made n ss k rs) (sym (ap length e ∙ length-append before [] ∙ omega arith)) m
made_all n ss before (s ∷ after) rs e o m =
    go (satisfiable n s) refl o
    (λ k qs. made_all n ss (before ++ (s ∷ [])) after qs (e ∙ sym (append_snoc before s after)) k)
  where
    next : length (before ++ (s ∷ [])) ≡ suc (length before)
    next = length-append before (s ∷ []) ∙ omega arith

    go : (b : Bool) → satisfiable n s ≡ b → Each (RunIn n) (cond b (run_of n s ∷ spec_runs n after) (spec_runs n after))
        → (Each (RunIn n) (spec_runs n after) → (qs : List Run) → Made n ss (length (before ++ (s ∷ []))) qs
        → Made n ss (length ss) (gather merge_gap (spec_runs n after) qs))
        → Made n ss (length ss) (gather merge_gap (cond b (run_of n s ∷ spec_runs n after) (spec_runs n after)) rs)
    go true t o rest = rest o.1 (place merge_gap (run_of n s) rs) (rw next (made_place n ss before s after e rs t o.0 m))
    go false t o rest = rest o rs (rw next (made_skip n ss before s after e rs t m))

-- the spec is satisfiable, and its run lies inside the run
abbrev pub lies_in : ℕ → Run → ByteSpec → Bool
lies_in n r s = satisfiable n s && leb r.first (run_of n s).first && leb (run_of n s).last r.last

-- the place in the list of the first such spec, or the list's length
abbrev pub earliest : ℕ → Run → List ByteSpec → ℕ
earliest n r [] = 0
earliest n r (s ∷ ss) = cond (lies_in n r s) 0 (suc (earliest n r ss))

-- the spec that begins inside a run lies inside it, where the runs of the specs do not go on behind it
lies_starts : (n : ℕ) (r : Run) (s : ByteSpec) → RunIn n (run_of n s) → (In (suc r.last) (run_of n s) → ⊥)
    → leb (run_of n s).last r.last ≡ leb (run_of n s).first r.last
lies_starts n r s o h =
    tested (leb (run_of n s).last r.last)
    (λ t. let k = leb-true (run_of n s).last r.last t in t ∙ sym (le-leb (run_of n s).first r.last (omega arith)))
    (λ t. let k = leb-false (run_of n s).last r.last t in t ∙ sym (lt-leb (run_of n s).first r.last (outside k)))
  where
    outside : r.last < (run_of n s).last → r.last < (run_of n s).first
    outside k = tested (ltb r.last (run_of n s).first) (ltb-true _ _) (λ t. let l = ltb-false r.last (run_of n s).first t in
        absurd (h (omega arith, omega arith)))

-- so the earliest spec inside a run is the first that begins in it
pub earliest_starting : (n : ℕ) (r : Run) (ss : List ByteSpec) → Each (RunIn n) (spec_runs n ss) → (Covers (suc r.last) (spec_runs n ss) → ⊥)
    → earliest n r ss ≡ starting n r ss
earliest_starting n r [] o h = refl
earliest_starting n r (s ∷ ss) o h = go (satisfiable n s) o h (earliest_starting n r ss)
  where
    go : (b : Bool) → Each (RunIn n) (cond b (run_of n s ∷ spec_runs n ss) (spec_runs n ss))
        → (Covers (suc r.last) (cond b (run_of n s ∷ spec_runs n ss) (spec_runs n ss)) → ⊥)
        → (Each (RunIn n) (spec_runs n ss) → (Covers (suc r.last) (spec_runs n ss) → ⊥) → earliest n r ss ≡ starting n r ss)
        → cond (b && leb r.first (run_of n s).first && leb (run_of n s).last r.last) 0 (suc (earliest n r ss))
        ≡ cond (b && (leb r.first (run_of n s).first && leb (run_of n s).first r.last)) 0 (suc (starting n r ss))
    go true o h rest = rw (lies_starts n r s o.0 (λ i. h (inl i)), rest o.1 (λ c. h (inr c)))
    go false o h rest = ap suc (rest o h)

-- runs apart from each other do not cover the position behind any of them
pub behind_free : (n : ℕ) (rs : List Run) → Each (RunIn n) rs → Pairs (Apart merge_gap) rs → Each (λ (r : Run). Covers (suc r.last) rs → ⊥) rs
behind_free n [] o ps = tt
behind_free n (r ∷ rs) o ps = (self, each_both rs other (each_both rs (λ q a b. (a, b)) o.1 ps.0) (behind_free n rs o.1 ps.1))
  where
    apart : (q : Run) → Apart merge_gap r q → In (suc r.last) q → ⊥
    apart q (inl a) i = omega arith
    apart q (inr a) i = omega (arith, o.0)

    self : Covers (suc r.last) (r ∷ rs) → ⊥
    self (inl i) = omega arith
    self (inr c) = covers_each ⊥ (suc r.last) rs c (each_map rs apart ps.0)

    first : (q : Run) → RunIn n q → Apart merge_gap r q → In (suc q.last) r → ⊥
    first q k (inl a) i = omega arith
    first q k (inr a) i = omega arith

    other : (q : Run) → RunIn n q × Apart merge_gap r q → (Covers (suc q.last) rs → ⊥) → Covers (suc q.last) (r ∷ rs) → ⊥
    other q h f (inl i) = first q h.0 h.1 i
    other q h f (inr c) = f c
