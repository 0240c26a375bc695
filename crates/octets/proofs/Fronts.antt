-- How many items a chain begins with that pass a test, and the whole blocks of a list.
use Rattle.std.proofs.Common.{◌≡◌, ◌∙◌, ℕ, zero, suc, ◌+◌, ◌*◌, ◌/◌, ◌<◌, ◌≤◌, Bool, true, false, Option, List, [], ◌∷◌, ◌++◌, length, take, drop}
use Rattle.std.proofs.Common.{Bor, length-append, length-drop, add-one, arith, refl, ap, subst}
use Rattle.std.specs.Fn.{CalledAt}
use Rattle.std.specs.Iterator.{Drains}
use Rattle.std.specs.Iterator.Adapters.{take_while_source, take_while_done, take_while_callee, take_while_steps}
use Rattle.std.specs.List.{prefix_len}
use Rattle.std.specs.Slice.Iter.{chunks_exact_rest, chunks_exact_size, chunks_exact_steps}
use Rattle.std.proofs.Math.Nat.{add-div_left, mul-zero, mul-one, mul-add, suc-mul}
use Rattle.std.proofs.lemmas.Nat.{div_below}
use Rattle.std.proofs.Math.Seq.{drop-append_seam, take-append_seam}
use Rattle.std.proofs.lemmas.Iterator.{YieldsList}
use Rattle.std.proofs.lemmas.Iterator.Consumers.{count_from_yields_List}
use Rattle.std.proofs.lemmas.Iterator.Search.{YieldsList-from_take_while}
use Rattle.std.proofs.lemmas.Iterator.Splits.{YieldsList-from_shown_while}
use Rattle.std.proofs.lemmas.List.Folds.{length-prefix_len}
use Rattle.std.specs.declared.iter.TakeWhile.{TakeWhile}
use Rattle.std.specs.declared.slice.ChunksExact.{ChunksExact}
use denote.Param.Members.{Mut}

-- `take_while` and `count`: the length of the front that passes
pub counted : {S A B F : Type 0} {steps : S → Option A → S → Type 0} {v : A → B} {ys : List B} {g : Mut F (Bor A × Unit {0}) Bool} {f : F}
    (test : B → Bool) (s : TakeWhile S F) → YieldsList steps v (take_while_source s) ys → take_while_callee s ≡ f → take_while_done s ≡ false
    → ((x : A) (b : Bool) (q : F) → CalledAt g f x b q → (q ≡ f) × (b ≡ test (v x)))
    → (r : ℕ) → (xs : List A) × Drains (take_while_steps steps g) s xs × (r ≡ length xs) → r ≡ prefix_len test ys
counted {ys = ys} {g = g} test s road callee done calls r ran =
    count_from_yields_List s r ran (YieldsList-from_take_while g test road callee done calls) ∙ length-prefix_len test ys

-- k blocks of n bytes
abbrev pub blocks : ℕ → ℕ → List ℕ → List (List ℕ)
blocks n zero v = []
blocks n (suc k) v = take n v ∷ blocks n k (drop n v)

-- one block more in front
more_blocks : (n : ℕ) (v x r : List ℕ) → 0 < n → v ≡ x ++ r → length x ≡ n → blocks n (length v / n) v ≡ x ∷ blocks n (length r / n) r
more_blocks n v x r h e l =
    let size : length v ≡ n + length r = omega (arith, length-append x r, ap length e) in
    let front : take n (x ++ r) ≡ x = rw l at (take-append_seam x r) in
    let rest : drop n (x ++ r) ≡ r = rw l at (drop-append_seam x r) in
    rw (size, add-div_left (length r) h, add-one, e, front, rest)

-- `chunks_exact` gives the whole blocks
pub YieldsList-from_chunks_exact : (n : ℕ) (s : ChunksExact ℕ) (v : List ℕ) → 0 < n → chunks_exact_size s ≡ n → chunks_exact_rest s ≡ v
    → YieldsList chunks_exact_steps (λ y. y.now) s (blocks n (length v / n) v)
YieldsList-from_chunks_exact n s v h e r =
    subst (λ w. YieldsList chunks_exact_steps (λ y. y.now) s (blocks n (length w / n) w)) r
    (YieldsList-from_shown_while chunks_exact_steps (λ y. y.now) (λ t. blocks n (length (chunks_exact_rest t) / n) (chunks_exact_rest t))
    (λ t. chunks_exact_size t ≡ n)
    (λ t u p k. let none : length (chunks_exact_rest t) / n ≡ 0 = omega (arith, div_below (length (chunks_exact_rest t)) n 1 h (omega arith)) in rw none)
    (λ t x u p k. (k.0 ∙ p, more_blocks n (chunks_exact_rest t) x.now (chunks_exact_rest u) h k.1.0 (k.1.1 ∙ p))) s e)

-- what holds of nothing, and of a block that passes and more where it holds of more, holds of the blocks in front that pass
pub blocks_pass : (test : List ℕ → Bool) (n : ℕ) (P : ℕ → List ℕ → Type 0) → ((w : List ℕ) → P 0 w)
    → ((m : ℕ) (w : List ℕ) → n ≤ length w → test (take n w) ≡ true → P m (drop n w) → P (n + m) w)
    → (k : ℕ) (v : List ℕ) → k * n ≤ length v → P (n * prefix_len test (blocks n k v)) v
blocks_pass test n P none more zero v h = rw mul-zero (none v)
blocks_pass test n P none more (suc k) v h =
    go (test (take n v)) refl (blocks_pass test n P none more k (drop n v) (rw length-drop (omega (arith, suc-mul k n))))
  where
    go : (b : Bool) → test (take n v) ≡ b → P (n * prefix_len test (blocks n k (drop n v))) (drop n v) → P (n * prefix_len test (blocks n (suc k) v)) v
    go true e ih =
        let size : n * (1 + prefix_len test (blocks n k (drop n v))) ≡ n + n * prefix_len test (blocks n k (drop n v)) = rw (mul-add, mul-one) in
        rw (e, size) (more (n * prefix_len test (blocks n k (drop n v))) v (omega (arith, suc-mul k n)) e ih)
    go false e ih = rw (e, mul-zero) (none v)
