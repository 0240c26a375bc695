-- `from_fn` with a closure that each call leaves as it was.
use Rattle.std.proofs.Common.{◌≡◌, ◌∙◌, ℕ, zero, suc, ◌+◌, ◌≤◌, ◌<◌, Bool, true}
use Rattle.std.proofs.Common.{false, eqb, List, get_or, subst, map, arith, rules, tests, refl}
use Rattle.std.specs.Array.{IsFromFnResultFrom}
use Rattle.std.specs.List.{range_with_len}
use Rattle.std.proofs.lemmas.List.FromFn.{fill_by_all}
use borrow.Author.Tests.{eqb-true, eqb-false}
use denote.Param.Members.{Mut, Called}
use Rattle.octets.specs.Numbers.{bytes_at}
use Rattle.octets.proofs.numbers.padded_at.Goals as goal

made : {F : Type 0} (g : Mut F (ℕ × Unit {0}) ℕ) (h : ℕ → ℕ) (f : F) → ((i y : ℕ) (q : F) → Called g f (i, tt) y q → (q ≡ f) × (y ≡ h i))
    → (ys : List ℕ) (i n : ℕ) → IsFromFnResultFrom g f ys i n → (k : ℕ) → i ≤ k → k < i + n → get_or ys k 0 ≡ h k
made g h f pure ys i zero e k a b = absurd (omega arith)
made g h f pure ys i (suc n) (q, y, at, call, more) k a b =
    let t = pure i y q call in
    go (eqb i k) refl (made g h f pure ys (i + 1) n (subst (λ p. IsFromFnResultFrom g p ys (i + 1) n) t.0 more) k)
  where
    go : (c : Bool) → eqb i k ≡ c → (i + 1 ≤ k → k < i + 1 + n → get_or ys k 0 ≡ h k) → get_or ys k 0 ≡ h k
    go true e r = rw (← eqb-true i k e) (at.1 0 ∙ (pure i y q call).1)
    go false e r = r (omega (arith, eqb-false i k e)) (omega arith)

-- each byte by its place
by_places : (v : List ℕ) (a i n : ℕ) → map (λ k. get_or v (a + k) 0) (range_with_len i n) ≡ bytes_at v a i n
by_places v a i zero = refl
by_places v a i (suc n) = rw (by_places v a (i + 1) n)

pub returns : goal.returns
returns g c =
    let d = c.from_fn.ensures.items in
    let byte = λ (k : ℕ). get_or c.args.v.now (c.args.at + k) 0 in
    fill_by_all byte c.from_fn.result g.row.N 0 d.long
    (λ k h. made _ byte _ (λ i y q w. search (rules, tests)) c.from_fn.result 0 g.row.N d.each k (omega arith) (omega arith))
    ∙ by_places c.args.v.now c.args.at 0 g.row.N
