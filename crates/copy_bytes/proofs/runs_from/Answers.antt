-- `runs_from` reads the run at each place; the closure that reads them stays as it is.
use Rattle.std.proofs.Common.{◌≡◌, ◌∙◌, ℕ, zero, suc, ◌+◌, ◌*◌, ◌≤◌, ◌<◌, Bool, true}
use Rattle.std.proofs.Common.{false, eqb, List, ◌∷◌, sym, get_or, subst, ap, map, drop, arith, rules, tests, refl}
use Rattle.std.specs.Array.{IsFromFnResultFrom}
use Rattle.std.specs.List.{range_with_len}
use Rattle.std.proofs.lemmas.List.FromFn.{fill_by_all}
use lib.Seq.{drop-drop}
use borrow.Author.Tests.{eqb-true, eqb-false}
use denote.Param.Members.{Mut, Called}
use Rattle.rules_server.specs.declared.Run.{Run}
use Rattle.rules_tablet.specs.Limits.{max_runs}
use Rattle.rules_tablet.specs.Runs.{run}
use Rattle.copy_bytes.specs.Lists.{run_from, runs_from}
use Rattle.copy_bytes.proofs.runs_from.Goals as goal

made : {F : Type 0} (g : Mut F (ℕ × Unit {0}) Run) (h : ℕ → Run) (f : F) → ((i : ℕ) (y : Run) (q : F) → Called g f (i, tt) y q → (q ≡ f) × (y ≡ h i))
    → (ys : List Run) (i n : ℕ) → IsFromFnResultFrom g f ys i n → (k : ℕ) → i ≤ k → k < i + n → get_or ys k (run 0 0) ≡ h k
made g h f pure ys i zero e k a b = absurd (omega arith)
made g h f pure ys i (suc n) (q, y, at, call, more) k a b =
    let t = pure i y q call in
    go (eqb i k) refl (made g h f pure ys (i + 1) n (subst (λ p. IsFromFnResultFrom g p ys (i + 1) n) t.0 more) k)
  where
    go : (c : Bool) → eqb i k ≡ c → (i + 1 ≤ k → k < i + 1 + n → get_or ys k (run 0 0) ≡ h k) → get_or ys k (run 0 0) ≡ h k
    go true e r = rw (← eqb-true i k e) (at.1 (run 0 0) ∙ (pure i y q call).1)
    go false e r = r (omega (arith, eqb-false i k e)) (omega arith)

shifted : (i : ℕ) → 16 * i + 16 ≡ 16 * (i + 1)
shifted i = omega arith

-- each run by its place
by_places : (b : List ℕ) (i n : ℕ) → map (λ k. run_from (drop (16 * k) b)) (range_with_len i n) ≡ runs_from n (drop (16 * i) b)
unfolding runs_from
by_places b i zero = refl
by_places b i (suc n) =
    ap (λ (rs : List Run). run_from (drop (16 * i) b) ∷ rs)
    (by_places b (i + 1) n ∙ ap (runs_from n) (sym (drop-drop 16 (16 * i) b ∙ ap (λ (k : ℕ). drop k b) (shifted i))))

pub returns : goal.returns
returns c =
    let d = c.from_fn.ensures.items in
    let one = λ (k : ℕ). run_from (drop (16 * k) c.args.b.now) in
    fill_by_all one c.from_fn.result max_runs (run 0 0) d.long
    (λ k h. made _ one _ (λ i y q w. search (rules, tests)) c.from_fn.result 0 max_runs d.each k (omega arith) (omega arith))
    ∙ by_places c.args.b.now 0 max_runs
