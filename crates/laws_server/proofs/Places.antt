-- The place of the earliest spec inside a run, against the first whose run lies in it.
-- Assumes nothing.
use Prim.Native.Nat.{ℕ, zero, suc, ◌<◌}
use native.Mathlib.Omega.{arith}
use mathlib.Core.Path.{◌≡◌, refl, sym, ap, ◌∙◌}
use mathlib.Core.Bool.{Bool, true, false, cond, ◌&&◌, true≢false, and-eq-true_iff}
use mathlib.Core.List.{List, [], ◌∷◌}
use lib.Dec.{leb}
use lib.ListN.{length}
use borrow.Author.Tests.{leb-true, le-leb}
use Rattle.rules_server.specs.Ranges.{ByteSpec, invalid, satisfiable, any_spec}
use Rattle.rules_server.specs.Parts.{run_of}
use Rattle.rules_server.specs.declared.Run.{Run}
use Rattle.rules_demands.specs.Positions.{LiesIn, EarliestAt}
use Rattle.laws_server.proofs.Asking.{or_false, run_in_lem, asks-run, run_asks_lem}
use Rattle.laws_server.proofs.Earliest.{lies_in, earliest}

module _ (n : ℕ) (large : 0 < n) where
  -- a spec that does not end before it begins lies in a run where its own run does
  pub test_lies : (r : Run) (s : ByteSpec) → invalid s ≡ false → lies_in n r s ≡ true → LiesIn n r s
  test_lies r s v e =
      let h = (and-eq-true_iff (satisfiable n s && leb r.first (run_of n s).first) (leb (run_of n s).last r.last)).0 e in
      let k = (and-eq-true_iff (satisfiable n s) (leb r.first (run_of n s).first)).0 h.0 in
      let o = run_in_lem n s large v k.0 in
      let low = leb-true r.first (run_of n s).first k.1 in
      let high = leb-true (run_of n s).last r.last h.1 in
      record {
        position = (run_of n s).first;
        asks = run_asks_lem n (run_of n s).first s large k.0 (omega arith, o.ordered);
        inside = λ p a. let i = (asks-run n p s a).1 in (omega arith, omega arith);
      }

  -- and nowhere else
  pub lies_test : (r : Run) (s : ByteSpec) → invalid s ≡ false → LiesIn n r s → lies_in n r s ≡ true
  lies_test r s v l =
      let t = (asks-run n l.position s l.asks).0 in
      let o = run_in_lem n s large v t in
      let low = (l.inside (run_of n s).first (run_asks_lem n (run_of n s).first s large t (omega arith, o.ordered))).0 in
      let high = (l.inside (run_of n s).last (run_asks_lem n (run_of n s).last s large t (o.ordered, omega arith))).1 in
      rw (t, le-leb r.first (run_of n s).first low, le-leb (run_of n s).last r.last high) refl

  -- the earliest spec inside a run, where there is one
  pub at_earliest : (r : Run) (ss : List ByteSpec) → any_spec invalid ss ≡ false → earliest n r ss < length ss → EarliestAt n r ss (earliest n r ss)
  at_earliest r [] v l = absurd (omega arith)
  at_earliest r (s ∷ ss) v l = go (lies_in n r s) refl l (at_earliest r ss (or_false (invalid s) (any_spec invalid ss) v).1)
    where
      go : (b : Bool) → lies_in n r s ≡ b → cond b 0 (suc (earliest n r ss)) < suc (length ss)
          → (earliest n r ss < length ss → EarliestAt n r ss (earliest n r ss)) → EarliestAt n r (s ∷ ss) (cond b 0 (suc (earliest n r ss)))
      go true e l rest = test_lies r s (or_false (invalid s) (any_spec invalid ss) v).0 e
      go false e l rest = ((λ h. true≢false (sym (lies_test r s (or_false (invalid s) (any_spec invalid ss) v).0 h) ∙ e)), rest (omega arith))

  -- it stands at no other place
  pub earliest_is : (r : Run) (ss : List ByteSpec) (i : ℕ) → any_spec invalid ss ≡ false → EarliestAt n r ss i → earliest n r ss ≡ i
  earliest_is r [] i v h = absurd h
  earliest_is r (s ∷ ss) zero v h = rw (lies_test r s (or_false (invalid s) (any_spec invalid ss) v).0 h) refl
  earliest_is r (s ∷ ss) (suc i) v h = go (lies_in n r s) refl (earliest_is r ss i (or_false (invalid s) (any_spec invalid ss) v).1 h.1)
    where
      go : (b : Bool) → lies_in n r s ≡ b → earliest n r ss ≡ i → cond b 0 (suc (earliest n r ss)) ≡ suc i
      go true e rest = absurd (h.0 (test_lies r s (or_false (invalid s) (any_spec invalid ss) v).0 e))
      go false e rest = ap suc rest
