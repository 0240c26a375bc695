-- Every file of bytes stands in the table of refusals, or is the bytes of a state that keeps the copy's rule. Assumes nothing.
use Prim.Native.Nat.{ℕ, zero, suc, ◌+◌, ◌%◌, ◌≤◌}
use mathlib.Core.Path.{◌≡◌, refl, sym, ap, subst, ◌∙◌}
use mathlib.Core.Bool.{true, ◌&&◌, and-eq-true_iff}
use mathlib.Core.List.{List, [], ◌∷◌, ◌++◌, append_assoc, append-nil}
use native.Mathlib.Omega.{arith}
use lib.Dec.{leb}
use lib.ListN.{length, take, drop, length-append, take-append-drop}
use lib.Seq.{length-take-le}
use borrow.Author.Tests.{leb-true, le-leb}
use Rattle.rules_server.specs.Limits.{max_file, max_tag}
use Rattle.rules_server.specs.Numbers.{value_of, in_bytes, AreBytes}
use Rattle.rules_server.specs.Tags.{is_strong}
use Rattle.rules_server.specs.declared.Run.{Run}
use Rattle.rules_tablet.specs.Limits.{max_runs}
use Rattle.rules_tablet.specs.Runs.{well_formed}
use Rattle.rules_tablet.specs.Calls.{State, copy_ok}
use Rattle.rules_tablet.specs.SavedCopies.{run_of, saved_under}
use Rattle.rules_demands.specs.SavedRefusals.{Version, one, two, number, runs_in, SavedPlace, at_mark, at_version, at_tag_count, at_tag, at_length, at_run_count, at_run}
use Rattle.rules_demands.specs.SavedRefusals.{size_at, UnitComes, bytes_before, RightBefore, Refuses, cut_short, trailing, RefusedAt, FileOf}
use Rattle.laws_runs.proofs.Lies.{below_or}
use Rattle.laws_runs.proofs.Members.{test_true, true_test}
use Rattle.laws_numerals.proofs.Bytes.{bytes_take, bytes_drop}
use Rattle.laws_saved.proofs.Places.{version_of, runs_few, next-place, fault_at}
use Rattle.laws_saved.proofs.Units.{unit_right, unit_wrong}

-- ---- a state and the place behind its last run

-- the place behind the last run of a state
abbrev pub end_of : Version → State → SavedPlace
end_of v c = at_run v c.tag c.length (length c.runs) c.runs

-- a state that keeps the copy's rule has no more runs than a copy may have
pub rule_few : (c : State) → copy_ok c ≡ true → length c.runs ≤ max_runs
unfolding copy_ok
rule_few c e =
    let before = is_strong c.tag && leb (length c.tag) max_tag && leb c.length max_file in
    let h = (and-eq-true_iff (before && leb (length c.runs) max_runs) (well_formed 0 c.length c.runs)).0 e in
    leb-true _ _ ((and-eq-true_iff before (leb (length c.runs) max_runs)).0 h.0).1

-- a state keeps the copy's rule, with no more runs than a version's files may have: its units are right
pub rule_right : (v : Version) (c : State) → copy_ok c ≡ true → length c.runs ≤ runs_in v → RightBefore (end_of v c)
unfolding copy_ok
rule_right v c e few_runs =
    let strong = is_strong c.tag in
    let short = leb (length c.tag) max_tag in
    let below = leb c.length max_file in
    let few = leb (length c.runs) max_runs in
    let h = (and-eq-true_iff (strong && short && below && few) (well_formed 0 c.length c.runs)).0 e in
    let g = (and-eq-true_iff (strong && short && below) few).0 h.0 in
    let f = (and-eq-true_iff (strong && short) below).0 g.0 in
    let d = (and-eq-true_iff strong short).0 f.0 in
    ((leb-true _ _ d.1, d.0), leb-true _ _ f.1, few_runs, omega arith, test_true 0 c.length c.runs h.1)

-- so under the version that is written
pub state_right : (c : State) → copy_ok c ≡ true → RightBefore (end_of two c)
state_right c e = rule_right two c e (rule_few c e)

-- its units are right: it keeps the rule
pub right_rule : (v : Version) (c : State) → RightBefore (end_of v c) → copy_ok c ≡ true
unfolding copy_ok
right_rule v c h =
    let few = runs_few v in
    rw (h.0.1, le-leb _ _ h.0.0, le-leb _ _ h.1, le-leb (length c.runs) max_runs (omega (arith, h.2)), true_test 0 c.length c.runs h.4)

-- the bytes of a state are those before the end
pub saved_end : (v : Version) (c : State) → RightBefore (end_of v c) → saved_under (number v) c ≡ bytes_before (end_of v c)
unfolding saved_under in_bytes
saved_end one c h = let e : length c.tag % 256 ≡ length c.tag = omega arith in rw e
saved_end two c h = let e : length c.tag % 256 ≡ length c.tag = omega arith in rw e

-- ---- outcomes

-- a file is refused, or is the bytes of a state
pub data Outcome (file : List ℕ) : Type 0 where
  refused_in : (k : ℕ) → RefusedAt file k → Outcome file
  saved_as : (c : State) → FileOf c file → Outcome file

-- a refusal at a place
refused-at : (p : SavedPlace) (l : List ℕ) (k : ℕ) → RightBefore p → Refuses p l k → Outcome (bytes_before p ++ l)
refused-at p l k right r = refused_in k (record { place = p; right = right; rest = l; is = refl; refuses = r })

-- a whole unit u before the bytes m
judged : (p : SavedPlace) (u m : List ℕ) → RightBefore p → UnitComes p → AreBytes u → length u ≡ size_at p
    → (RightBefore (next-place p u) → Outcome (bytes_before (next-place p u) ++ m)) → Outcome (bytes_before p ++ (u ++ m))
judged p u m right c b s next = go (fault_at p u) refl
  where
    go : (k : ℕ) → fault_at p u ≡ k → Outcome (bytes_before p ++ (u ++ m))
    go zero f =
        let n = unit_right p u right c b s f in
        subst Outcome (ap (λ (t : List ℕ). t ++ m) n.1 ∙ append_assoc (bytes_before p) u m) (next n.0)
    go (suc k) f = refused-at p (u ++ m) (suc k) right (unit_wrong p u m k c b s f)

-- the unit at a place is refused, or the outcome is that from the next place on
pass : (p : SavedPlace) (l : List ℕ) → RightBefore p → UnitComes p → AreBytes l
    → ((u m : List ℕ) → AreBytes m → RightBefore (next-place p u) → Outcome (bytes_before (next-place p u) ++ m)) → Outcome (bytes_before p ++ l)
pass p l right c b next =
    let k = size_at p in
    below_or (length l) k (λ h. refused-at p l 29 right (cut_short p l c h)) λ h.
    subst (λ (t : List ℕ). Outcome (bytes_before p ++ t)) (take-append-drop k l)
    (judged p (take k l) (drop k l) right c (bytes_take k l b) (length-take-le k l h) (next (take k l) (drop k l) (bytes_drop k l b)))

-- behind the last run
at_end_lem : (v : Version) (c : State) (l : List ℕ) → RightBefore (end_of v c) → Outcome (bytes_before (end_of v c) ++ l)
at_end_lem v c [] right = saved_as c (record {
  rule = right_rule v c right;
  version = v;
  few = right.2;
  is = append-nil (bytes_before (end_of v c)) ∙ sym (saved_end v c right);
})
at_end_lem v c (b ∷ l) right = refused-at (end_of v c) (b ∷ l) 30 right (trailing v c.tag c.length c.runs b l)

-- where j runs are still to come
at-runs_lem : (v : Version) (j : ℕ) (tag : List ℕ) (n count : ℕ) (rs : List Run) (l : List ℕ) → count ≡ j + length rs → RightBefore (at_run v tag n count rs)
    → AreBytes l → Outcome (bytes_before (at_run v tag n count rs) ++ l)
at-runs_lem v zero tag n count rs l e right b =
    let f : length rs ≡ count = omega arith in
    let end : RightBefore (at_run v tag n (length rs) rs) = (right.0, right.1, omega arith, omega arith, right.4) in
    subst (λ (k : ℕ). Outcome (bytes_before (at_run v tag n k rs) ++ l)) f (at_end_lem v (record { tag = tag; length = n; runs = rs }) l end)
at-runs_lem v (suc j) tag n count rs l e right b =
    pass (at_run v tag n count rs) l right (omega arith) b λ u m g next.
    at-runs_lem v j tag n count (rs ++ (run_of u ∷ [])) m (omega (arith, length-append rs (run_of u ∷ []))) next g

-- every file of bytes
pub decides : (file : List ℕ) → AreBytes file → Outcome file
decides file b =
    pass at_mark file tt tt b λ _ l b h. pass at_version l h tt b λ u l b h.
    let v = version_of (value_of u) in
    pass (at_tag_count v) l h tt b λ k l b h. pass (at_tag v (value_of k)) l h tt b λ tag l b h.
    pass (at_length v tag) l h tt b λ n l b h. pass (at_run_count v tag (value_of n)) l h tt b λ count l b h.
    at-runs_lem v (value_of count) tag (value_of n) (value_of count) [] l (omega arith) h b
