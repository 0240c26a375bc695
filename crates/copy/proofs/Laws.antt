-- Laws of the copy's record: its rule test by test, the rule on what it means, and that one state has one record.
-- Assumes nothing.
use Prim.Native.Nat.{ℕ, zero, suc, ◌-◌, ◌≤◌}
use native.Mathlib.Omega.{arith}
use mathlib.Core.Path.{◌≡◌, refl, sym, ap, ap₂, ◌∙◌}
use mathlib.Core.Bool.{Bool, true, false, ◌&&◌, and-eq-true_iff}
use mathlib.Core.List.{List, [], ◌∷◌, ◌++◌}
use lib.Dec.{eqb}
use lib.ListN.{length, take, drop, replicate, length-take, length-drop, take-append-drop}
use lib.Seq.{length-take-le, take-append_seam, drop-append_seam}
use borrow.Author.Tests.{leb-true, le-leb, le-ltb, eqb-true, eq-eqb}
use Rattle.rules_server.specs.declared.Run.{Run}
use Rattle.rules_server.specs.Limits.{max_tag, max_file}
use Rattle.rules_server.specs.Octets.{all}
use Rattle.rules_server.specs.Tags.{is_strong}
use Rattle.rules_tablet.specs.Limits.{max_runs}
use Rattle.rules_tablet.specs.Runs.{run}
use Rattle.rules_tablet.specs.Copies.{tag_of, runs_of, fresh_copy, is_zero, all_blank, copy_rule, bad_opening}
use Rattle.rules_tablet.specs.Calls.{State, copy_ok, opened}
use Rattle.rules_tablet.specs.declared.Copy.{Copy}
use Rattle.laws_runs.proofs.Members.{test_true, true_test}
use Rattle.std.specs.Prelude.{Ok, Err}
use Rattle.copy.specs.States.{state_of, CopyKept, Opens, NotOpened, OpensAlways}

-- both tests hold
both : (a b : Bool) → (a && b) ≡ true → (a ≡ true) × (b ≡ true)
both a b e = (and-eq-true_iff a b).0 e

-- the rule says each of its tests
pub rule_kept : (c : Copy) → copy_rule c ≡ true → CopyKept c
unfolding copy_rule
rule_kept c e =
    let g = both _ _ e in
    let f = both _ _ g.0 in
    let n = both _ _ f.0 in
    let l = both _ _ n.0 in
    let z = both _ _ l.0 in
    let s = both _ _ z.0 in
    record {
      short = leb-true _ _ s.0;
      strong = s.1;
      zeros = z.1;
      below = leb-true _ _ l.1;
      few = leb-true _ _ n.1;
      formed = test_true 0 c.length (runs_of c) f.1;
      blank = g.1;
    }

-- all tests make the rule
pub kept_rule : (c : Copy) → CopyKept c → copy_rule c ≡ true
unfolding copy_rule
kept_rule c k =
    rw (
      le-leb c.tag_len max_tag k.short,
      k.strong,
      k.zeros,
      le-leb c.length max_file k.below,
      le-leb c.count max_runs k.few,
      true_test 0 c.length (runs_of c) k.formed,
    )
    k.blank

-- a record that keeps its rule means a state that keeps the rule
pub rule_ok : (c : Copy) → copy_rule c ≡ true → copy_ok (state_of c) ≡ true
unfolding copy_ok
rule_ok c e =
    let k = rule_kept c e in
    rw (
      k.strong,
      le-leb (length (tag_of c)) max_tag (simp length-take (omega arith)),
      le-leb c.length max_file k.below,
      le-leb (length (runs_of c)) max_runs (simp length-take (omega arith)),
    )
    (true_test 0 c.length (runs_of c) k.formed)

-- as many zeros are the same zeros
zeros-same : (a b : List ℕ) → length a ≡ length b → all is_zero a ≡ true → all is_zero b ≡ true → a ≡ b
zeros-same [] [] n e f = refl
zeros-same [] (y ∷ b) n e f = absurd (omega arith)
zeros-same (x ∷ a) [] n e f = absurd (omega arith)
zeros-same (x ∷ a) (y ∷ b) n e f =
    let p = both (is_zero x) (all is_zero a) e in
    let q = both (is_zero y) (all is_zero b) f in
    ap₂ ◌∷◌ (eqb-true x 0 p.0 ∙ sym (eqb-true y 0 q.0)) (zeros-same a b (omega arith) p.1 q.1)

-- as many blank runs are the same
blanks-same : (a b : List Run) → length a ≡ length b → all_blank a ≡ true → all_blank b ≡ true → a ≡ b
blanks-same [] [] n e f = refl
blanks-same [] (y ∷ b) n e f = absurd (omega arith)
blanks-same (x ∷ a) [] n e f = absurd (omega arith)
blanks-same (x ∷ a) (y ∷ b) n e f =
    let p = both (eqb x.first 0 && eqb x.last 0) (all_blank a) e in
    let q = both (eqb y.first 0 && eqb y.last 0) (all_blank b) f in
    let s = both (eqb x.first 0) (eqb x.last 0) p.0 in
    let t = both (eqb y.first 0) (eqb y.last 0) q.0 in
    let g = eqb-true x.first 0 s.0 ∙ sym (eqb-true y.first 0 t.0) in
    let h = eqb-true x.last 0 s.1 ∙ sym (eqb-true y.last 0 t.1) in
    let r : x ≡ y = λ i. record { first = g i; last = h i } in
    ap₂ ◌∷◌ r (blanks-same a b (omega arith) p.1 q.1)

-- a front within a list and the rest of the list
front-same : {A : Type 0} (l m : List A) (i j : ℕ) → length l ≡ length m → i ≤ length l → j ≤ length m → take i l ≡ take j m → i ≡ j
front-same l m i j n h u e = sym (length-take-le i l h) ∙ ap length e ∙ length-take-le j m u

-- two records that keep their rule and mean the same state are the same; arrays have their lengths
pub one_record : (c d : Copy) → length c.tag ≡ max_tag → length d.tag ≡ max_tag → length c.runs ≡ max_runs → length d.runs ≡ max_runs
    → copy_rule c ≡ true → copy_rule d ≡ true → state_of c ≡ state_of d → c ≡ d
one_record c d ct dt cr dr e f s =
    let k = rule_kept c e in
    let m = rule_kept d f in
    let tags : tag_of c ≡ tag_of d = ap (λ (t : State). t.tag) s in
    let runs : runs_of c ≡ runs_of d = ap (λ (t : State). t.runs) s in
    let lengths : c.length ≡ d.length = ap (λ (t : State). t.length) s in
    let i : c.tag_len ≡ d.tag_len = front-same c.tag d.tag c.tag_len d.tag_len (omega arith) (omega arith) (omega arith) tags in
    let j : c.count ≡ d.count = front-same c.runs d.runs c.count d.count (omega arith) (omega arith) (omega arith) runs in
    let zeros = zeros-same (drop c.tag_len c.tag) (drop d.tag_len d.tag) (simp length-drop (omega arith)) k.zeros m.zeros in
    let blanks = blanks-same (drop c.count c.runs) (drop d.count d.runs) (simp length-drop (omega arith)) k.blank m.blank in
    let tag : c.tag ≡ d.tag = sym (take-append-drop c.tag_len c.tag) ∙ ap₂ ◌++◌ tags zeros ∙ take-append-drop d.tag_len d.tag in
    let list : c.runs ≡ d.runs = sym (take-append-drop c.count c.runs) ∙ ap₂ ◌++◌ runs blanks ∙ take-append-drop d.count d.runs in
    λ t. record { tag = tag t; tag_len = i t; length = lengths t; runs = list t; count = j t }

-- zeros are all zero
pub all-zeros : (k : ℕ) → all is_zero (replicate k 0) ≡ true
all-zeros zero = refl
all-zeros (suc k) = all-zeros k

-- an opening that is not refused
pub good_opening : (tag : List ℕ) (n room : ℕ) → is_strong tag ≡ true → length tag ≤ max_tag → room ≡ n → n ≤ max_file
    → Opens tag n room (record {
      tag = tag ++ replicate (max_tag - length tag) 0;
      tag_len = length tag;
      length = n;
      runs = replicate max_runs (run 0 0);
      count = 0;
    })
unfolding bad_opening opened
good_opening tag n room s l m u =
    let good : bad_opening tag n room ≡ false = rw (s, le-ltb max_tag (length tag) l, eq-eqb room n m, le-ltb max_file n u) in
    let zeros : List ℕ = replicate (max_tag - length tag) 0 in
    let front : take (length tag) (tag ++ zeros) ≡ tag = take-append_seam tag zeros in
    let c : Copy = record { tag = tag ++ zeros; tag_len = length tag; length = n; runs = replicate max_runs (run 0 0); count = 0 } in
    record {
      right = good;
      state = rw (good, front);
      rule = kept_rule c
          (record {
            short = l;
            strong = rw front s;
            zeros = rw (drop-append_seam tag zeros) (all-zeros (max_tag - length tag));
            below = u;
            few = omega arith;
            formed = tt;
            blank = refl;
          });
    }

-- the record of a fresh copy keeps its rule
pub fresh_rule : copy_rule fresh_copy ≡ true
unfolding copy_rule
fresh_rule = refl

-- an opening that is refused
pub refused_opening : (tag : List ℕ) (n room : ℕ) → bad_opening tag n room ≡ true → NotOpened tag n room 19
unfolding opened
refused_opening tag n room e = record { wrong = e; number = refl; state = rw e refl; rule = fresh_rule }

-- so the copy that a caller has is of the state that the definition gives, and its record keeps its rule
pub opens_always : OpensAlways
opens_always tag n room (Ok c) h = record { state = h.state; rule = h.rule }
opens_always tag n room (Err k) h = record { state = h.state; rule = h.rule }
