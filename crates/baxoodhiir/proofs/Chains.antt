-- What a read leaves is a copy again. Assumes nothing.
use Prim.Native.Nat.{ℕ, zero, suc, ◌+◌, ◌-◌, ◌≤◌}
use mathlib.Core.Path.{◌≡◌, refl, sym, ap, ap₂, ◌∙◌}
use mathlib.Core.Bool.{true, ◌&&◌}
use mathlib.Core.List.{List, [], ◌∷◌, ◌++◌}
use native.Mathlib.Omega.{arith}
use lib.Dec.{leb, eqb}
use lib.ListN.{length, replicate, length-append, length-replicate}
use lib.Seq.{take-append_seam, drop-append_seam}
use borrow.Author.Tests.{leb-true, eqb-true, eq-eqb}
use Rattle.rules_server.specs.Limits.{max_file, max_tag}
use Rattle.rules_server.specs.Tags.{is_strong}
use Rattle.rules_server.specs.declared.Run.{Run}
use Rattle.rules_tablet.specs.Limits.{max_runs}
use Rattle.rules_tablet.specs.Runs.{WellFormed, well_formed, run}
use Rattle.rules_tablet.specs.Copies.{tag_of, runs_of, all_blank, copy_rule}
use Rattle.rules_tablet.specs.Parsers.{Parser}
use Rattle.rules_tablet.specs.Calls.{State, copy_ok, reader_ok, fresh, feedable}
use Rattle.rules_tablet.specs.declared.Copy.{Copy}
use Rattle.copy.specs.States.{state_of}
use Rattle.copy.proofs.Laws.{rule_kept, kept_rule, rule_ok}
use Rattle.laws_runs.proofs.Members.{test_true}
use Rattle.laws_reader.proofs.rules_kept.Tests.{trues, and_left, and_right}
use Rattle.laws_reader.proofs.rules_kept.Demand1.{fair_always}
use Rattle.copy_bytes.specs.Lists.{runs_size, list_bytes, copy_in, is_copy}
use Rattle.copy_bytes.proofs.Lists.{list_long, tag_in}
use Rattle.copy_bytes.proofs.Backs.{reads_back}
use Rattle.baxoodhiir.specs.Reads.{is_readable, whole_call, read_runs}
use Rattle.baxoodhiir.specs.Chains.{ChainsAlways}

-- a reader can be begun beside each copy that keeps its rule
begins : (c : Copy) (buffer : List ℕ) → copy_rule c ≡ true → length buffer ≡ c.length → feedable (state_of c) fresh buffer ≡ true
unfolding feedable reader_ok fresh
begins c buffer e n = rw (rule_ok c e, eq-eqb (length buffer) c.length n) refl

-- what can be fed is a copy that keeps its rule
feedable_copy : (s : State) (p : Parser) (l : List ℕ) → feedable s p l ≡ true → copy_ok s ≡ true
unfolding feedable
feedable_copy s p l h = and_left (copy_ok s) (eqb (length l) s.length) (and_left (copy_ok s && eqb (length l) s.length) (reader_ok s p) h)

-- so many blank runs are blank
all_blank_lem : (k : ℕ) → all_blank (replicate k (run 0 0)) ≡ true
all_blank_lem zero = refl
all_blank_lem (suc k) = all_blank_lem k

-- the record of a copy with other runs
abbrev with-runs : List Run → Copy → Copy
with-runs rs c = record { tag = c.tag; tag_len = c.tag_len; length = c.length; runs = rs ++ replicate (max_runs - length rs) (run 0 0); count = length rs }

-- it keeps the rule where the state does
with_rule : (rs : List Run) (c : Copy) (s : State) → copy_rule c ≡ true → copy_ok s ≡ true → s.length ≡ c.length → s.runs ≡ rs
    → copy_rule (with-runs rs c) ≡ true
unfolding copy_ok
with_rule rs c s e f n g =
    let k = rule_kept c e in
    let t = trues (is_strong s.tag) (leb (length s.tag) max_tag ∷ leb s.length max_file ∷ leb (length s.runs) max_runs
    ∷ well_formed 0 s.length s.runs ∷ []) f in
    let few : length rs ≤ max_runs = rw g at (leb-true (length s.runs) max_runs t.1.1.1.0) in
    let formed : WellFormed 0 c.length rs = rw (n, g) at (test_true 0 s.length s.runs t.1.1.1.1.0) in
    let blank = replicate (max_runs - length rs) (run 0 0) in
    kept_rule (with-runs rs c) (record {
      short = k.short;
      strong = k.strong;
      zeros = k.zeros;
      below = k.below;
      few = few;
      formed = rw (take-append_seam rs blank) formed;
      blank = rw (drop-append_seam rs blank) (all_blank_lem (max_runs - length rs));
    })

pub chains_always : ChainsAlways
unfolding is_readable read_runs is_copy
chains_always tag n list buffer answer e =
    let c = copy_in tag n list in
    let s = (whole_call c buffer answer).copy in
    let rs = s.runs in
    let d = with-runs rs c in
    let right : is_copy tag n list ≡ true = and_left (is_copy tag n list) (eqb (length buffer) n) e in
    let room : length buffer ≡ n = eqb-true (length buffer) n (and_right (is_copy tag n list) (eqb (length buffer) n) e) in
    let rule : copy_rule c ≡ true = and_right (eqb (length list) runs_size) (copy_rule c) right in
    let ready = begins c buffer rule room in
    let fair = fair_always (state_of c) fresh buffer answer in
    let ok : copy_ok s ≡ true = feedable_copy s _ _ (fair.rules ready) in
    let kept = rule_kept c rule in
    let new : copy_rule d ≡ true = with_rule rs c s rule ok fair.size refl in
    let few = (rule_kept d new).few in
    let tags : length d.tag ≡ max_tag = length-append tag (replicate (max_tag - length tag) 0)
    ∙ ap (λ (m : ℕ). length tag + m) (length-replicate (max_tag - length tag) 0) ∙ over (length tag) max_tag kept.short in
    let full : length d.runs ≡ max_runs = length-append rs (replicate (max_runs - length rs) (run 0 0))
    ∙ ap (λ (m : ℕ). length rs + m) (length-replicate (max_runs - length rs) (run 0 0)) ∙ over (length rs) max_runs few in
    let runs : runs_of d ≡ rs = take-append_seam rs (replicate (max_runs - length rs) (run 0 0)) in
    let tagged : tag_of d ≡ tag = tag_in tag n list in
    let is : copy_in tag n (list_bytes rs) ≡ d = ap₂ (λ (t : List ℕ) (l : List Run). copy_in t n (list_bytes l)) (sym tagged) (sym runs)
    ∙ reads_back d tags full new in
    let size : length (list_bytes rs) ≡ runs_size = ap (λ (l : List Run). length (list_bytes l)) (sym runs) ∙ list_long d new full in
    let left : read_runs tag n list buffer answer ≡ list_bytes rs = rw e refl in
    let again : is_copy tag n (list_bytes rs) ≡ true = rw (eq-eqb (length (list_bytes rs)) runs_size size) (ap copy_rule is ∙ new) in
    let state : state_of d ≡ s = λ i. record { tag = sym fair.tag i; length = sym fair.size i; runs = runs i } in
    record { copy = ap (is_copy tag n) left ∙ again; state = ap (λ (l : List ℕ). state_of (copy_in tag n l)) left ∙ ap state_of is ∙ state }
  where
    over : (k m : ℕ) → k ≤ m → k + (m - k) ≡ m
    over k m h = omega arith
