-- A copy that was saved is loaded as it was. Assumes nothing.
use Prim.Native.Nat.{ℕ, zero, suc, ◌-◌}
use mathlib.Core.Path.{◌≡◌, refl, sym, ap, ◌∙◌}
use mathlib.Core.Bool.{Bool, true, false, cond}
use mathlib.Core.List.{List, ◌++◌}
use Rattle.std.specs.Prelude.{Option, None, Some, Result, Ok, Err}
use native.Mathlib.Omega.{arith}
use lib.Dec.{eqb}
use lib.ListN.{length, take, drop, replicate, length-append, length-replicate}
use lib.Seq.{take-append_seam}
use borrow.Author.Tests.{eq-eqb}
use Rattle.rules_server.specs.Limits.{max_tag}
use Rattle.rules_tablet.specs.Limits.{max_runs}
use Rattle.rules_tablet.specs.Copies.{tag_of, runs_of, copy_rule}
use Rattle.rules_tablet.specs.Calls.{State}
use Rattle.rules_tablet.specs.SavedCopies.{saved_bytes, save_refusal, save_call, SavedRead, loads, saved_read}
use Rattle.copy.specs.States.{state_of}
use Rattle.copy.proofs.Laws.{rule_kept, rule_ok}
use Rattle.laws_reader.proofs.rules_kept.Tests.{and_right}
use Rattle.laws_saved.proofs.Laws.{saves_once}
use Rattle.copy_bytes.specs.Lists.{runs_size, runs_from, list_bytes, copy_in, is_copy}
use Rattle.copy_bytes.specs.SavedFiles.{saved_says, save_outcome, save_bytes}
use Rattle.copy_bytes.proofs.Lists.{list_long, tag_in}
use Rattle.copy_bytes.proofs.Backs.{reads_back}
use Rattle.baxoodhiir.specs.Saves.{save_said, save_left, CopyMemory, is_memory, loaded_number, memory_with, load_said, load_left}
use Rattle.baxoodhiir.specs.Chains.{SavedChainsAlways}

-- what is refused is not written
not_written : (j k : ℕ) → ◌≡◌ {A = Result ℕ ℕ} (Err j) (Ok k) → ⊥
not_written j k e = let z : ◌≡◌ {A = ℕ} 0 1 = cc in absurd (omega arith)

-- so many runs are read
runs-counted : (k : ℕ) (l : List ℕ) → length (runs_from k l) ≡ k
unfolding runs_from
runs-counted zero l = refl
runs-counted (suc k) l = ap suc (runs-counted k (drop 16 l))

-- where a copy was saved they are a copy, and its bytes stand at the front
module _ (tag : List ℕ) (n : ℕ) (list out : List ℕ) (k : ℕ) (e : save_said tag n list (length out) ≡ Ok k) where
  is_copy_lem : is_copy tag n list ≡ true
  unfolding save_said
  is_copy_lem = go (is_copy tag n list) refl
    where
      go : (b : Bool) → is_copy tag n list ≡ b → is_copy tag n list ≡ true
      go true t = t
      go false t =
          let said : cond (is_copy tag n list) (save_outcome (copy_in tag n list) (length out)) (Err 19) ≡ Err 19 = rw t refl in
          absurd (not_written 19 k (sym said ∙ e))

  rule : copy_rule (copy_in tag n list) ≡ true
  unfolding is_copy
  rule = and_right (eqb (length list) runs_size) (copy_rule (copy_in tag n list)) is_copy_lem

  outcome : saved_says (save_refusal (state_of (copy_in tag n list)) (length out)) (saved_bytes (state_of (copy_in tag n list))) ≡ Ok k
  unfolding save_said save_outcome
  outcome = rw (is_copy_lem, rule) at e

  front : take k (save_left tag n list out) ≡ saved_bytes (state_of (copy_in tag n list))
  unfolding save_left save_bytes save_call
  front = go (save_refusal (state_of (copy_in tag n list)) (length out)) refl
    where
      s : State
      s = state_of (copy_in tag n list)

      go : (o : Option ℕ) → save_refusal s (length out) ≡ o → take k (save_left tag n list out) ≡ saved_bytes s
      go (Some j) h = absurd (not_written j k (sym (ap (λ (x : Option ℕ). saved_says x (saved_bytes s)) h) ∙ outcome))
      go None h =
          let size : length (saved_bytes s) ≡ k = counted (sym (ap (λ (x : Option ℕ). saved_says x (saved_bytes s)) h) ∙ outcome) in
          rw (is_copy_lem, rule, h) (ap (λ (j : ℕ). take j (saved_bytes s ++ drop (length (saved_bytes s)) out)) (sym size)
          ∙ take-append_seam (saved_bytes s) (drop (length (saved_bytes s)) out))
        where
          counted : {a b : ℕ} → ◌≡◌ {A = Result ℕ ℕ} (Ok a) (Ok b) → a ≡ b
          counted p = cc

-- what a file is read as, in memory of its sizes
read_said : (file : List ℕ) (m : CopyMemory) (x : SavedRead) → is_memory m ≡ true → saved_read file ≡ x → load_said file m ≡ loaded_number x
unfolding load_said
read_said file m x fits e = rw (fits, e) refl

read_left : (file : List ℕ) (m : CopyMemory) (x : SavedRead) → is_memory m ≡ true → saved_read file ≡ x → load_left file m ≡ memory_with x m
unfolding load_left
read_left file m x fits e = rw (fits, e) refl

pub saved_chains_always : SavedChainsAlways
unfolding is_copy
saved_chains_always tag n list out k m e fits =
    let c = copy_in tag n list in
    let file = take k (save_left tag n list out) in
    let kept = rule tag n list out k e in
    let read : saved_read file ≡ loads (state_of c) = ap saved_read (front tag n list out k e) ∙ saves_once.back (state_of c) (rule_ok c kept) in
    let left = read_left file m (loads (state_of c)) fits read in
    let tagged : tag_of c ≡ tag = tag_in tag n list in
    let tags : length c.tag ≡ max_tag =
    omega (arith, length-append tag (replicate (max_tag - length tag) 0), length-replicate {A = ℕ} (max_tag - length tag) 0, (rule_kept c kept).short) in
    let full : length c.runs ≡ max_runs = runs-counted max_runs (drop 8 list) in
    let runs : (load_left file m).runs ≡ list_bytes (runs_of c) = ap (λ (z : CopyMemory). z.runs) left in
    let is : copy_in tag n (list_bytes (runs_of c)) ≡ c = ap (λ (t : List ℕ). copy_in t n (list_bytes (runs_of c))) (sym tagged) ∙ reads_back c tags full kept in
    let size = eq-eqb (length (list_bytes (runs_of c))) runs_size (list_long c kept full) in
    let again : is_copy tag n (list_bytes (runs_of c)) ≡ true = rw size (ap copy_rule is ∙ kept) in
    record {
      says = read_said file m (loads (state_of c)) fits read;
      tag_is = ap (λ (z : CopyMemory). z.tag) left ∙ ap (λ (t : List ℕ). t ++ replicate (max_tag - length t) 0) tagged;
      tag_length = ap (λ (z : CopyMemory). z.tag_length) left ∙ ap length tagged;
      length_is = ap (λ (z : CopyMemory). z.length) left;
      copy = ap (is_copy tag n) runs ∙ again;
      same = ap (copy_in tag n) runs ∙ is;
    }
