-- Saving and loading a copy's record.
use Prim.Native.Nat.{ℕ, ◌-◌, ◌≤◌}
use native.Mathlib.Omega.{arith}
use mathlib.Core.Path.{◌≡◌, refl, sym, ◌∙◌, ap, subst}
use mathlib.Core.Bool.{Bool, true, false, cond}
use mathlib.Core.List.{List, ◌++◌}
use Rattle.std.specs.Prelude.{Option, None, Some, Ok, Err}
use lib.ListN.{length, take, drop, replicate}
use lib.Seq.{take-append_seam, drop-append_seam}
use Rattle.rules_server.specs.Limits.{max_tag}
use Rattle.rules_server.specs.Octets.{all}
use Rattle.rules_server.specs.Tags.{is_strong}
use Rattle.rules_tablet.specs.Limits.{max_runs}
use Rattle.rules_tablet.specs.Runs.{WellFormed}
use Rattle.rules_tablet.specs.Copies.{is_zero, all_blank, copy_rule}
use Rattle.rules_tablet.specs.Calls.{State, copy_ok}
use Rattle.rules_tablet.specs.SavedCopies.{saved_bytes, save_refusal, save_call, SavedRead, loads, refuses, saved_read}
use Rattle.rules_tablet.specs.declared.Copy.{Copy}
use Rattle.rules_demands.specs.SavedRefusals.{SavedPlace, Refuses, bad_mark, unknown_version, long_tag, no_strong_tag, long_file, many_runs, bad_run, past_length}
use Rattle.rules_demands.specs.SavedRefusals.{cut_short, trailing, renewed}
use Rattle.laws_saved.proofs.Buffers.{saved_written, saved_holds, saved_front}
use Rattle.laws_saved.proofs.Laws.{saves_once, loads_exactly}
use Rattle.laws_saved.proofs.Outcomes.{state_right}
use Rattle.copy.specs.States.{state_of}
use Rattle.copy.proofs.Laws.{rule_ok, kept_rule, one_record}
use Rattle.copy_bytes.specs.SavedFiles.{saved_says, save_outcome, save_bytes, record_of, loaded_as, load_outcome, loaded_by, load_call}
use Rattle.copy_bytes.specs.SavedFiles.{LoadedCopy}
use Rattle.rules_records.specs.Demand3Records.{CopySized}
use Rattle.rules_records.specs.SavedRecords.{SavedRecords, SavedRecordsBack, SavedAs, SavedAgain, SavedBytesOnce, Unchanged, RefusedUnchanged}
use Rattle.copy.proofs.Laws.{all-zeros}
use Rattle.laws_records.proofs.Exists.{padded_long, blanks, all_blank_lem, blanks_long}

-- The record of a state.

-- it means the state
pub record_state : (s : State) → state_of (record_of s) ≡ s
record_state s =
    let tag = take-append_seam s.tag (replicate (max_tag - length s.tag) 0) in
    let runs = take-append_seam s.runs (blanks s.runs) in
    λ i. record { tag = tag i; length = s.length; runs = runs i }

-- it meets its rule where the state does
pub record_rule : (s : State) → copy_ok s ≡ true → copy_rule (record_of s) ≡ true
record_rule s e =
    let k = state_right s e in
    let blank : List ℕ = replicate (max_tag - length s.tag) 0 in
    kept_rule (record_of s) (record {
      short = k.0.0;
      strong = subst (λ (c : State). is_strong c.tag ≡ true) (sym (record_state s)) k.0.1;
      zeros = ap (all is_zero) (drop-append_seam s.tag blank) ∙ all-zeros (max_tag - length s.tag);
      below = k.1;
      few = k.2;
      formed = subst (λ (c : State). WellFormed 0 s.length c.runs) (sym (record_state s)) k.4;
      blank = ap all_blank (drop-append_seam s.runs (blanks s.runs)) ∙ all_blank_lem (max_runs - length s.runs);
    })

-- and has arrays of their lengths
pub record_sized : (s : State) → copy_ok s ≡ true → CopySized (record_of s)
record_sized s e =
    let k = state_right s e in
    record { tag = padded_long max_tag s.tag k.0.0; runs = blanks_long s.runs k.2 }

-- a record that meets its rule is that of its state
pub record_back : (c : Copy) → CopySized c → copy_rule c ≡ true → record_of (state_of c) ≡ c
record_back c z e =
    let s = state_of c in
    let y = record_sized s (rule_ok c e) in
    one_record (record_of s) c y.tag z.tag y.runs z.runs (record_rule s (rule_ok c e)) e (record_state s)

-- Saving.

-- of a record that was saved
pub record WasSaved (c : Copy) (room k : ℕ) : Type 0 where
  pub rule : copy_rule c ≡ true
  pub fits : save_refusal (state_of c) room ≡ None
  pub size : k ≡ length (saved_bytes (state_of c))

-- what is said tells it
pub was_saved : (c : Copy) (room k : ℕ) → save_outcome c room ≡ Ok k → WasSaved c room k
unfolding save_outcome
was_saved c room k e =
    let h = go (copy_rule c) (save_refusal (state_of c) room) (saved_bytes (state_of c)) e in
    record { rule = h.0; fits = h.1; size = h.2 }
  where
    go : (b : Bool) (o : Option ℕ) (text : List ℕ) → cond b (saved_says o text) (Err 19) ≡ Ok k → (b ≡ true) × (o ≡ None) × (k ≡ length text)
    go true None text y = (refl, refl, cc)
    go true (Some j) text y = let z : ◌≡◌ {A = ℕ} 0 1 = cc in absurd (omega arith)
    go false o text y = let z : ◌≡◌ {A = ℕ} 0 1 = cc in absurd (omega arith)

-- what is said where it is
says-written : (c : Copy) (room : ℕ) → copy_rule c ≡ true → save_refusal (state_of c) room ≡ None → save_outcome c room ≡ Ok (length (saved_bytes (state_of c)))
unfolding save_outcome
says-written c room e f = rw (e, f)

-- what the buffer of a record that meets its rule then holds is that of its state
saves-state : (c : Copy) (out : List ℕ) → copy_rule c ≡ true → save_bytes c out ≡ save_call (state_of c) out
unfolding save_bytes
saves-state c out e = rw e refl

-- a record that meets its rule is saved
pub saved_records : SavedRecords
saved_records c out e l =
    let ok = rule_ok c e in
    says-written c (length out) e (saved_written (state_of c) (length out) ok (omega (arith, l, saves_once.longest (state_of c) ok)))

-- the bytes that were written
written_bytes : (c : Copy) (out : List ℕ) (k : ℕ) → WasSaved c (length out) k → take k (save_bytes c out) ≡ saved_bytes (state_of c)
written_bytes c out k w =
    ap (λ (j : ℕ). take j (save_bytes c out)) w.size
    ∙ ap (take (length (saved_bytes (state_of c)))) (saves-state c out w.rule) ∙ saved_front (state_of c) out w.fits

-- Loading.

-- what is read decides what is loaded
pub loads_read : (d : Copy) (file : List ℕ) (x : SavedRead) → saved_read file ≡ x → load_call d file ≡ loaded_by d (loaded_as x)
unfolding load_outcome
loads_read d file x e = rw e refl

-- the bytes that were written are loaded as the record of their state
pub loads_written : (c d : Copy) (out : List ℕ) (k : ℕ) → WasSaved c (length out) k
    → load_call d (take k (save_bytes c out)) ≡ record { copy = record_of (state_of c); refusal = None }
loads_written c d out k w =
    loads_read d (take k (save_bytes c out)) (loads (state_of c)) (ap saved_read (written_bytes c out k w) ∙ saves_once.back (state_of c) (rule_ok c w.rule))

-- and loaded as it was
pub saved_records_back : SavedRecordsBack
saved_records_back c d out k z e =
    let w = was_saved c (length out) k e in
    loads_written c d out k w ∙ ap (λ (y : Copy). record { copy = y; refusal = None }) (record_back c z w.rule)

-- a state that a file is read as
saved_as_lem : (file : List ℕ) (s : State) → copy_ok s ≡ true → file ≡ saved_bytes s → SavedAs file (record_of s)
saved_as_lem file s ok is =
    let c = record_of s in
    let rule = record_rule s ok in
    let text : saved_bytes (state_of c) ≡ file = ap saved_bytes (record_state s) ∙ sym is in
    let fits : (room : ℕ) → length file ≤ room → save_refusal (state_of c) room ≡ None =
    λ room l. saved_written (state_of c) room (rule_ok c rule) (subst (λ (t : List ℕ). length t ≤ room) (sym text) l) in
    record {
      rule = rule;
      sized = record_sized s ok;
      says = λ out l. says-written c (length out) rule (fits (length out) l) ∙ ap (λ (t : List ℕ). Ok (length t)) text;
      writes = λ out l. saves-state c out rule ∙ saved_holds (state_of c) out (fits (length out) l) ∙ ap (λ (t : List ℕ). t ++ drop (length t) out) text;
    }

-- a file that is loaded is what its record is saved as, under the version that is written
pub saved_bytes_once : SavedBytesOnce
saved_bytes_once file d c b e = go (saved_read file) refl
  where
    go : (x : SavedRead) → saved_read file ≡ x → SavedAgain file c
    go (loads s) f =
        let ok = (((loads_exactly file b).loaded s).0 f).rule in
        let same : record_of s ≡ c = ap (λ (y : LoadedCopy). y.copy) (sym (loads_read d file (loads s) f) ∙ e) in
        record {
          anew = subst (SavedAs (renewed file)) same (saved_as_lem (renewed file) s ok (sym (saves_once.anew file s b f)));
          once = λ two. subst (SavedAs file) same (saved_as_lem file s ok (sym (saves_once.once file s b f two)));
        }
    go (refuses k) f =
        let y : Some k ≡ None = ap (λ (x : LoadedCopy). x.refusal) (sym (loads_read d file (refuses k) f) ∙ e) in
        let z : ◌≡◌ {A = ℕ} 0 1 = cc in
        absurd (omega arith)

-- the numbers of the table of refusals
table_numbers : (p : SavedPlace) (l : List ℕ) (k : ℕ) → Refuses p l k → (22 ≤ k) × (k ≤ 30)
table_numbers _ _ _ (bad_mark u l n f) = (omega arith, omega arith)
table_numbers _ _ _ (unknown_version u l n f) = (omega arith, omega arith)
table_numbers _ _ _ (long_tag v k l f) = (omega arith, omega arith)
table_numbers _ _ _ (no_strong_tag v u l f) = (omega arith, omega arith)
table_numbers _ _ _ (long_file v tag n l g f) = (omega arith, omega arith)
table_numbers _ _ _ (many_runs v tag n k l g f) = (omega arith, omega arith)
table_numbers _ _ _ (bad_run v tag n count rs r l few a b f) = (omega arith, omega arith)
table_numbers _ _ _ (past_length v tag n count rs r l few a b g f) = (omega arith, omega arith)
table_numbers _ _ _ (cut_short p l g f) = (omega arith, omega arith)
table_numbers _ _ _ (trailing v tag n rs b l) = (omega arith, omega arith)

-- a refusal leaves the copy that was given
pub refused_unchanged : RefusedUnchanged
refused_unchanged file d k b e = go (saved_read file) refl
  where
    go : (x : SavedRead) → saved_read file ≡ x → Unchanged file d k
    go (loads s) f =
        let y : None ≡ Some k = ap (λ (x : LoadedCopy). x.refusal) (sym (loads_read d file (loads s) f)) ∙ e in
        let z : ◌≡◌ {A = ℕ} 0 1 = cc in
        absurd (omega arith)
    go (refuses j) f =
        let y : Some j ≡ Some k = ap (λ (x : LoadedCopy). x.refusal) (sym (loads_read d file (refuses j) f)) ∙ e in
        let same : j ≡ k = cc in
        let r = ((loads_exactly file b).refused k).0 (f ∙ ap refuses same) in
        let n = table_numbers r.place r.rest k r.refuses in
        record { copy = ap (λ (x : LoadedCopy). x.copy) (loads_read d file (refuses j) f); refused = r; least = n.0; most = n.1 }
