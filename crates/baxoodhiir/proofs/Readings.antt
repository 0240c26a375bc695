-- What a read says and leaves, from what is listed and what feeding says. Assumes nothing.
use Prim.Native.Nat.{ℕ}
use mathlib.Core.Path.{◌≡◌, refl, sym, ap, ap₂, ◌∙◌}
use mathlib.Core.Bool.{true, false, and-false}
use mathlib.Core.List.{List, ◌++◌}
use lib.Dec.{eqb}
use lib.ListN.{length}
use Rattle.std.specs.Prelude.{Result, Ok, Err}
use borrow.Author.Tests.{eqb-true, eq-eqb, ne_eqb}
use Rattle.writing.specs.Window.{write}
use Rattle.rules_tablet.specs.Limits.{max_runs}
use Rattle.rules_tablet.specs.Copies.{runs_of, copy_rule}
use Rattle.rules_tablet.specs.Calls.{State, Feeding, feed_call}
use Rattle.rules_tablet.specs.Parsers.{Parser}
use Rattle.rules_tablet.specs.Readers.{parser_in}
use Rattle.rules_tablet.specs.declared.Copy.{Copy}
use Rattle.rules_tablet.specs.declared.Reader.{Reader}
use Rattle.copy.specs.States.{state_of}
use Rattle.reader.specs.declared.fed.Fed.{Fed}
use Rattle.reader.specs.Calls.{feed_rule, FedIs}
use Rattle.reader.specs.Begun.{Begun}
use Rattle.copy_bytes.specs.Lists.{runs_bytes, eight, runs_size, copy_in, is_copy, list_bytes, listed}
use Rattle.copy_bytes.proofs.Lists.{list_of, list_written, listing}
use Rattle.laws_reader.proofs.rules_kept.Tests.{and_left}
use Rattle.baxoodhiir.specs.Reads.{report_number, is_readable, whole_call, read_number, read_taken, read_runs, read_buffer, ReadIs}

-- the list of a copy has its size
list_size : (tag : List ℕ) (n : ℕ) (list : List ℕ) → is_copy tag n list ≡ true → length list ≡ runs_size
unfolding is_copy
list_size tag n list t = eqb-true (length list) runs_size (and_left (eqb (length list) runs_size) (copy_rule (copy_in tag n list)) t)

-- 19
refused : (tag : List ℕ) (n : ℕ) (list buffer answer : List ℕ) → is_readable tag n list buffer ≡ false → ReadIs tag n list buffer answer 19 0 list buffer
unfolding read_number read_taken read_runs read_buffer
refused tag n list buffer answer e = record { says = rw e refl; taken = rw e refl; runs = rw e refl; buffer = rw e refl }

-- a buffer of another length
pub buffer_refused : (tag : List ℕ) (n : ℕ) (list buffer answer : List ℕ) → (length buffer ≡ n → ⊥) → ReadIs tag n list buffer answer 19 0 list buffer
unfolding is_readable
buffer_refused tag n list buffer answer m = refused tag n list buffer answer (rw (ne_eqb (length buffer) n m) (and-false (is_copy tag n list)))

-- no copy
pub copy_refused : (tag : List ℕ) (n : ℕ) (list buffer answer : List ℕ) (k : ℕ) → Err k ≡ listed tag n list → ReadIs tag n list buffer answer k 0 list buffer
unfolding is_readable
copy_refused tag n list buffer answer k e =
    let l = listing tag n list (Err k) e in
    rw l.1 (refused tag n list buffer answer (rw l.0 refl))

-- the answer is read
pub reads : (tag : List ℕ) (n : ℕ) (list buffer answer : List ℕ) (c : Copy) (r : Reader) (f : Fed) (k : ℕ) (list' buffer' : List ℕ)
    → Ok c ≡ listed tag n list → length buffer ≡ n
    → Begun r → FedIs c r buffer answer f buffer' → length f.copy.runs ≡ max_runs
    → list' ≡ (write (eight f.copy.count ++ runs_bytes f.copy.runs) (record { bytes = list; skip = 0; at = 0 })).bytes → k ≡ report_number f.report
    → ReadIs tag n list buffer answer k f.taken list' buffer'
unfolding read_number read_taken read_runs read_buffer is_readable feed_rule
reads tag n list buffer answer c r f k list' buffer' o m b fed full stored said =
    let h = listing tag n list (Ok c) o in
    let right : is_copy tag n list ≡ true = h.a_copy in
    let room : length buffer ≡ c.length = m ∙ sym (ap (λ (x : Copy). x.length) h.is) in
    let ready : feed_rule c r buffer ≡ true = rw (h.rule, eq-eqb (length buffer) c.length room, b.rule c) refl in
    let x = fed.fed ready in
    let same : feed_call (state_of c) (parser_in r) buffer answer ≡ whole_call (copy_in tag n list) buffer answer =
    ap₂ (λ (y : Copy) (p : Parser). feed_call (state_of y) p buffer answer) h.is b.is in
    let list-is : list' ≡ list_bytes (runs_of f.copy) =
    list_written f.copy.count f.copy.runs list list' full (list_size tag n list right) stored ∙ list_of f.copy x.copy_rule full in
    let right-buffer : eqb (length buffer) n ≡ true = eq-eqb (length buffer) n m in
    record {
      says = rw (right, right-buffer) (said ∙ ap report_number (x.report ∙ ap (λ (y : Feeding). y.report) same));
      taken = rw (right, right-buffer) (x.taken ∙ ap (λ (y : Feeding). y.taken) same);
      runs = rw (right, right-buffer) (list-is ∙ ap (λ (s : State). list_bytes s.runs) (x.copy ∙ ap (λ (y : Feeding). y.copy) same));
      buffer = rw (right, right-buffer) (x.stored ∙ ap (λ (y : Feeding). y.buffer) same);
    }
