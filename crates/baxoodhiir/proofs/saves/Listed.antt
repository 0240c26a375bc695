-- The copy that is listed, saved. Assumes nothing.
use Rattle.std.proofs.Common.{◌≡◌, ℕ, List, length, refl, ap, ◌∙◌, Result, Ok, Err}
use Rattle.rules_tablet.specs.declared.Copy.{Copy}
use Rattle.copy_bytes.specs.Lists.{listed}
use Rattle.copy_bytes.specs.SavedFiles.{save_outcome, save_bytes}
use Rattle.copy_bytes.proofs.Lists.{listing}
use Rattle.baxoodhiir.specs.Saves.{saved_number, saved_length, save_said, save_left, SaveIs}

-- no copy: the number that is said, and nothing written
pub save_refused : (tag : List ℕ) (n : ℕ) (list out : List ℕ) (k : ℕ) → Err k ≡ listed tag n list → SaveIs tag n list out k 0 out
unfolding save_said save_left
save_refused tag n list out k e =
    let l = listing tag n list (Err k) e in
    record { says = rw (l.0, l.1) refl; written = rw l.0 refl; writes = rw l.0 refl }

-- the copy that is listed
pub save_listed : (tag : List ℕ) (n : ℕ) (list : List ℕ) (c : Copy) (out out' : List ℕ) (r : Result ℕ ℕ) → Ok c ≡ listed tag n list
    → r ≡ save_outcome c (length out) → out' ≡ save_bytes c out → SaveIs tag n list out (saved_number r) (saved_length r) out'
unfolding save_said save_left
save_listed tag n list c out out' r h e f =
    let l = listing tag n list (Ok c) h in
    let o = e ∙ ap (λ (x : Copy). save_outcome x (length out)) l.is in
    record {
      says = rw l.a_copy (ap saved_number o);
      written = rw l.a_copy (ap saved_length o);
      writes = rw l.a_copy (f ∙ ap (λ (x : Copy). save_bytes x out) l.is);
    }
