-- A request for the copy that is listed. Assumes nothing.
use Rattle.std.proofs.Common.{◌≡◌, ℕ, List, length, refl, ap, ◌∙◌, Result, Ok, Err}
use Rattle.rules_tablet.specs.declared.Copy.{Copy}
use Rattle.copy_request.specs.Requested.{request_outcome, request_bytes}
use Rattle.copy_bytes.specs.Lists.{listed}
use Rattle.copy_bytes.proofs.Lists.{listing}
use Rattle.baxoodhiir.specs.Requests.{request_number, request_length, request_said, request_left, RequestIs}

-- no copy: the number that is said, and nothing written
pub request_refused : (tag : List ℕ) (n : ℕ) (list out : List ℕ) (k : ℕ) → Err k ≡ listed tag n list → RequestIs tag n list out k 0 out
unfolding request_said request_left
request_refused tag n list out k e =
    let l = listing tag n list (Err k) e in
    record { says = rw (l.0, l.1) refl; written = rw l.0 refl; writes = rw l.0 refl }

-- a request for the copy that is listed
pub request_listed : (tag : List ℕ) (n : ℕ) (list : List ℕ) (c : Copy) (out out' : List ℕ) (r : Result ℕ ℕ) → Ok c ≡ listed tag n list
    → r ≡ request_outcome c (length out) → out' ≡ request_bytes c out → RequestIs tag n list out (request_number r) (request_length r) out'
unfolding request_said request_left
request_listed tag n list c out out' r h e f =
    let l = listing tag n list (Ok c) h in
    let o = e ∙ ap (λ (x : Copy). request_outcome x (length out)) l.is in
    record {
      says = rw l.a_copy (ap request_number o);
      written = rw l.a_copy (ap request_length o);
      writes = rw l.a_copy (f ∙ ap (λ (x : Copy). request_bytes x out) l.is);
    }
