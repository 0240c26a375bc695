-- What the exported function of the server end says and leaves: document 01's outcome and output, in numbers.
use Rattle.std.specs.Prelude.{ℕ, ◌≡◌, List, length}
use Rattle.rules_server.specs.Status.{Request, Resource}
use Rattle.rules_server.specs.Refusals.{outcome, output}
use Rattle.baxoodhiir.specs.Numbers.{status_in, reason_in, length_in}

-- what is said of a request, and what the reason, the length and the output buffer then are
pub record AnswerIs (request : Request) (file : Resource) (out : List ℕ) (k row n : ℕ) (out' : List ℕ) : Type 0 where
  pub says : k ≡ status_in (outcome request file (length out))
  pub reason : row ≡ reason_in (outcome request file (length out))
  pub written : n ≡ length_in (outcome request file (length out))
  pub writes : out' ≡ output request file out
