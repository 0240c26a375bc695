-- What is said of a request for what a copy lacks, where the copy is a tag, a length and a list of runs: 19 where they are no copy, else the tablet end's
-- request.
use Rattle.std.specs.Prelude.{ℕ, ◌≡◌, cond, List, length, Result, Err}
use Rattle.copy_request.specs.Requested.{request_outcome, request_bytes}
use Rattle.copy_bytes.specs.Lists.{copy_in, is_copy}
use Rattle.baxoodhiir.specs.Numbers.{number_said, length_said}

-- 0 of a request that is written, or the number of a refusal
abbrev pub request_number : Result ℕ ℕ → ℕ
request_number r = number_said r

-- the length of a request, 0 of a refusal
abbrev pub request_length : Result ℕ ℕ → ℕ
request_length r = length_said r

-- "Request: 19, 18, 20", for an output buffer of so many bytes
unfoldable pub request_said : List ℕ → ℕ → List ℕ → ℕ → Result ℕ ℕ
request_said tag n list room = cond (is_copy tag n list) (request_outcome (copy_in tag n list) room) (Err 19)

-- what the output buffer then holds
unfoldable pub request_left : List ℕ → ℕ → List ℕ → List ℕ → List ℕ
request_left tag n list out = cond (is_copy tag n list) (request_bytes (copy_in tag n list) out) out

-- all three: the number, the length and the output buffer
pub record RequestIs (tag : List ℕ) (n : ℕ) (list out : List ℕ) (k m : ℕ) (out' : List ℕ) : Type 0 where
  pub says : k ≡ request_number (request_said tag n list (length out))
  pub written : m ≡ request_length (request_said tag n list (length out))
  pub writes : out' ≡ request_left tag n list out
