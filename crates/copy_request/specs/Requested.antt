-- What is said of a request, and what its buffer then holds, for a list of ranges and for what a copy lacks.
use Rattle.std.specs.Prelude.{ℕ, cond, List, length}
use Rattle.std.specs.Prelude.{Option, None, Some, Result, Ok, Err}
use Rattle.rules_server.specs.declared.Run.{Run}
use Rattle.rules_tablet.specs.Requests.{request_text, request_of, request_output}
use Rattle.rules_tablet.specs.Copies.{copy_rule}
use Rattle.rules_tablet.specs.Calls.{request_refusal, request_lines, request_call}
use Rattle.rules_tablet.specs.declared.Copy.{Copy}
use Rattle.copy.specs.States.{state_of}

-- a refusal, or else the length of the text
abbrev pub said : Option ℕ → List ℕ → Result ℕ ℕ
said None text = Ok (length text)
said (Some k) text = Err k

-- of a request for ranges under a tag, for a buffer with room for so many bytes
unfoldable pub ranges_outcome : List Run → List ℕ → ℕ → Result ℕ ℕ
ranges_outcome rs tag room = said (request_of rs tag room) (request_text rs tag)

-- what the buffer then holds
unfoldable pub ranges_bytes : List Run → List ℕ → List ℕ → List ℕ
ranges_bytes rs tag out = request_output (request_of rs tag (length out)) (request_text rs tag) out

-- of the request for what a copy lacks: 19 for a record that breaks its rule, else by what it means
unfoldable pub request_outcome : Copy → ℕ → Result ℕ ℕ
request_outcome c room = cond (copy_rule c) (said (request_refusal (state_of c) room) (request_lines (state_of c))) (Err 19)

-- what the buffer then holds
unfoldable pub request_bytes : Copy → List ℕ → List ℕ
request_bytes c out = cond (copy_rule c) (request_call (state_of c) out) out
