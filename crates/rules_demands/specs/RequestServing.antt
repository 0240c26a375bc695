-- Our server's answer to the request that a copy writes, whatever the copy holds: a 206 of exactly the holes asked for ("writes Range fields that the server
-- reads back as the same ranges").
use Rattle.std.specs.Prelude.{◌≡◌, List, ℕ, ℤ, length}
use Rattle.std.specs.Prelude.{Option, None}
use Rattle.rules_server.specs.Status.{LastModified}
use Rattle.rules_server.specs.Answers.{answer, partial_answer}
use Rattle.rules_tablet.specs.Requests.{wanted}
use Rattle.rules_tablet.specs.Calls.{State, request_refusal, request_call}
use Rattle.rules_demands.specs.Demand3Sessions.{resource_of}
use Rattle.rules_demands.specs.RequestReading.{request_in}

-- of a file of the copy's length under the copy's tag
abbrev pub RequestServed : Type 0
RequestServed =
    (c : State) (out file media boundary : List ℕ) (modified : Option LastModified) (reference : ℤ)
    → length file ≡ c.length → request_refusal c (length out) ≡ None
    → answer (request_in (request_call c out)) (resource_of file c.tag media boundary modified reference)
    ≡ partial_answer (resource_of file c.tag media boundary modified reference) (wanted c.length c.runs)
