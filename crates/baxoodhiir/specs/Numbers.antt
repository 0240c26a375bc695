-- Document 01's numbers for what the server end says: "Where an answer is an enum, a definition gives this paper's number and values for each of the enum's
-- cases".
use Rattle.std.specs.Prelude.{ℕ, Result, Ok, Err}
use Rattle.rules_server.specs.Reasons.{reason_row}
use Rattle.rules_server.specs.declared.Reason.{Reason}
use Rattle.rules_server.specs.declared.Answered.{Answered}

-- a reason's number in the table of reasons
abbrev pub reason_number : Reason → ℕ
reason_number x = (reason_row x).number

-- the status of an answer, or the number of a refusal
abbrev pub status_in : Result Answered ℕ → ℕ
status_in (Ok a) = a.status
status_in (Err k) = k

-- the number of an answer's reason, 0 of a refusal
abbrev pub reason_in : Result Answered ℕ → ℕ
reason_in (Ok a) = reason_number a.reason
reason_in (Err k) = 0

-- the length of an answer, 0 of a refusal
abbrev pub length_in : Result Answered ℕ → ℕ
length_in (Ok a) = a.length
length_in (Err k) = 0

-- 0 of what is written, or the number of a refusal
abbrev pub number_said : Result ℕ ℕ → ℕ
number_said (Ok length) = 0
number_said (Err k) = k

-- the length of what is written, 0 of a refusal
abbrev pub length_said : Result ℕ ℕ → ℕ
length_said (Ok length) = length
length_said (Err k) = 0
