-- Refusal numbers 1 to 7 and 9 (document 01 and request 2026-01), and what the server end says and writes.
use Rattle.std.specs.Prelude.{ℕ, Bool, false, not, cond, ◌&&◌, ◌||◌, List, [], ◌∷◌, ◌++◌, ltb, ℤ, length, drop}
use Rattle.std.specs.Prelude.{Option, None, Some, Result, Ok, Err}
use Rattle.rules_server.specs.Limits.{max_file}
use Rattle.rules_server.specs.Octets.{same, occurs}
use Rattle.rules_server.specs.Texts.{crlf, get, head}
use Rattle.rules_server.specs.Tags.{bad_tag, bad_type, bad_boundary}
use Rattle.rules_server.specs.Calendar.{bad_time}
use Rattle.rules_server.specs.Reasons.{is_asked_parts, reason_row}
use Rattle.rules_server.specs.Status.{Request, LastModified, Resource, decide, status_of}
use Rattle.rules_server.specs.Answers.{dash_boundary, data_of, parts_for, answer, bytes_of}
use Rattle.rules_server.specs.declared.Run.{Run}
use Rattle.rules_server.specs.declared.Reason.{Reason}
use Rattle.rules_server.specs.declared.Answered.{Answered}

-- refusal 1: "method is neither GET nor HEAD"
unfoldable pub bad_method : List ℕ → Bool
bad_method m = not (same m get) && not (same m head)

-- refusal 2: "file over 1,099,511,627,776 bytes"
unfoldable pub bad_length : List ℕ → Bool
bad_length file = ltb max_file (length file)

-- refusal 9: "A given or reference time outside 1970 to 9999"; one that is not given is not judged
unfoldable pub bad_times : Option LastModified → ℤ → Bool
bad_times None reference = bad_time reference
bad_times (Some m) reference = bad_time m.time || bad_time reference

-- "CR LF `--` boundary occurs in CR LF followed by some part's data"
abbrev pub delimiter_in_parts : List ℕ → List ℕ → List Run → Bool
delimiter_in_parts boundary file [] = false
delimiter_in_parts boundary file (r ∷ rs) = occurs (crlf ++ dash_boundary boundary) (crlf ++ data_of file r) || delimiter_in_parts boundary file rs

-- several parts are a multipart
abbrev pub delimiter_in_multipart : List ℕ → List ℕ → List Run → Bool
delimiter_in_multipart boundary file [] = false
delimiter_in_multipart boundary file (r ∷ []) = false
delimiter_in_multipart boundary file (r ∷ s ∷ rs) = delimiter_in_parts boundary file (r ∷ s ∷ rs)

-- the answer for the reason is a 206
abbrev pub is_partial : Reason → Bool
is_partial x = is_asked_parts (reason_row x).carries

-- refusal 6: "multipart, and .."
unfoldable pub bad_delimiter : Request → Resource → Bool
bad_delimiter q f = is_partial (decide q f) && delimiter_in_multipart f.boundary f.file (parts_for q f)

-- refusal 7: "answer longer than the output buffer", of room bytes
unfoldable pub bad_room : Request → Resource → ℕ → Bool
bad_room q f room = ltb room (length (bytes_of (answer q f)))

-- a row of the refusal table
pub record RefusalRow : Type 0 where
  pub holds : Bool
  pub number : ℕ

abbrev pub first_refusal : List RefusalRow → Option ℕ
first_refusal [] = None
first_refusal (r ∷ rs) = cond r.holds (Some r.number) (first_refusal rs)

-- "Server order is 1 to 7", with 9 "between 5 and 6"
unfoldable pub refusal_rows : Request → Resource → ℕ → List RefusalRow
refusal_rows q f room =
    record { holds = bad_method q.method; number = 1 }
    ∷ record { holds = bad_length f.file; number = 2 }
    ∷ record { holds = bad_tag f.tag; number = 3 }
    ∷ record { holds = bad_type f.media; number = 4 }
    ∷ record { holds = bad_boundary f.boundary; number = 5 }
    ∷ record { holds = bad_times f.modified f.reference; number = 9 }
    ∷ record { holds = bad_delimiter q f; number = 6 }
    ∷ record { holds = bad_room q f room; number = 7 }
    ∷ []

unfoldable pub refusal : Request → Resource → ℕ → Option ℕ
unfolding refusal_rows
refusal q f room = first_refusal (refusal_rows q f room)

-- an answer of this reason, status and length is written
abbrev pub written_as : Reason → ℕ → ℕ → Result Answered ℕ
written_as reason status length = Ok (record { reason = reason; status = status; length = length })

abbrev pub outcome_of : Option ℕ → Reason → ℕ → Result Answered ℕ
outcome_of None reason length = written_as reason (status_of reason) length
outcome_of (Some k) reason length = Err k

-- what the server end says, given an output buffer of room bytes: the answer's reason, status and length, or the number of a refusal
unfoldable pub outcome : Request → Resource → ℕ → Result Answered ℕ
outcome q f room = outcome_of (refusal q f room) (decide q f) (length (bytes_of (answer q f)))

abbrev pub output_of : Option ℕ → List ℕ → List ℕ → List ℕ
output_of None text out = text ++ drop (length text) out
output_of (Some k) text out = out

-- what the output buffer then holds: "A refusal by the server writes nothing"; "output beyond a written answer .. stays"
unfoldable pub output : Request → Resource → List ℕ → List ℕ
output q f out = output_of (refusal q f (length out)) (bytes_of (answer q f)) out
