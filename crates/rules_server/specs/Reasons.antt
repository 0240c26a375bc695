-- The reasons of document 01's table of statuses, one row each: the status, the number for C (as include/baxoodhiir.h has it) and what the answer carries.
use Rattle.std.specs.Prelude.{ℕ, Bool, true, false}
use Rattle.rules_server.specs.declared.Reason.{Reason}
use Rattle.rules_server.specs.declared.Reason.TheVariants.{Head, None, Long, Unit as OtherUnit, Malformed, Many, ChangedFile, Invalid, Unsatisfiable}
use Rattle.rules_server.specs.declared.Reason.TheVariants.{Empty, Partial}

-- what an answer carries: the head of the whole file alone, the whole file, the file's length alone (416), or the parts asked for
pub data Carried : Type 0 where
  no_body : Carried
  whole_file : Carried
  length_only : Carried
  asked_parts : Carried

abbrev pub is_no_body : Carried → Bool
is_no_body no_body = true
is_no_body whole_file = false
is_no_body length_only = false
is_no_body asked_parts = false

abbrev pub is_asked_parts : Carried → Bool
is_asked_parts no_body = false
is_asked_parts whole_file = false
is_asked_parts length_only = false
is_asked_parts asked_parts = true

-- a row of the table
pub record ReasonRow : Type 0 where
  pub status : ℕ
  pub number : ℕ
  pub carries : Carried

-- the table
abbrev pub reason_row : Reason → ReasonRow
reason_row Head = record { status = 200; number = 1; carries = no_body }
reason_row None = record { status = 200; number = 2; carries = whole_file }
reason_row Long = record { status = 200; number = 3; carries = whole_file }
reason_row OtherUnit = record { status = 200; number = 4; carries = whole_file }
reason_row Malformed = record { status = 200; number = 5; carries = whole_file }
reason_row Many = record { status = 200; number = 6; carries = whole_file }
reason_row ChangedFile = record { status = 200; number = 7; carries = whole_file }
reason_row Invalid = record { status = 416; number = 8; carries = length_only }
reason_row Unsatisfiable = record { status = 416; number = 9; carries = length_only }
reason_row Empty = record { status = 200; number = 10; carries = whole_file }
reason_row Partial = record { status = 206; number = 11; carries = asked_parts }
