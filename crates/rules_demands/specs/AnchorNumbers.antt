-- The status and the number of each reason (document 01, "Which status"), and the number of each refusal. The numbers for C stand in baxoodhiir once more,
-- beside those of the reports and the refusals.
use Rattle.std.specs.Prelude.{ℕ, List, [], ◌∷◌}
use Rattle.rules_server.specs.Reasons.{reason_row}
use Rattle.rules_server.specs.Status.{status_of}
use Rattle.rules_server.specs.declared.Reason.TheVariants.{Head, None, Long, Unit as OtherUnit, Malformed, Many, ChangedFile, Invalid, Unsatisfiable, Empty}
use Rattle.rules_server.specs.declared.Reason.TheVariants.{Partial}
use Rattle.rules_server.specs.RefusalNumbers.{refusal_number}
use Rattle.rules_server.specs.declared.refusal.Refusal.TheVariants.{Method, FileLength, FileTag, MediaType, Boundary, Delimiter, AnswerRoom, Time}
use Rattle.rules_server.specs.declared.refusal.Refusal.TheVariants.{Head as BadHead, Status, Foreign, ContentRange, Multipart, ManyRuns}
use Rattle.rules_server.specs.declared.refusal.Refusal.TheVariants.{Differs, NothingMissing, Record, Room, Mark, Version, SavedTag, SavedLength, RunCount}
use Rattle.rules_server.specs.declared.refusal.Refusal.TheVariants.{RunOrder, RunEnd, CutShort, Trailing}
use Rattle.rules_demands.specs.AnchorTables.{Entry, ◌is◌, Agree}

unfoldable pub statuses : List (Entry ℕ)
statuses =
    status_of Head is 200
    ∷ status_of None is 200
    ∷ status_of Long is 200
    ∷ status_of OtherUnit is 200
    ∷ status_of Malformed is 200
    ∷ status_of Many is 200
    ∷ status_of ChangedFile is 200
    ∷ status_of Invalid is 416
    ∷ status_of Unsatisfiable is 416
    ∷ status_of Empty is 200
    ∷ status_of Partial is 206
    ∷ []

-- the row of the table of statuses
unfoldable pub numbers : List (Entry ℕ)
numbers =
    (reason_row Head).number is 1
    ∷ (reason_row None).number is 2
    ∷ (reason_row Long).number is 3
    ∷ (reason_row OtherUnit).number is 4
    ∷ (reason_row Malformed).number is 5
    ∷ (reason_row Many).number is 6
    ∷ (reason_row ChangedFile).number is 7
    ∷ (reason_row Invalid).number is 8
    ∷ (reason_row Unsatisfiable).number is 9
    ∷ (reason_row Empty).number is 10
    ∷ (reason_row Partial).number is 11
    ∷ []

-- the rows of the table of refusals (README has it with what each says)
unfoldable pub refusals : List (Entry ℕ)
refusals =
    refusal_number Method is 1
    ∷ refusal_number FileLength is 2
    ∷ refusal_number FileTag is 3
    ∷ refusal_number MediaType is 4
    ∷ refusal_number Boundary is 5
    ∷ refusal_number Delimiter is 6
    ∷ refusal_number AnswerRoom is 7
    ∷ refusal_number Time is 9
    ∷ refusal_number BadHead is 11
    ∷ refusal_number Status is 12
    ∷ refusal_number Foreign is 13
    ∷ refusal_number ContentRange is 14
    ∷ refusal_number Multipart is 15
    ∷ refusal_number ManyRuns is 16
    ∷ refusal_number Differs is 17
    ∷ refusal_number NothingMissing is 18
    ∷ refusal_number Record is 19
    ∷ refusal_number Room is 20
    ∷ refusal_number Mark is 22
    ∷ refusal_number Version is 23
    ∷ refusal_number SavedTag is 24
    ∷ refusal_number SavedLength is 25
    ∷ refusal_number RunCount is 26
    ∷ refusal_number RunOrder is 27
    ∷ refusal_number RunEnd is 28
    ∷ refusal_number CutShort is 29
    ∷ refusal_number Trailing is 30
    ∷ []

pub record ReasonsAre : Type 0 where
  pub statuses : Agree statuses
  pub numbers : Agree numbers
  pub refusals : Agree refusals
