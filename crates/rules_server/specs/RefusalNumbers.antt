-- The numbers of the refusals (document 01, "Refusals"; 9 of request 2026-01, 22 to 30 of request 2026-02), and what is said with a refusal, by its number.
use Rattle.std.specs.Prelude.{◌≡◌, ℕ, Option, None, Some, Result, Ok, Err}
use Rattle.rules_server.specs.declared.refusal.Refusal.{Refusal}
use Rattle.rules_server.specs.declared.refusal.Refusal.TheVariants.{Method, FileLength, FileTag, MediaType, Boundary, Delimiter, AnswerRoom, Time, Head}
use Rattle.rules_server.specs.declared.refusal.Refusal.TheVariants.{Status, Foreign, ContentRange, Multipart, ManyRuns}
use Rattle.rules_server.specs.declared.refusal.Refusal.TheVariants.{Differs, NothingMissing, Record, Room, Mark, Version, SavedTag, SavedLength, RunCount}
use Rattle.rules_server.specs.declared.refusal.Refusal.TheVariants.{RunOrder, RunEnd, CutShort, Trailing}
use Rattle.rules_server.specs.declared.refusal.NoRefusal.{NoRefusal}

abbrev pub refusal_number : Refusal → ℕ
refusal_number Method = 1
refusal_number FileLength = 2
refusal_number FileTag = 3
refusal_number MediaType = 4
refusal_number Boundary = 5
refusal_number Delimiter = 6
refusal_number AnswerRoom = 7
refusal_number Time = 9
refusal_number Head = 11
refusal_number Status = 12
refusal_number Foreign = 13
refusal_number ContentRange = 14
refusal_number Multipart = 15
refusal_number ManyRuns = 16
refusal_number Differs = 17
refusal_number NothingMissing = 18
refusal_number Record = 19
refusal_number Room = 20
refusal_number Mark = 22
refusal_number Version = 23
refusal_number SavedTag = 24
refusal_number SavedLength = 25
refusal_number RunCount = 26
refusal_number RunOrder = 27
refusal_number RunEnd = 28
refusal_number CutShort = 29
refusal_number Trailing = 30

-- what is said, with a refusal by its number
abbrev pub numbered : {A : Type 0} → Result A Refusal → Result A ℕ
numbered (Ok a) = Ok a
numbered (Err e) = Err (refusal_number e)

-- the number of a refusal, where there is one
abbrev pub refused_by : Option Refusal → Option ℕ
refused_by None = None
refused_by (Some e) = Some (refusal_number e)

-- the number of a refusal, 0 where there is none
abbrev pub number_or_zero : Option Refusal → ℕ
number_or_zero None = 0
number_or_zero (Some e) = refusal_number e

-- the refusal that a number names: the one of this number, or the number itself, where it is that of none
abbrev pub NumberRead : ℕ → Result Refusal NoRefusal → Type 0
NumberRead k (Ok e) = refusal_number e ≡ k
NumberRead k (Err z) = (z.0 ≡ k) × ((e : Refusal) → refusal_number e ≡ k → ⊥)
