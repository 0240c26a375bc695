-- Concrete records: what opening returns for a file of ten bytes, every kind of call on it (the case `EveryKind` of demand 3), a copy's record with runs held
-- and calls that complete it (the case `RunsHeld`), one with the whole file, and one that breaks the rule. Each list of calls by value and in place.
use Rattle.std.specs.Prelude.{ℕ, ◌-◌, ◌≡◌, Bool, true, false, Result, Ok, Err, List, [], ◌∷◌, ◌++◌, length, replicate}
use Rattle.rules_server.specs.Limits.{max_tag}
use Rattle.rules_server.specs.Octets.{codes}
use Rattle.rules_server.specs.declared.Run.{Run}
use Rattle.rules_tablet.specs.Limits.{max_runs}
use Rattle.rules_tablet.specs.Runs.{run}
use Rattle.rules_tablet.specs.Copies.{runs_of, copy_rule}
use Rattle.rules_tablet.specs.Readers.{fresh_reader}
use Rattle.rules_tablet.specs.declared.Copy.{Copy}
use Rattle.rules_demands.specs.Demand3Sessions.{Calls, Sources}
use Rattle.rules_demands.specs.Demand3Cases.{tag, digits, calls as every_call, held_calls}
use Rattle.rules_demands.specs.AnchorSamples.{dots}
use Rattle.copy.specs.States.{Opening, completeness}
use Rattle.copy_request.specs.Requested.{request_outcome}
use Rattle.rules_records.specs.Demand3Records.{Records, Call, completes, on_copy, feeds, feeds_in_place, Answered, RecordCalls, answers_of, calls_of}
use Rattle.rules_records.specs.Demand3Records.{after_all, Meet, RecordsStart, RecordsKept, opened_records, CopySized, AnswersSized}

-- In place.

-- each call of feed by value as the same call in place, which leaves there what the one by value returns
abbrev pub placed : List Call → List Call
placed [] = []
placed (on_copy x ∷ xs) = on_copy x ∷ placed xs
placed (feeds l f bytes ∷ xs) = feeds_in_place l f.copy f.reader (record { taken = f.taken; report = f.report }) bytes ∷ placed xs
placed (feeds_in_place l c r p bytes ∷ xs) = feeds_in_place l c r p bytes ∷ placed xs

abbrev pub placed_answers : List Answered → List Answered
placed_answers [] = []
placed_answers (a ∷ rest) = record { begun = a.begun; calls = placed a.calls } ∷ placed_answers rest

abbrev pub placed_all : RecordCalls → RecordCalls
placed_all w = record { first = w.first; answers = placed_answers w.answers }

-- calls that meet the contracts meet them in place, are the same calls of demand 3, and leave the same records
pub record PlacedAlike (w : RecordCalls) (h : Records) : Type 0 where
  pub meet : Meet w h → Meet (placed_all w) h
  pub are : calls_of (placed_all w) ≡ calls_of w
  pub leaves : after_all (placed_all w) h ≡ after_all w h
  pub sized : AnswersSized w.answers → AnswersSized (placed_all w).answers

-- of any calls and records
abbrev pub PlacedAlways : Type 0
PlacedAlways = (w : RecordCalls) (h : Records) → PlacedAlike w h

-- Complete.

-- complete is asked behind the beginning of an answer and behind its last call, and says this
abbrev pub watched : Result Bool ℕ → Result Bool ℕ → Answered → Answered
watched before behind a = record { begun = a.begun; calls = on_copy (completes before) ∷ (a.calls ++ (on_copy (completes behind) ∷ [])) }

-- so of every answer: it says that something is missing each time, and `last` the last time
abbrev pub watched_answers : Result Bool ℕ → List Answered → List Answered
watched_answers last [] = []
watched_answers last (a ∷ []) = watched (Ok false) last a ∷ []
watched_answers last (a ∷ b ∷ rest) = watched (Ok false) (Ok false) a ∷ watched_answers last (b ∷ rest)

abbrev pub watched_all : Result Bool ℕ → RecordCalls → RecordCalls
watched_all last w = record { first = w.first; answers = watched_answers last w.answers }

-- Lists of calls on a copy of the ten digits.

-- records for these calls of demand 3: by value; and in place, with complete asked in each answer, which says that something is missing and, the last time,
-- `last`
pub record CallsOnDigits (h : Records) (cs : Calls) (last : Result Bool ℕ) : Type 0 where
  pub calls : RecordCalls
  pub are : calls_of calls ≡ cs
  pub meet : Meet calls h
  pub sized : AnswersSized calls.answers
  pub sources : Sources digits tag (answers_of calls.answers)
  pub kept : RecordsKept digits tag h calls sources
  pub placed_are : calls_of (watched_all last (placed_all calls)) ≡ cs
  pub placed_meet : Meet (watched_all last (placed_all calls)) h
  pub placed_sources : Sources digits tag (answers_of (watched_all last (placed_all calls)).answers)
  pub placed_kept : RecordsKept digits tag h (watched_all last (placed_all calls)) placed_sources
  pub placed_leaves : after_all (watched_all last (placed_all calls)) h ≡ after_all calls h

-- the record of a copy of the ten digits that has these runs
abbrev pub copy_with : List Run → Copy
copy_with rs = record {
  tag = tag ++ replicate (max_tag - length tag) 0;
  tag_len = length tag;
  length = length digits;
  runs = rs ++ replicate (max_runs - length rs) (run 0 0);
  count = length rs;
}

-- opened under the tag "k1", for a buffer of ten bytes
abbrev pub opened_digits : Copy
opened_digits = copy_with []

abbrev pub start_digits : Records
start_digits = opened_records opened_digits (dots 10) fresh_reader

pub record EveryKindOfRecords : Type 0 where
  pub opening : Opening tag 10 10 (Ok opened_digits)
  pub sized : CopySized opened_digits
  pub start : RecordsStart digits tag start_digits
  -- every kind of call
  pub every : CallsOnDigits start_digits every_call (Ok false)
  -- what the copy then holds
  pub runs : runs_of (after_all every.calls start_digits).copy ≡ run 0 4 ∷ run 8 8 ∷ []
  pub buffer : (after_all every.calls start_digits).buffer ≡ codes "01234...8."

-- a copy with runs held
abbrev pub some_held : Records
some_held = record { copy = copy_with (run 0 2 ∷ run 6 7 ∷ []); buffer = codes "012...67.."; reader = fresh_reader }

-- one with all of the file
abbrev pub all_held : Records
all_held = record { copy = copy_with (run 0 9 ∷ []); buffer = digits; reader = fresh_reader }

-- runs that touch
abbrev pub touching : Copy
touching = copy_with (run 0 4 ∷ run 5 9 ∷ [])

pub record HeldRecords : Type 0 where
  pub some_starts : RecordsStart digits tag some_held
  pub incomplete : completeness some_held.copy ≡ Ok false
  pub asks : request_outcome some_held.copy 50 ≡ Ok 38
  -- calls on it, the last of which completes it
  pub held : CallsOnDigits some_held held_calls (Ok true)
  pub runs : runs_of (after_all held.calls some_held).copy ≡ run 0 9 ∷ []
  pub buffer : (after_all held.calls some_held).buffer ≡ digits
  pub all_start : RecordsStart digits tag all_held
  pub complete : completeness all_held.copy ≡ Ok true
  pub asks_nothing : request_outcome all_held.copy 50 ≡ Err 18
  pub broken : copy_rule touching ≡ false
  pub refused : completeness touching ≡ Err 19
  pub asks_refused : request_outcome touching 50 ≡ Err 19
