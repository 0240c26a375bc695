-- The concrete case of demand 3 of records after loading, by computation.
use Rattle.std.specs.Prelude.{true, false, None}
use Rattle.std.proofs.Common.{Ok}
use mathlib.Core.Path.{◌≡◌, refl, sym, ◌∙◌, ap, subst}
use mathlib.Core.List.{List, [], ◌∷◌, ◌++◌}
use lib.ListN.{length, get_or}
use Rattle.rules_server.specs.Numbers.{in_bytes}
use Rattle.rules_tablet.specs.Runs.{run, member}
use Rattle.rules_tablet.specs.Copies.{copy_rule}
use Rattle.rules_tablet.specs.SavedCopies.{saved_under, save_refusal, save_call, read_units, loads, saved_read}
use Rattle.rules_tablet.specs.declared.Copy.{Copy}
use Rattle.rules_demands.specs.AnchorSamples.{dots}
use Rattle.rules_demands.specs.Demand3Sessions.{ours, Session, run_asks, run_calls}
use Rattle.rules_demands.specs.Demand3.{Start}
use Rattle.rules_demands.specs.Demand3Cases.{tag, digits, fresh_for}
use Rattle.rules_demands.specs.Demand3OvernightCase.{evening_calls, saved_digits, morning, morning_calls}
use Rattle.laws_exchange.proofs.demand_3.Cases.{computes, first_leaves}
use Rattle.laws_exchange.proofs.demand_3.OvernightCase.{overnight_case}
use Rattle.copy.specs.States.{state_of}
use Rattle.copy_bytes.specs.SavedFiles.{save_outcome, save_bytes, record_of, load_outcome}
use Rattle.rules_records.specs.Demand3Records.{Records, Call, on_copy, feeds, feeds_in_place, Answered, after_call, after_calls, with_reader, after_answers, after_all}
use Rattle.rules_records.specs.Demand3Records.{session_of, session_after, RecordsStart, CopySized, CallsSized, AnswersSized}
use Rattle.rules_records.specs.Demand3RecordCases.{CallsOnDigits, copy_with, opened_digits, start_digits}
use Rattle.rules_records.specs.SavedRecords.{RecordsNight, morning_digits, OvernightOfDigits}
use Rattle.laws_records.proofs.Starts.{records_start}
use Rattle.laws_records.proofs.Exists.{fresh-begun}
use Rattle.laws_records.proofs.Placed.{SaysIn}
use Rattle.laws_records.proofs.Cases.{digits_session, on_digits, on_digits-ends, every-kind_of-records}
use Rattle.laws_records.proofs.Saved.{record_back, loads_read}
use Rattle.laws_records.proofs.Nights.{demand_3_overnight_of_records}

-- Arrays keep their lengths.

-- of the calls of an answer
calls_sized : (xs : List Call) (h : Records) → CopySized h.copy → CallsSized xs → CopySized (after_calls xs h).copy
calls_sized [] h z s = z
calls_sized (on_copy x ∷ xs) h z s = calls_sized xs h z s.1
calls_sized (feeds l f bytes ∷ xs) h z s = calls_sized xs (after_call (feeds l f bytes) h) s.0.0 s.1
calls_sized (feeds_in_place l c r p bytes ∷ xs) h z s = calls_sized xs (after_call (feeds_in_place l c r p bytes) h) s.0.0 s.1

-- of all answers
answers_sized : (xs : List Answered) (h : Records) → CopySized h.copy → AnswersSized xs → CopySized (after_answers xs h).copy
answers_sized [] h z s = z
answers_sized (a ∷ xs) h z s =
    let h' = with_reader a.begun h in
    answers_sized xs (after_calls a.calls h') (calls_sized a.calls h' z s.1) s.2

-- The first calls.

-- complete is not said
evening-says : SaysIn (Ok false) evening_calls.answers (run_asks evening_calls.asks (fresh_for digits))
unfolding computes
evening-says = (refl, refl)

-- calls of the first session
first_calls : CallsOnDigits start_digits evening_calls (Ok false)
first_calls =
    on_digits start_digits evening_calls (Ok false) (fresh_for digits) every-kind_of-records.start every-kind_of-records.sized
    (ours overnight_case.first.source, tt) digits_session evening-says

-- the records behind them
abbrev left : Records
left = after_all first_calls.calls start_digits

-- the session behind them
first_ends : session_after first_calls.calls start_digits ≡ run_calls evening_calls (fresh_for digits)
first_ends = on_digits-ends start_digits evening_calls (Ok false) (fresh_for digits) first_calls digits_session

-- their copy
left_copy : left.copy ≡ copy_with (run 0 2 ∷ [])
left_copy =
    let state : state_of left.copy ≡ morning.copy = ap (λ (s : Session). s.copy) first_ends ∙ ap (λ (s : Session). s.copy) first_leaves in
    let sized = answers_sized first_calls.calls.answers start_digits every-kind_of-records.sized first_calls.sized in
    sym (record_back left.copy sized first_calls.kept.again.rule) ∙ ap record_of state

-- The night.

-- the copy is saved in 36 bytes
copy_outcome : save_outcome (copy_with (run 0 2 ∷ [])) 40 ≡ Ok 36
unfolding computes copy_rule in_bytes saved_under save_refusal save_outcome
copy_outcome = refl

-- at the front of the buffer
copy_bytes : save_bytes (copy_with (run 0 2 ∷ [])) (dots 40) ≡ saved_digits ++ dots 4
unfolding computes copy_rule in_bytes saved_under save_refusal save_call save_bytes
copy_bytes = refl

-- it is loaded in place of a fresh copy
case_night : RecordsNight left morning_digits
case_night = record {
  out = dots 40;
  said = Ok 36;
  written = saved_digits ++ dots 4;
  meets = (
    sym (ap (λ (c : Copy). save_outcome c 40) left_copy ∙ copy_outcome),
    sym (ap (λ (c : Copy). save_bytes c (dots 40)) left_copy ∙ copy_bytes),
  );
  size = 36;
  saved = refl;
  given = opened_digits;
  result = record { copy = morning_digits.copy; refusal = None };
  loads = sym (loads_read opened_digits saved_digits (loads morning.copy) overnight_case.loaded);
  copy = refl;
  buffer_length = overnight_case.night.buffer_length ∙ ap (λ (s : Session). length s.buffer) (sym first_ends);
  as_saved = λ p h.
      overnight_case.night.as_saved p (ap (λ (s : Session). member p s.copy.runs) (sym first_ends) ∙ h)
      ∙ ap (λ (s : Session). get_or s.buffer p 0) (sym first_ends);
}

-- The second calls.

-- the session that the records mean is the one of the case
morning_session : session_of morning_digits [] ≡ morning
morning_session = λ i. record { copy = morning.copy; buffer = morning.buffer; reader = fresh-begun.is i; said = [] }

-- they are a start
morning_starts : RecordsStart digits tag morning_digits
unfolding copy_rule
morning_starts = records_start digits tag morning_digits [] refl (subst (Start digits tag) (sym morning_session) overnight_case.demand.morning.starts)

-- complete is said at their end
morning-says : SaysIn (Ok true) morning_calls.answers (run_asks morning_calls.asks morning)
unfolding computes
morning-says = (refl, refl)

-- calls of the second session
second_calls : CallsOnDigits morning_digits morning_calls (Ok true)
second_calls =
    on_digits morning_digits morning_calls (Ok true) morning morning_starts (record { tag = refl; runs = refl })
    (ours overnight_case.second.source, tt) morning_session morning-says

-- the session behind them
second_ends : session_after second_calls.calls morning_digits ≡ run_calls morning_calls morning
second_ends = on_digits-ends morning_digits morning_calls (Ok true) morning second_calls morning_session

-- the case
pub overnight_of_digits : OvernightOfDigits
unfolding computes copy_rule in_bytes saved_under save_refusal save_call save_outcome save_bytes read_units saved_read load_outcome case_night
overnight_of_digits = record {
  evening = first_calls;
  runs = ap (λ (s : Session). s.copy.runs) first_ends ∙ overnight_case.held;
  buffer = ap (λ (s : Session). s.buffer) first_ends ∙ overnight_case.buffer;
  night = case_night;
  into = refl;
  size = refl;
  written = refl;
  given = refl;
  morning = second_calls;
  demand = demand_3_overnight_of_records digits tag start_digits first_calls.calls first_calls.sources morning_digits case_night second_calls.calls
      second_calls.sources every-kind_of-records.start first_calls.meet second_calls.meet;
  all_runs = ap (λ (s : Session). s.copy.runs) second_ends ∙ overnight_case.runs;
  whole = ap (λ (s : Session). s.buffer) second_ends ∙ overnight_case.whole;
  savings_meet = record { first = ((refl, refl), tt); answers = (fresh-begun, ((sym copy_outcome, sym copy_bytes), tt), tt) };
  broken = refl;
  trailing = refl;
  short = refl;
}
