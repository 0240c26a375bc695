-- The concrete records, by computation.
use Rattle.std.specs.Prelude.{Bool, true, false}
use Rattle.std.proofs.Common.{Result, Ok}
use Prim.Native.Nat.{ℕ, zero, suc}
use mathlib.Core.Path.{◌≡◌, refl, sym, ◌∙◌, ap, subst}
use mathlib.Core.Bool.{true, false≢true}
use mathlib.Core.List.{[]}
use lib.ListN.{get_or}
use Rattle.rules_server.specs.Numerals.{print}
use Rattle.rules_tablet.specs.Runs.{member}
use Rattle.rules_tablet.specs.Copies.{runs_of, copy_rule, bad_opening, is_complete}
use Rattle.rules_tablet.specs.Requests.{range_text, request_text}
use Rattle.rules_tablet.specs.Readers.{fresh_reader}
use Rattle.rules_tablet.specs.Calls.{copy_ok, opened, request_refusal, request_call, complete_call}
use Rattle.rules_demands.specs.Demand3Sessions.{Calls, Sources, ours, foreign, Session, run_asks, run_calls}
use Rattle.rules_demands.specs.Demand3Cases.{tag, digits, fresh_for, calls as every_call, two_held, held_calls}
use Rattle.rules_demands.specs.AnchorSamples.{dots}
use Rattle.laws_exchange.proofs.demand_3.Cases.{computes, every_kind, runs-held}
use Rattle.copy.specs.States.{Opening, completeness}
use Rattle.copy_request.specs.Requested.{request_outcome}
use Rattle.rules_records.specs.Demand3Records.{Records, calls_of, session_of, session_after, RecordsStart, CopySized}
use Rattle.rules_records.specs.Demand3RecordCases.{placed_all, watched_all, CallsOnDigits, opened_digits, start_digits, EveryKindOfRecords, some_held, HeldRecords}
use Rattle.laws_records.proofs.Right.{demand_3_of_records}
use Rattle.laws_records.proofs.Opens.{opening_of_records}
use Rattle.laws_records.proofs.Exists.{records_exist, fresh-begun}
use Rattle.laws_records.proofs.Placed.{placed_always, SaysIn, watched_all_lem, watched_are, watched-after}

digits_opening : Opening tag 10 10 (Ok opened_digits)
unfolding bad_opening opened copy_rule
digits_opening = record { right = refl; state = refl; rule = refl }

-- the session that the records mean is the one of the case
pub digits_session : session_of start_digits [] ≡ fresh_for digits
digits_session = λ i. record { copy = digits_opening.state i; buffer = dots 10; reader = fresh-begun.is i; said = [] }

-- records for a list of calls, of whose session complete says so
pub on_digits : (h : Records) (cs : Calls) (last : Result Bool ℕ) (s : Session) → RecordsStart digits tag h → CopySized h.copy
    → Sources digits tag cs.answers → session_of h [] ≡ s → SaysIn last cs.answers (run_asks cs.asks s) → CallsOnDigits h cs last
on_digits h cs last s start sized given q says =
    let room = start.buffer_length ∙ sym start.of_length in
    let x = records_exist h cs start.rule room sized in
    let w = placed_all x.calls in
    let alike = placed_always x.calls h in
    let v = watched_all last w in
    let same : calls_of w ≡ cs = alike.are ∙ x.are in
    let are : calls_of v ≡ cs = watched_are last w ∙ same in
    let heard : SaysIn last cs.answers (run_asks cs.asks (session_of h [])) =
    subst (λ (y : Session). SaysIn last cs.answers (run_asks cs.asks y)) (sym q) says in
    let meet = watched_all_lem last w h start.rule room (alike.meet x.meet)
    (subst (λ (c : Calls). SaysIn last c.answers (run_asks c.asks (session_of h []))) (sym same) heard) in
    let sources = subst (λ (c : Calls). Sources digits tag c.answers) (sym x.are) given in
    let placed_sources = subst (λ (c : Calls). Sources digits tag c.answers) (sym are) given in
    record {
      calls = x.calls;
      are = x.are;
      meet = x.meet;
      sized = x.sized;
      sources = sources;
      kept = demand_3_of_records digits tag h x.calls sources start x.meet;
      placed_are = are;
      placed_meet = meet;
      placed_sources = placed_sources;
      placed_kept = demand_3_of_records digits tag h v placed_sources start meet;
      placed_leaves = watched-after last w h ∙ alike.leaves;
    }

-- the session behind them
pub on_digits-ends : (h : Records) (cs : Calls) (last : Result Bool ℕ) (s : Session) (x : CallsOnDigits h cs last) → session_of h [] ≡ s
    → session_after x.calls h ≡ run_calls cs s
on_digits-ends h cs last s x q =
    x.kept.session ∙ ap (λ (c : Calls). run_calls c (session_of h [])) x.are ∙ ap (run_calls cs) q

-- complete is said of no session of the case
every-says : SaysIn (Ok false) every_call.answers (run_asks every_call.asks (fresh_for digits))
unfolding computes
every-says = (refl, refl, (refl, refl, (refl, refl, (refl, refl, (refl, refl)))))

pub every-kind_of-records : EveryKindOfRecords
every-kind_of-records =
    let start = (opening_of_records digits tag (dots 10) (Ok opened_digits) digits_opening).starts opened_digits refl fresh_reader in
    let sized : CopySized opened_digits = record { tag = refl; runs = refl } in
    let k = every_kind in
    let given : Sources digits tag every_call.answers =
    (ours k.first.source, (foreign k.second, (ours k.third.source, (ours k.fourth.source, (ours k.fifth.source, tt))))) in
    let x = on_digits start_digits every_call (Ok false) (fresh_for digits) start sized given digits_session every-says in
    let ends = on_digits-ends start_digits every_call (Ok false) (fresh_for digits) x digits_session in
    record {
      opening = digits_opening;
      sized = sized;
      start = start;
      every = x;
      runs = ap (λ (s : Session). s.copy.runs) ends ∙ k.runs;
      buffer = ap (λ (s : Session). s.buffer) ends ∙ k.buffer;
    }

-- the held bytes are the file's
some_right : (p : ℕ) → member p (runs_of some_held.copy) ≡ true → get_or some_held.buffer p 0 ≡ get_or digits p 0
some_right zero m = refl
some_right (suc zero) m = refl
some_right (suc (suc zero)) m = refl
some_right (suc (suc (suc zero))) m = absurd (false≢true m)
some_right (suc (suc (suc (suc zero)))) m = absurd (false≢true m)
some_right (suc (suc (suc (suc (suc zero))))) m = absurd (false≢true m)
some_right (suc (suc (suc (suc (suc (suc zero)))))) m = refl
some_right (suc (suc (suc (suc (suc (suc (suc zero))))))) m = refl
some_right (suc (suc (suc (suc (suc (suc (suc (suc zero)))))))) m = absurd (false≢true m)
some_right (suc (suc (suc (suc (suc (suc (suc (suc (suc zero))))))))) m = absurd (false≢true m)
some_right (suc (suc (suc (suc (suc (suc (suc (suc (suc (suc p)))))))))) m = refl

some_starts_lem : RecordsStart digits tag some_held
unfolding copy_rule
some_starts_lem = record { rule = refl; under_tag = refl; of_length = refl; buffer_length = refl; right = some_right }

-- the session that the records mean is the one of the case
some_session : session_of some_held [] ≡ two_held
some_session = λ i. record { copy = two_held.copy; buffer = two_held.buffer; reader = fresh-begun.is i; said = [] }

-- complete is said of the last session of the case
some-says : SaysIn (Ok true) held_calls.answers (run_asks held_calls.asks two_held)
unfolding computes
some-says = (refl, refl, (refl, refl, (refl, refl, (refl, refl))))

-- calls on a copy with runs held
some-calls : CallsOnDigits some_held held_calls (Ok true)
some-calls =
    let k = runs-held in
    let given : Sources digits tag held_calls.answers =
    (foreign k.first, (ours k.second.source, (foreign k.third, (ours k.fourth.source, tt)))) in
    on_digits some_held held_calls (Ok true) two_held some_starts_lem (record { tag = refl; runs = refl }) given some_session some-says

some-ends : session_after some-calls.calls some_held ≡ run_calls held_calls two_held
some-ends = on_digits-ends some_held held_calls (Ok true) two_held some-calls some_session

pub held-records : HeldRecords
unfolding print is_complete range_text request_text copy_rule copy_ok request_refusal request_call complete_call completeness request_outcome
held-records = record {
  some_starts = some_starts_lem;
  incomplete = refl;
  asks = refl;
  held = some-calls;
  runs = ap (λ (s : Session). s.copy.runs) some-ends ∙ runs-held.runs;
  buffer = ap (λ (s : Session). s.buffer) some-ends ∙ runs-held.buffer;
  all_start = record { rule = refl; under_tag = refl; of_length = refl; buffer_length = refl; right = λ p m. refl };
  complete = refl;
  asks_nothing = refl;
  broken = refl;
  refused = refl;
  asks_refused = refl;
}
