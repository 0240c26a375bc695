-- One call after the other: what the records mean is the session of demand 3.
use Prim.Native.Nat.{ℕ}
use mathlib.Core.Path.{◌≡◌, refl, sym, ◌∙◌, ap}
use mathlib.Core.Bool.{true}
use mathlib.Core.List.{List, [], ◌∷◌}
use Rattle.std.specs.Prelude.{Option, None, Some, Result}
use lib.ListN.{length}
use borrow.Author.Tests.{eq-eqb}
use Rattle.rules_tablet.specs.Copies.{copy_rule}
use Rattle.rules_tablet.specs.Readers.{parser_in}
use Rattle.rules_tablet.specs.Calls.{State, feed_call, request_refusal}
use Rattle.rules_tablet.specs.declared.Copy.{Copy}
use Rattle.rules_tablet.specs.declared.Reader.{Reader}
use Rattle.rules_demands.specs.Demand3Sessions.{Said, fed, asked, Session, after_feed, begun, run_events, run_answers, run_asks, run_calls}
use Rattle.laws_reader.proofs.rules_kept.Demand1.{fair_always}
use Rattle.copy.specs.States.{state_of}
use Rattle.copy_request.specs.Requested.{said as outcome, request_outcome}
use Rattle.reader.specs.Begun.{Begun}
use Rattle.reader.specs.Calls.{feed_rule, FeedReady, FedIs}
use Rattle.reader.specs.declared.fed.Fed.{Fed}
use Rattle.rules_records.specs.Demand3Records.{Records, CopyCall, requests, completes, saves, Call, on_copy, feeds, feeds_in_place, Answered, RecordCalls}
use Rattle.rules_records.specs.Demand3Records.{in_place_call, after_call, after_calls, with_reader, after_answers, FirstMeet, CallsMeet, AnswersMeet, Meet}
use Rattle.rules_records.specs.Demand3Records.{session_of, refusal_in, asks_of, events_of, answers_of, calls_of, said_first, said_by, said_last, session_after}

-- both records meet their rules, and the buffer is of the copy's length
abbrev pub Ready : Records → Type 0
Ready h = FeedReady h.copy h.reader h.buffer

-- then feed does not reject them
pub ready_rule : (c : Copy) (r : Reader) (buffer : List ℕ) → FeedReady c r buffer → feed_rule c r buffer ≡ true
unfolding feed_rule
ready_rule c r buffer k = rw (k.copy, eq-eqb (length buffer) c.length k.room) k.reader

-- feed: the session behind it
pub fed_session : (h : Records) (l : List ℕ) (f : Fed) (bytes : List ℕ) (said : List Said) → Ready h → FedIs h.copy h.reader h.buffer l f bytes
    → session_of (record { copy = f.copy; buffer = bytes; reader = f.reader }) (fed f.taken f.report ∷ said)
    ≡ after_feed (session_of h said) (feed_call (state_of h.copy) (parser_in h.reader) h.buffer l)
fed_session h l f bytes said k m =
    let x = m.fed (ready_rule h.copy h.reader h.buffer k) in
    λ i. record { copy = x.copy i; buffer = x.stored i; reader = x.reader i; said = fed (x.taken i) (x.report i) ∷ said }

-- and the records may be fed again
pub fed_ready : (h : Records) (l : List ℕ) (f : Fed) (bytes : List ℕ) → Ready h → FedIs h.copy h.reader h.buffer l f bytes
    → FeedReady f.copy f.reader bytes
fed_ready h l f bytes k m =
    let x = m.fed (ready_rule h.copy h.reader h.buffer k) in
    let fair = fair_always (state_of h.copy) (parser_in h.reader) h.buffer l in
    record {
      copy = x.copy_rule;
      room = ap length x.stored ∙ fair.room ∙ k.room ∙ sym fair.size ∙ sym (ap (λ (s : State). s.length) x.copy);
      reader = x.reader_rule;
    }

-- request: the refusal that it returns
outcome-refusal : (o : Option ℕ) (text : List ℕ) → refusal_in (outcome o text) ≡ o
outcome-refusal None text = refl
outcome-refusal (Some k) text = refl

pub asked_refusal : (c : Copy) (room : ℕ) (r : Result ℕ ℕ) → copy_rule c ≡ true → r ≡ request_outcome c room → refusal_in r ≡ request_refusal (state_of c) room
unfolding request_outcome
asked_refusal c room r e m = ap refusal_in m ∙ rw e (outcome-refusal (request_refusal (state_of c) room) _)

-- the calls of an answer
pub calls_session : (xs : List Call) (h : Records) (said : List Said) → Ready h → CallsMeet xs h
    → session_of (after_calls xs h) (said_by xs said) ≡ run_events (events_of xs) (session_of h said)
calls_session [] h said k m = refl
calls_session (on_copy (requests out r written) ∷ xs) h said k m =
    let e = asked_refusal h.copy (length out) r k.copy m.0.0 in
    calls_session xs h (asked (refusal_in r) ∷ said) k m.1 ∙ ap (λ (o : Option ℕ). run_events (events_of xs) (session_of h (asked o ∷ said))) e
calls_session (on_copy (completes r) ∷ xs) h said k m = calls_session xs h said k m.1
calls_session (on_copy (saves out r written) ∷ xs) h said k m = calls_session xs h said k m.1
calls_session (feeds l f bytes ∷ xs) h said k m =
    calls_session xs (after_call (feeds l f bytes) h) (fed f.taken f.report ∷ said) (fed_ready h l f bytes k m.0) m.1
    ∙ ap (run_events (events_of xs)) (fed_session h l f bytes said k m.0)
calls_session (feeds_in_place l c r p bytes ∷ xs) h said k m =
    calls_session xs (after_call (feeds_in_place l c r p bytes) h) (fed p.taken p.report ∷ said) (fed_ready h l (in_place_call c r p) bytes k m.0) m.1
    ∙ ap (run_events (events_of xs)) (fed_session h l (in_place_call c r p) bytes said k m.0)

pub calls_ready : (xs : List Call) (h : Records) → Ready h → CallsMeet xs h → Ready (after_calls xs h)
calls_ready [] h k m = k
calls_ready (on_copy (requests out r written) ∷ xs) h k m = calls_ready xs h k m.1
calls_ready (on_copy (completes r) ∷ xs) h k m = calls_ready xs h k m.1
calls_ready (on_copy (saves out r written) ∷ xs) h k m = calls_ready xs h k m.1
calls_ready (feeds l f bytes ∷ xs) h k m = calls_ready xs (after_call (feeds l f bytes) h) (fed_ready h l f bytes k m.0) m.1
calls_ready (feeds_in_place l c r p bytes ∷ xs) h k m =
    calls_ready xs (after_call (feeds_in_place l c r p bytes) h) (fed_ready h l (in_place_call c r p) bytes k m.0) m.1

-- a beginning
pub begun_session : (h : Records) (r : Reader) (said : List Said) (s : Session) → Begun r → session_of h said ≡ s → session_of (with_reader r h) [] ≡ begun s
begun_session h r said s b e =
    let u : session_of (with_reader r h) [] ≡ begun (session_of h said) =
    λ i. record { copy = state_of h.copy; buffer = h.buffer; reader = b.is i; said = [] } in
    u ∙ ap begun e

pub begun_ready : (h : Records) (r : Reader) → copy_rule h.copy ≡ true → length h.buffer ≡ h.copy.length → Begun r → Ready (with_reader r h)
begun_ready h r e n b = record { copy = e; room = n; reader = b.rule h.copy }

-- one answer
pub answer_session : (h : Records) (a : Answered) (said : List Said) (s : Session) → copy_rule h.copy ≡ true → length h.buffer ≡ h.copy.length
    → Begun a.begun → CallsMeet a.calls (with_reader a.begun h) → session_of h said ≡ s
    → session_of (after_calls a.calls (with_reader a.begun h)) (said_by a.calls []) ≡ run_events (events_of a.calls) (begun s)
answer_session h a said s e n b m q =
    calls_session a.calls (with_reader a.begun h) [] (begun_ready h a.begun e n b) m
    ∙ ap (run_events (events_of a.calls)) (begun_session h a.begun said s b q)

-- all answers
pub answers_session : (xs : List Answered) (h : Records) (said : List Said) (s : Session) → copy_rule h.copy ≡ true → length h.buffer ≡ h.copy.length
    → AnswersMeet xs h → session_of h said ≡ s → session_of (after_answers xs h) (said_last xs said) ≡ run_answers (answers_of xs) s
answers_session [] h said s e n m q = q
answers_session (a ∷ xs) h said s e n m q =
    let k = calls_ready a.calls (with_reader a.begun h) (begun_ready h a.begun e n m.0) m.1 in
    answers_session xs (after_calls a.calls (with_reader a.begun h)) (said_by a.calls []) (run_events (events_of a.calls) (begun s))
    k.copy k.room m.2 (answer_session h a said s e n m.0 m.1 q)

-- the calls before the first beginning
pub first_session : (xs : List CopyCall) (h : Records) (said : List Said) → copy_rule h.copy ≡ true → FirstMeet xs h.copy
    → session_of h (said_first xs said) ≡ run_asks (asks_of xs) (session_of h said)
first_session [] h said e m = refl
first_session (requests out r written ∷ xs) h said e m =
    first_session xs h (asked (refusal_in r) ∷ said) e m.1
    ∙ ap (λ (o : Option ℕ). run_asks (asks_of xs) (session_of h (asked o ∷ said))) (asked_refusal h.copy (length out) r e m.0.0)
first_session (completes r ∷ xs) h said e m = first_session xs h said e m.1
first_session (saves out r written ∷ xs) h said e m = first_session xs h said e m.1

-- the whole list
pub all_session : (w : RecordCalls) (h : Records) → copy_rule h.copy ≡ true → length h.buffer ≡ h.copy.length → Meet w h
    → session_after w h ≡ run_calls (calls_of w) (session_of h [])
all_session w h e n m =
    answers_session w.answers h (said_first w.first []) (run_asks (asks_of w.first) (session_of h [])) e n m.answers
    (first_session w.first h [] e m.first)
