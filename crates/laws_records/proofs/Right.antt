-- Demand 3 of records: what each call returned, and the whole statement.
use Prim.Native.Nat.{ℕ, ◌-◌, ◌≤◌}
use native.Mathlib.Omega.{arith}
use mathlib.Core.Path.{◌≡◌, refl, sym, ◌∙◌, ap, subst}
use mathlib.Core.Bool.{Bool, true, false, cond, ◌&&◌, true≢false}
use mathlib.Core.List.{List, [], ◌∷◌, ◌++◌, append_assoc, append-nil}
use Rattle.std.specs.Prelude.{Option, None, Some, Result, Err}
use lib.Dec.{leb, ltb}
use lib.ListN.{length}
use borrow.Author.Tests.{eq-eqb}
use Rattle.rules_server.specs.Limits.{max_tag, max_boundary}
use Rattle.rules_tablet.specs.Limits.{max_runs, max_line}
use Rattle.rules_tablet.specs.Copies.{copy_rule}
use Rattle.rules_tablet.specs.Readers.{parser_in}
use Rattle.rules_tablet.specs.Calls.{State, copy_ok, reader_ok, feedable, feed_call}
use Rattle.rules_tablet.specs.SavedCopies.{saved_bytes, save_refusal}
use Rattle.rules_tablet.specs.declared.Copy.{Copy}
use Rattle.rules_tablet.specs.declared.Report.TheVariants.{Refused as Reported}
use Rattle.rules_demands.specs.Demand3Arrivals.{Set, arrive}
use Rattle.rules_demands.specs.Demand3Sessions.{Event, piece, ask, delivered, Source, Sources, cells_of, Said, fed, asked, Session, begun, run_events}
use Rattle.rules_demands.specs.Demand3Sessions.{run_asks, after_feed, after_ask}
use Rattle.rules_demands.specs.Demand3.{Start, EachSaid, Not19, Told, ToldAll, Kept, TwoAnswers, held_at, held_after}
use Rattle.rules_demands.specs.Demand3Corollary.{NeverMixed}
use Rattle.laws_reader.proofs.rules_kept.Tests.{and_right}
use Rattle.laws_reader.proofs.rules_kept.Demand1.{fair_always, asking_always}
use Rattle.laws_exchange.proofs.demand_3.Demand3.{demand_3}
use Rattle.laws_exchange.proofs.demand_3.Corollary.{never_mixed}
use Rattle.copy.specs.States.{state_of}
use Rattle.copy.proofs.Laws.{rule_ok}
use Rattle.copy_request.specs.Requested.{request_outcome, request_bytes}
use Rattle.copy_bytes.specs.SavedFiles.{saved_says, save_outcome, save_bytes}
use Rattle.reader.specs.Rules.{reader_rule}
use Rattle.reader.specs.Calls.{FedIs}
use Rattle.reader.specs.declared.fed.Fed.{Fed}
use Rattle.rules_records.specs.Demand3Records.{Records, CopyCall, requests, completes, saves, Call, on_copy, feeds, feeds_in_place, Answered, in_place_call}
use Rattle.rules_records.specs.Demand3Records.{after_call, after_calls, with_reader, after_answers, after_all, CopyCallMeets, FirstMeet, CallsMeet}
use Rattle.rules_records.specs.Demand3Records.{AnswersMeet, session_of, refusal_in, asks_of, events_of, answers_of, calls_of, said_first, said_by}
use Rattle.rules_records.specs.Demand3Records.{RecordsStart, RequestRight, SaveRight, CopyCallRight, FirstRight, Between, CallsRight}
use Rattle.rules_records.specs.Demand3Records.{AnswersRight, Demand3OfRecords}
use Rattle.laws_records.proofs.Steps.{Ready, ready_rule, fed_session, fed_ready, asked_refusal, calls_ready, begun_session, begun_ready}
use Rattle.laws_records.proofs.Steps.{answer_session, first_session, all_session}
use Rattle.laws_records.proofs.Starts.{start_of, records_start, start_along, run-append, complete_right}

-- a request never says 19
never_asked : (c : Copy) (out : List ℕ) (r : Result ℕ ℕ) → copy_rule c ≡ true → r ≡ request_outcome c (length out) → refusal_in r ≡ Some 19 → ⊥
never_asked c out r e m y = true≢false (sym (rule_ok c e) ∙ (asking_always (state_of c) out).broken.0 (sym (asked_refusal c (length out) r e m) ∙ y))

asked_never : (c : Copy) (out : List ℕ) (r : Result ℕ ℕ) → copy_rule c ≡ true → r ≡ request_outcome c (length out) → r ≡ Err 19 → ⊥
asked_never c out r e m y = never_asked c out r e m (ap refusal_in y)

request_right : (h : Records) (out : List ℕ) (r : Result ℕ ℕ) (written : List ℕ) → copy_rule h.copy ≡ true → CopyCallMeets h.copy (requests out r written)
    → RequestRight h out r written
unfolding request_bytes
request_right h out r written e m =
    record { says = asked_refusal h.copy (length out) r e m.0; writes = m.1 ∙ rw e refl; never = asked_never h.copy out r e m.0 }

-- nor does save
saved_never : (c : State) (room : ℕ) (text : List ℕ) → copy_ok c ≡ true → saved_says (save_refusal c room) text ≡ Err 19 → ⊥
unfolding save_refusal
saved_never c room text e = rw e (go (ltb room (length (saved_bytes c))))
  where
    go : (b : Bool) → saved_says (cond b (Some 20) None) text ≡ Err 19 → ⊥
    go true y = let z : ◌≡◌ {A = ℕ} 20 19 = cc in absurd (omega arith)
    go false y = let z : ◌≡◌ {A = ℕ} 0 1 = cc in absurd (omega arith)

-- what save says of a record that meets its rule
save_right : (h : Records) (out : List ℕ) (r : Result ℕ ℕ) (written : List ℕ) → copy_rule h.copy ≡ true → CopyCallMeets h.copy (saves out r written)
    → SaveRight h out r written
unfolding save_outcome save_bytes
save_right h out r written e m =
    let c = state_of h.copy in
    let says : r ≡ saved_says (save_refusal c (length out)) (saved_bytes c) = m.0 ∙ rw e refl in
    record { says = says; writes = m.1 ∙ rw e refl; never = λ y. saved_never c (length out) (saved_bytes c) (rule_ok h.copy e) (sym says ∙ y) }

copy_call_right : (file tag : List ℕ) (h : Records) (x : CopyCall) → RecordsStart file tag h → CopyCallMeets h.copy x → CopyCallRight file h x
copy_call_right file tag h (requests out r written) s m = request_right h out r written s.rule m
copy_call_right file tag h (completes r) s m = complete_right file tag h r s m
copy_call_right file tag h (saves out r written) s m = save_right h out r written s.rule m

first_right : (file tag : List ℕ) (xs : List CopyCall) (h : Records) → RecordsStart file tag h → FirstMeet xs h.copy → FirstRight file xs h
first_right file tag [] h s m = tt
first_right file tag (x ∷ xs) h s m = (copy_call_right file tag h x s m.0, first_right file tag xs h s m.1)

first_never : (xs : List CopyCall) (c : Copy) (said : List Said) → copy_rule c ≡ true → FirstMeet xs c → EachSaid Not19 said
    → EachSaid Not19 (said_first xs said)
first_never [] c said e m t = t
first_never (requests out r written ∷ xs) c said e m t = first_never xs c (asked (refusal_in r) ∷ said) e m.1 (never_asked c out r e m.0.0, t)
first_never (completes r ∷ xs) c said e m t = first_never xs c said e m.1 t
first_never (saves out r written ∷ xs) c said e m t = first_never xs c said e m.1 t

-- nor does feed
pub ready_able : (h : Records) → Ready h → feedable (state_of h.copy) (parser_in h.reader) h.buffer ≡ true
unfolding feedable reader_rule
ready_able h k =
    let r = h.reader in
    rw (rule_ok h.copy k.copy, eq-eqb (length h.buffer) h.copy.length k.room)
    (and_right (leb r.line_len max_line && leb r.tag_len max_tag && leb r.boundary_len max_boundary) (reader_ok (state_of h.copy) (parser_in r))
    k.reader)

fed_never : (h : Records) (l : List ℕ) (f : Fed) (bytes : List ℕ) → Ready h → FedIs h.copy h.reader h.buffer l f bytes → f.report ≡ Reported 19 → ⊥
fed_never h l f bytes k m y =
    let x = m.fed (ready_rule h.copy h.reader h.buffer k) in
    let fair = fair_always (state_of h.copy) (parser_in h.reader) h.buffer l in
    true≢false (sym (ready_able h k) ∙ fair.refused.0 (sym x.report ∙ y))

-- the calls of an answer, behind those that were done
module _ (file tag : List ℕ) (s : Session) (start : Start file tag s) where
  between : (h : Records) (said : List Said) (done rest : List Event) → Ready h → session_of h said ≡ run_events done (begun s)
      → Source file tag (delivered (done ++ rest)) → Between file tag h
  between h said done rest k q o = record {
    start = records_start file tag h said k.copy (subst (Start file tag) (sym q) (start_along file tag s done rest start o));
    reader = k.reader;
  }

  -- one event more is done
  more : (done : List Event) (e : Event) (rest : List Event) → Source file tag (delivered (done ++ (e ∷ rest)))
      → Source file tag (delivered ((done ++ (e ∷ [])) ++ rest))
  more done e rest o = subst (λ (x : List Event). Source file tag (delivered x)) (sym (append_assoc done (e ∷ []) rest)) o

  pub calls_right : (xs : List Call) (h : Records) (said : List Said) (done : List Event) → Ready h → CallsMeet xs h
      → session_of h said ≡ run_events done (begun s) → Source file tag (delivered (done ++ events_of xs)) → CallsRight file tag xs h
  calls_right [] h said done k m q o = between h said done [] k q o
  calls_right (on_copy (requests out r written) ∷ xs) h said done k m q o =
      let b = between h said done (ask out ∷ events_of xs) k q o in
      let e = asked_refusal h.copy (length out) r k.copy m.0.0 in
      let q' : session_of h (asked (refusal_in r) ∷ said) ≡ run_events (done ++ (ask out ∷ [])) (begun s) =
      ap (λ (y : Option ℕ). session_of h (asked y ∷ said)) e
      ∙ ap (λ (y : Session). after_ask y out) q ∙ sym (run-append done (ask out ∷ []) (begun s)) in (
        b,
        request_right h out r written k.copy m.0,
        calls_right xs h (asked (refusal_in r) ∷ said) (done ++ (ask out ∷ [])) k m.1 q' (more done (ask out) (events_of xs) o),
      )
  calls_right (on_copy (completes r) ∷ xs) h said done k m q o =
      let b = between h said done (events_of xs) k q o in
      (b, complete_right file tag h r b.start m.0, calls_right xs h said done k m.1 q o)
  calls_right (on_copy (saves out r written) ∷ xs) h said done k m q o =
      (between h said done (events_of xs) k q o, save_right h out r written k.copy m.0, calls_right xs h said done k m.1 q o)
  calls_right (feeds l f bytes ∷ xs) h said done k m q o =
      let b = between h said done (piece l ∷ events_of xs) k q o in
      let q' : session_of (after_call (feeds l f bytes) h) (fed f.taken f.report ∷ said) ≡ run_events (done ++ (piece l ∷ [])) (begun s) =
      fed_session h l f bytes said k m.0
      ∙ ap (λ (y : Session). after_feed y (feed_call y.copy y.reader y.buffer l)) q ∙ sym (run-append done (piece l ∷ []) (begun s)) in (
        b,
        fed_never h l f bytes k m.0,
        calls_right xs (after_call (feeds l f bytes) h) (fed f.taken f.report ∷ said) (done ++ (piece l ∷ [])) (fed_ready h l f bytes k m.0) m.1 q'
            (more done (piece l) (events_of xs) o),
      )
  calls_right (feeds_in_place l c r p bytes ∷ xs) h said done k m q o =
      let f = in_place_call c r p in
      let b = between h said done (piece l ∷ events_of xs) k q o in
      let q' : session_of (after_call (feeds_in_place l c r p bytes) h) (fed p.taken p.report ∷ said) ≡ run_events (done ++ (piece l ∷ [])) (begun s) =
      fed_session h l f bytes said k m.0
      ∙ ap (λ (y : Session). after_feed y (feed_call y.copy y.reader y.buffer l)) q ∙ sym (run-append done (piece l ∷ []) (begun s)) in (
        b,
        fed_never h l f bytes k m.0,
        calls_right xs (after_call (feeds_in_place l c r p bytes) h) (fed p.taken p.report ∷ said) (done ++ (piece l ∷ []))
            (fed_ready h l f bytes k m.0) m.1 q' (more done (piece l) (events_of xs) o),
      )

-- every answer
answers_right : (file tag : List ℕ) (xs : List Answered) (ss : Sources file tag (answers_of xs)) (set : Set) (h : Records) (said : List Said) (s : Session)
    → copy_rule h.copy ≡ true → length h.buffer ≡ h.copy.length → AnswersMeet xs h → session_of h said ≡ s → Start file tag s
    → ToldAll file tag (answers_of xs) ss set s → AnswersRight file tag xs ss set h
answers_right file tag [] ss set h said s e n m q x t = tt
answers_right file tag (a ∷ xs) ss set h said s e n m q x t =
    let es = events_of a.calls in
    let k = begun_ready h a.begun e n m.0 in
    let k' = calls_ready a.calls (with_reader a.begun h) k m.1 in
    let q' = answer_session h a said s e n m.0 m.1 q in
    let x' = start_along file tag s es [] x (subst (λ (y : List Event). Source file tag (delivered y)) (sym (append-nil es)) ss.0) in (
      calls_right file tag s x a.calls (with_reader a.begun h) [] [] k m.1 (begun_session h a.begun said s m.0 q) ss.0,
      subst (Told file tag (delivered es) ss.0 set) (sym (ap (λ (y : Session). y.said) q')) t.0,
      answers_right file tag xs ss.1 (arrive max_runs (length file) (cells_of file tag (delivered es) ss.0) set)
          (after_calls a.calls (with_reader a.begun h)) (said_by a.calls []) (run_events es (begun s)) k'.copy k'.room m.2 q' x' t.1,
    )

-- the copy's record meets its rule behind all of them
answers_rule : (xs : List Answered) (h : Records) → copy_rule h.copy ≡ true → length h.buffer ≡ h.copy.length → AnswersMeet xs h
    → copy_rule (after_answers xs h).copy ≡ true
answers_rule [] h e n m = e
answers_rule (a ∷ xs) h e n m =
    let k = calls_ready a.calls (with_reader a.begun h) (begun_ready h a.begun e n m.0) m.1 in
    answers_rule xs (after_calls a.calls (with_reader a.begun h)) k.copy k.room m.2

pub demand_3_of_records : Demand3OfRecords
demand_3_of_records file tag h w ss x m =
    let s = session_of h [] in
    let start = start_of file tag h [] x in
    let room : length h.buffer ≡ h.copy.length = x.buffer_length ∙ sym x.of_length in
    let q = all_session w h x.rule room m in
    let first = first_session w.first h [] x.rule m.first in
    let d = demand_3 file tag s (calls_of w) ss start in
    let set = held_after file tag (answers_of w.answers) ss (held_at s) in
    let asks = demand_3 file tag s (record { asks = asks_of w.first; answers = [] }) tt start in
    let kept = subst (Kept file tag s set) (sym q) d.kept in
    record {
      session = q;
      kept = kept;
      mixed = subst (NeverMixed file tag) (sym q) (never_mixed file tag s (calls_of w) ss start);
      two = λ few. subst (TwoAnswers file tag) (sym q) (d.two (subst (λ (y : Session). length y.copy.runs ≤ max_runs - 1) q few));
      asks_never = first_never w.first h.copy [] x.rule m.first tt;
      first = first_right file tag w.first h x m.first;
      answers = answers_right file tag w.answers ss (held_at s) h (said_first w.first []) (run_asks (asks_of w.first) s) x.rule room m.answers first
          asks.kept.again d.told;
      again = records_start file tag (after_all w h) _ (answers_rule w.answers h x.rule room m.answers) kept.again;
    }
