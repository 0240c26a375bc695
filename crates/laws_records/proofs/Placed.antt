-- Calls in place of calls by value, and complete asked in each answer.
use Rattle.std.proofs.Common.{ℕ, Bool, false, Result, Ok}
use mathlib.Core.Path.{◌≡◌, refl, sym, ◌∙◌, ap, ap₂, subst}
use mathlib.Core.Bool.{true}
use mathlib.Core.List.{List, [], ◌∷◌, ◌++◌}
use lib.ListN.{length}
use Rattle.rules_tablet.specs.Copies.{copy_rule}
use Rattle.rules_tablet.specs.Calls.{complete_call}
use Rattle.rules_demands.specs.Demand3Sessions.{Event, piece, ask, Said, Session, begun, run_events, run_asks}
use Rattle.copy.specs.States.{state_of, whether, completeness}
use Rattle.rules_records.specs.Demand3Records.{Records, requests, completes, saves, Call, on_copy, feeds, feeds_in_place, Answered, RecordCalls, after_call}
use Rattle.rules_records.specs.Demand3Records.{after_calls, with_reader, after_answers, after_all, CallsMeet, AnswersMeet, Meet, session_of, events_of, answers_of}
use Rattle.rules_records.specs.Demand3Records.{calls_of, said_first, said_by, CallsSized, AnswersSized}
use Rattle.rules_records.specs.Demand3RecordCases.{placed, placed_answers, PlacedAlways, watched_answers, watched_all}
use Rattle.laws_records.proofs.Steps.{calls_ready, begun_ready, answer_session, first_session}

-- In place.

placed_meet_lem : (xs : List Call) (h : Records) → CallsMeet xs h → CallsMeet (placed xs) h
placed_meet_lem [] h m = tt
placed_meet_lem (on_copy x ∷ xs) h m = (m.0, placed_meet_lem xs h m.1)
placed_meet_lem (feeds l f bytes ∷ xs) h m = (m.0, placed_meet_lem xs (after_call (feeds l f bytes) h) m.1)
placed_meet_lem (feeds_in_place l c r p bytes ∷ xs) h m = (m.0, placed_meet_lem xs (after_call (feeds_in_place l c r p bytes) h) m.1)

placed-leaves : (xs : List Call) (h : Records) → after_calls (placed xs) h ≡ after_calls xs h
placed-leaves [] h = refl
placed-leaves (on_copy x ∷ xs) h = placed-leaves xs h
placed-leaves (feeds l f bytes ∷ xs) h = placed-leaves xs (after_call (feeds l f bytes) h)
placed-leaves (feeds_in_place l c r p bytes ∷ xs) h = placed-leaves xs (after_call (feeds_in_place l c r p bytes) h)

placed_events : (xs : List Call) → events_of (placed xs) ≡ events_of xs
placed_events [] = refl
placed_events (on_copy (requests out r written) ∷ xs) = ap (λ (es : List Event). ask out ∷ es) (placed_events xs)
placed_events (on_copy (completes r) ∷ xs) = placed_events xs
placed_events (on_copy (saves out r written) ∷ xs) = placed_events xs
placed_events (feeds l f bytes ∷ xs) = ap (λ (es : List Event). piece l ∷ es) (placed_events xs)
placed_events (feeds_in_place l c r p bytes ∷ xs) = ap (λ (es : List Event). piece l ∷ es) (placed_events xs)

placed_sized : (xs : List Call) → CallsSized xs → CallsSized (placed xs)
placed_sized [] z = tt
placed_sized (on_copy x ∷ xs) z = (tt, placed_sized xs z.1)
placed_sized (feeds l f bytes ∷ xs) z = (z.0, placed_sized xs z.1)
placed_sized (feeds_in_place l c r p bytes ∷ xs) z = (z.0, placed_sized xs z.1)

-- the records behind an answer
abbrev behind : Answered → Records → Records
behind a h = after_calls a.calls (with_reader a.begun h)

all_meet : (xs : List Answered) (h : Records) → AnswersMeet xs h → AnswersMeet (placed_answers xs) h
all_meet [] h m = tt
all_meet (a ∷ rest) h m = (
  m.0,
  placed_meet_lem a.calls (with_reader a.begun h) m.1,
  subst (AnswersMeet (placed_answers rest)) (sym (placed-leaves a.calls (with_reader a.begun h))) (all_meet rest (behind a h) m.2),
)

all-leaves : (xs : List Answered) (h : Records) → after_answers (placed_answers xs) h ≡ after_answers xs h
all-leaves [] h = refl
all-leaves (a ∷ rest) h = ap (after_answers (placed_answers rest)) (placed-leaves a.calls (with_reader a.begun h)) ∙ all-leaves rest (behind a h)

all_events : (xs : List Answered) → answers_of (placed_answers xs) ≡ answers_of xs
all_events [] = refl
all_events (a ∷ rest) = ap₂ ◌∷◌ (placed_events a.calls) (all_events rest)

all_sized : (xs : List Answered) → AnswersSized xs → AnswersSized (placed_answers xs)
all_sized [] z = tt
all_sized (a ∷ rest) z = (z.0, placed_sized a.calls z.1, all_sized rest z.2)

-- any calls
pub placed_always : PlacedAlways
placed_always w h = record {
  meet = λ m. record { first = m.first; answers = all_meet w.answers h m.answers };
  are = ap (λ (ess : List (List Event)). record { asks = (calls_of w).asks; answers = ess }) (all_events w.answers);
  leaves = all-leaves w.answers h;
  sized = all_sized w.answers;
}

-- Complete.

-- behind the last call
last_meets : (xs : List Call) (h : Records) (r : Result Bool ℕ) → CallsMeet xs h → r ≡ completeness (after_calls xs h).copy
    → CallsMeet (xs ++ (on_copy (completes r) ∷ [])) h
last_meets [] h r m e = (e, tt)
last_meets (x ∷ xs) h r m e = (m.0, last_meets xs (after_call x h) r m.1 e)

last-leaves : (xs : List Call) (h : Records) (r : Result Bool ℕ) → after_calls (xs ++ (on_copy (completes r) ∷ [])) h ≡ after_calls xs h
last-leaves [] h r = refl
last-leaves (x ∷ xs) h r = last-leaves xs (after_call x h) r

last_events : (xs : List Call) (r : Result Bool ℕ) → events_of (xs ++ (on_copy (completes r) ∷ [])) ≡ events_of xs
last_events [] r = refl
last_events (on_copy (requests out o written) ∷ xs) r = ap (λ (es : List Event). ask out ∷ es) (last_events xs r)
last_events (on_copy (completes o) ∷ xs) r = last_events xs r
last_events (on_copy (saves out o written) ∷ xs) r = last_events xs r
last_events (feeds l f bytes ∷ xs) r = ap (λ (es : List Event). piece l ∷ es) (last_events xs r)
last_events (feeds_in_place l c o p bytes ∷ xs) r = ap (λ (es : List Event). piece l ∷ es) (last_events xs r)

-- what complete says in each answer, of the records there
abbrev Says : Result Bool ℕ → List Answered → Records → Type 0
Says last [] h = Unit {0}
Says last (a ∷ []) h = ((Ok false) ≡ completeness h.copy) × (last ≡ completeness (behind a h).copy)
Says last (a ∷ b ∷ rest) h =
    ((Ok false) ≡ completeness h.copy) × ((Ok false) ≡ completeness (behind a h).copy) × Says last (b ∷ rest) (behind a h)

-- and of the session that they mean
abbrev pub SaysIn : Result Bool ℕ → List (List Event) → Session → Type 0
SaysIn last [] s = Unit {0}
SaysIn last (es ∷ []) s = ((Ok false) ≡ whether (complete_call s.copy)) × (last ≡ whether (complete_call (run_events es (begun s)).copy))
SaysIn last (es ∷ fs ∷ rest) s =
    ((Ok false) ≡ whether (complete_call s.copy))
    × ((Ok false) ≡ whether (complete_call (run_events es (begun s)).copy))
    × SaysIn last (fs ∷ rest) (run_events es (begun s))

-- complete on a record that meets its rule is by what it means
says_of : (r : Result Bool ℕ) (h : Records) (said : List Said) (s : Session) → copy_rule h.copy ≡ true → session_of h said ≡ s
    → r ≡ whether (complete_call s.copy) → r ≡ completeness h.copy
unfolding completeness
says_of r h said s e q k =
    let is : completeness h.copy ≡ whether (complete_call (state_of h.copy)) = rw e refl in
    k ∙ ap (λ (x : Session). whether (complete_call x.copy)) (sym q) ∙ sym is

says-from : (last : Result Bool ℕ) (xs : List Answered) (h : Records) (said : List Said) (s : Session) → copy_rule h.copy ≡ true
    → length h.buffer ≡ h.copy.length → AnswersMeet xs h → session_of h said ≡ s → SaysIn last (answers_of xs) s → Says last xs h
says-from last [] h said s e n m q k = tt
says-from last (a ∷ []) h said s e n m q k =
    let ready = calls_ready a.calls (with_reader a.begun h) (begun_ready h a.begun e n m.0) m.1 in
    let next = answer_session h a said s e n m.0 m.1 q in (
      says_of (Ok false) h said s e q k.0,
      says_of last (behind a h) (said_by a.calls []) (run_events (events_of a.calls) (begun s)) ready.copy next k.1,
    )
says-from last (a ∷ b ∷ rest) h said s e n m q k =
    let ready = calls_ready a.calls (with_reader a.begun h) (begun_ready h a.begun e n m.0) m.1 in
    let s' = run_events (events_of a.calls) (begun s) in
    let next = answer_session h a said s e n m.0 m.1 q in (
      says_of (Ok false) h said s e q k.0,
      says_of (Ok false) (behind a h) (said_by a.calls []) s' ready.copy next k.1,
      says-from last (b ∷ rest) (behind a h) (said_by a.calls []) s' ready.copy ready.room m.2 next k.2,
    )

watched_meet : (last : Result Bool ℕ) (xs : List Answered) (h : Records) → AnswersMeet xs h → Says last xs h → AnswersMeet (watched_answers last xs) h
watched_meet last [] h m s = tt
watched_meet last (a ∷ []) h m s = (m.0, (s.0, last_meets a.calls (with_reader a.begun h) last m.1 s.1), tt)
watched_meet last (a ∷ b ∷ rest) h m s = (
  m.0,
  (s.0, last_meets a.calls (with_reader a.begun h) (Ok false) m.1 s.1),
  subst (AnswersMeet (watched_answers last (b ∷ rest))) (sym (last-leaves a.calls (with_reader a.begun h) (Ok false)))
      (watched_meet last (b ∷ rest) (behind a h) m.2 s.2),
)

watched-leaves : (last : Result Bool ℕ) (xs : List Answered) (h : Records) → after_answers (watched_answers last xs) h ≡ after_answers xs h
watched-leaves last [] h = refl
watched-leaves last (a ∷ []) h = last-leaves a.calls (with_reader a.begun h) last
watched-leaves last (a ∷ b ∷ rest) h =
    ap (after_answers (watched_answers last (b ∷ rest))) (last-leaves a.calls (with_reader a.begun h) (Ok false))
    ∙ watched-leaves last (b ∷ rest) (behind a h)

watched_events : (last : Result Bool ℕ) (xs : List Answered) → answers_of (watched_answers last xs) ≡ answers_of xs
watched_events last [] = refl
watched_events last (a ∷ []) = ap₂ ◌∷◌ (last_events a.calls last) refl
watched_events last (a ∷ b ∷ rest) = ap₂ ◌∷◌ (last_events a.calls (Ok false)) (watched_events last (b ∷ rest))

-- any calls of which that is so
pub watched_all_lem : (last : Result Bool ℕ) (w : RecordCalls) (h : Records) → copy_rule h.copy ≡ true → length h.buffer ≡ h.copy.length → Meet w h
    → SaysIn last (calls_of w).answers (run_asks (calls_of w).asks (session_of h [])) → Meet (watched_all last w) h
watched_all_lem last w h e n m k = record {
  first = m.first;
  answers = watched_meet last w.answers h m.answers
      (says-from last w.answers h (said_first w.first []) (run_asks (calls_of w).asks (session_of h [])) e n m.answers
      (first_session w.first h [] e m.first) k);
}

pub watched_are : (last : Result Bool ℕ) (w : RecordCalls) → calls_of (watched_all last w) ≡ calls_of w
watched_are last w = ap (λ (ess : List (List Event)). record { asks = (calls_of w).asks; answers = ess }) (watched_events last w.answers)

pub watched-after : (last : Result Bool ℕ) (w : RecordCalls) (h : Records) → after_all (watched_all last w) h ≡ after_all w h
watched-after last w h = watched-leaves last w.answers h
