-- Demand 3 at each call of an answer: a front of the answer's calls is a list of calls too.
use Prim.Native.Nat.{ℕ}
use mathlib.Core.Path.{◌≡◌, refl, sym, ◌∙◌, ap, subst}
use mathlib.Core.Bool.{Bool, true, false}
use mathlib.Core.List.{List, [], ◌∷◌, ◌++◌, append_assoc}
use Rattle.std.specs.Prelude.{Option, None, Some, Result, Ok, Err}
use native.Mathlib.Omega.{arith}
use Rattle.rules_server.specs.Tags.{is_strong}
use Rattle.rules_tablet.specs.Copies.{copy_rule}
use Rattle.rules_tablet.specs.Calls.{complete_call}
use Rattle.rules_tablet.specs.declared.Copy.{Copy}
use Rattle.rules_demands.specs.Demand3Sessions.{Event, piece, ask, Calls, delivered, Source, ours, foreign, Said, Session, begun, run_events}
use Rattle.rules_demands.specs.Demand3Foreign.{under_another}
use Rattle.rules_demands.specs.Demand3.{Start}
use Rattle.laws_exchange.proofs.demand_3.Demand3.{demand_3}
use Rattle.laws_exchange.proofs.demand_3.Corollary.{never_mixed}
use Rattle.copy.specs.States.{state_of, whether, completeness}
use Rattle.copy.proofs.Laws.{rule_ok, rule_kept}
use Rattle.rules_records.specs.Demand3Records.{Records, session_of, RecordsStart, CompleteRight}

-- records that start mean a session that starts, and back
pub start_of : (file tag : List ℕ) (h : Records) (said : List Said) → RecordsStart file tag h → Start file tag (session_of h said)
start_of file tag h said x = record {
  rule = rule_ok h.copy x.rule;
  strong = subst (λ (t : List ℕ). is_strong t ≡ true) x.under_tag (rule_kept h.copy x.rule).strong;
  under_tag = x.under_tag;
  of_length = x.of_length;
  buffer_length = x.buffer_length;
  right = x.right;
}

pub records_start : (file tag : List ℕ) (h : Records) (said : List Said) → copy_rule h.copy ≡ true → Start file tag (session_of h said)
    → RecordsStart file tag h
records_start file tag h said e x = record {
  rule = e;
  under_tag = x.under_tag;
  of_length = x.of_length;
  buffer_length = x.buffer_length;
  right = x.right;
}

-- a front of an answer's bytes comes from the same source
pub source_front : (file tag a b : List ℕ) → Source file tag (a ++ b) → Source file tag a
source_front file tag a b (ours o) = ours (record {
  request = o.request;
  media = o.media;
  boundary = o.boundary;
  modified = o.modified;
  reference = o.reference;
  room = o.room;
  is_get = o.is_get;
  answered = o.answered;
  rest = b ++ o.rest;
  front = sym (append_assoc a b o.rest) ∙ o.front;
})
source_front file tag a b (foreign o) =
    foreign (record { rest = b ++ o.rest; other = ap (under_another tag) (sym (append_assoc a b o.rest)) ∙ o.other })

-- calls in a row
pub delivered-append : (es fs : List Event) → delivered (es ++ fs) ≡ delivered es ++ delivered fs
delivered-append [] fs = refl
delivered-append (piece l ∷ es) fs =
    ap (λ (x : List ℕ). l ++ x) (delivered-append es fs) ∙ sym (append_assoc l (delivered es) (delivered fs))
delivered-append (ask out ∷ es) fs = delivered-append es fs

pub run-append : (es fs : List Event) (s : Session) → run_events (es ++ fs) s ≡ run_events fs (run_events es s)
run-append [] fs s = refl
run-append (piece l ∷ es) fs s = run-append es fs _
run-append (ask out ∷ es) fs s = run-append es fs _

-- behind a front of an answer's calls the session is a start
pub start_along : (file tag : List ℕ) (s : Session) (es fs : List Event) → Start file tag s → Source file tag (delivered (es ++ fs))
    → Start file tag (run_events es (begun s))
start_along file tag s es fs x o =
    let front = source_front file tag (delivered es) (delivered fs) (subst (Source file tag) (delivered-append es fs) o) in
    (demand_3 file tag s (record { asks = []; answers = es ∷ [] }) (front, tt) x).kept.again

-- complete
complete_is : (c : Copy) → copy_rule c ≡ true → completeness c ≡ whether (complete_call (state_of c))
unfolding completeness
complete_is c e = rw e

whether_complete : (o : Option Bool) → whether o ≡ Ok true → o ≡ Some true
whether_complete None e = let z : ◌≡◌ {A = ℕ} 0 1 = cc in absurd (omega arith)
whether_complete (Some false) e = let z : ◌≡◌ {A = ℕ} 0 1 = cc in absurd (omega arith)
whether_complete (Some true) e = refl

whether-refused : (o : Option Bool) (k : ℕ) → whether o ≡ Err k → o ≡ None
whether-refused None k e = refl
whether-refused (Some false) k e = let z : ◌≡◌ {A = ℕ} 0 1 = cc in absurd (omega arith)
whether-refused (Some true) k e = let z : ◌≡◌ {A = ℕ} 0 1 = cc in absurd (omega arith)

pub complete_right : (file tag : List ℕ) (h : Records) (r : Result Bool ℕ) → RecordsStart file tag h → r ≡ completeness h.copy → CompleteRight file h r
complete_right file tag h r x e =
    let s = session_of h [] in
    let start = start_of file tag h [] x in
    let no_calls : Calls = record { asks = []; answers = [] } in
    let kept = (demand_3 file tag s no_calls tt start).kept in
    let is : r ≡ whether (complete_call (state_of h.copy)) = e ∙ complete_is h.copy x.rule in
    let says : r ≡ Ok true → complete_call (state_of h.copy) ≡ Some true = λ y. whether_complete (complete_call (state_of h.copy)) (sym is ∙ y) in
    record {
      complete = ((λ y. kept.complete.0 (says y)), (λ all. is ∙ ap whether (kept.complete.1 all)));
      whole = λ y. (never_mixed file tag s no_calls tt start).whole (says y);
      never = λ k y. kept.incomplete (whether-refused (complete_call (state_of h.copy)) k (sym is ∙ y));
    }
