-- Every list of calls is one of records that meet the contracts.
use Prim.Native.Nat.{ℕ, zero, suc, ◌+◌, ◌-◌, ◌≤◌}
use native.Mathlib.Omega.{arith}
use mathlib.Core.Path.{◌≡◌, refl, sym, ◌∙◌, ap, ap₂, subst}
use mathlib.Core.Bool.{true, ◌&&◌, true≢false}
use mathlib.Core.List.{List, [], ◌∷◌, ◌++◌}
use lib.Dec.{eqb}
use lib.ListN.{length, take, replicate, length-append, length-replicate}
use lib.Seq.{take-append_seam, drop-append_seam}
use borrow.Author.Tests.{le-leb}
use Rattle.rules_server.specs.Limits.{max_tag, max_boundary}
use Rattle.rules_server.specs.declared.Run.{Run}
use Rattle.rules_tablet.specs.Limits.{max_runs, max_line}
use Rattle.rules_tablet.specs.Runs.{run, WellFormed}
use Rattle.rules_tablet.specs.Copies.{all_blank, copy_rule}
use Rattle.rules_tablet.specs.Parsers.{Parser}
use Rattle.rules_tablet.specs.Readers.{parser_in, fresh_reader}
use Rattle.rules_tablet.specs.Calls.{State, fresh, copy_ok, reader_ok, feedable, feed_call}
use Rattle.rules_tablet.specs.declared.Copy.{Copy}
use Rattle.rules_tablet.specs.declared.Reader.{Reader}
use Rattle.rules_demands.specs.Demand3Sessions.{Event, piece, ask}
use Rattle.laws_reader.proofs.rules_kept.Tests.{and_left, and_right}
use Rattle.laws_reader.proofs.rules_kept.Rules.{reader_of_lem}
use Rattle.laws_reader.proofs.rules_kept.Demand1.{fair_always}
use Rattle.laws_exchange.proofs.calls.Answer.{copy_facts}
use Rattle.copy.specs.States.{state_of}
use Rattle.copy.proofs.Laws.{rule_kept, kept_rule}
use Rattle.copy_request.specs.Requested.{request_outcome, request_bytes}
use Rattle.reader.specs.Begun.{Begun}
use Rattle.reader.specs.Rules.{reader_rule}
use Rattle.reader.specs.Calls.{FedIs}
use Rattle.reader.specs.declared.fed.Fed.{Fed}
use Rattle.rules_records.specs.Demand3Records.{Records, CopyCall, requests, Call, on_copy, feeds, Answered, after_call, after_calls, with_reader}
use Rattle.rules_records.specs.Demand3Records.{FirstMeet, CallsMeet, AnswersMeet, asks_of, events_of, answers_of, CopySized, ReaderSized}
use Rattle.rules_records.specs.Demand3Records.{CallsSized, AnswersSized, RecordsExist}
use Rattle.laws_records.proofs.Steps.{Ready, ready_rule, fed_ready, calls_ready, begun_ready}
use Rattle.laws_records.proofs.Right.{ready_able}

over : (k m : ℕ) → k ≤ m → k + (m - k) ≡ m
over k m h = omega arith

-- a list at the front of an array, and then zeros
abbrev padded : ℕ → List ℕ → List ℕ
padded m l = l ++ replicate (m - length l) 0

pub padded_long : (m : ℕ) (l : List ℕ) → length l ≤ m → length (padded m l) ≡ m
padded_long m l h = length-append l (replicate (m - length l) 0) ∙ ap (λ (k : ℕ). length l + k) (length-replicate (m - length l) 0) ∙ over (length l) m h

-- the record of a reader that stands so
abbrev reader_for : Parser → Reader
reader_for p = record {
  stage = p.stage;
  framing = p.framing;
  line = padded max_line p.line;
  line_len = length p.line;
  cr = p.cr;
  head = p.head;
  part = p.part;
  tag = padded max_tag p.tag;
  tag_len = length p.tag;
  boundary = padded max_boundary p.boundary;
  boundary_len = length p.boundary;
}

reader_for_lem : (p : Parser) → parser_in (reader_for p) ≡ p
reader_for_lem p =
    let front : (m : ℕ) (l : List ℕ) → take (length l) (padded m l) ≡ l = λ m l. take-append_seam l (replicate (m - length l) 0) in
    let line = front max_line p.line in
    let tag = front max_tag p.tag in
    let boundary = front max_boundary p.boundary in
    λ i. record {
      stage = p.stage;
      framing = p.framing;
      line = line i;
      cr = p.cr;
      head = p.head;
      part = p.part;
      tag = tag i;
      boundary = boundary i;
    }

reader_for_sized : (c : State) (p : Parser) → reader_ok c p ≡ true → ReaderSized (reader_for p)
reader_for_sized c p e =
    let f = (reader_of_lem c p e).frame in
    record {
      line = padded_long max_line p.line f.line;
      tag = padded_long max_tag p.tag f.tag;
      boundary = padded_long max_boundary p.boundary f.boundary;
    }

reader_for_rule : (c : Copy) (p : Parser) → reader_ok (state_of c) p ≡ true → reader_rule c (reader_for p) ≡ true
unfolding reader_rule
reader_for_rule c p e =
    let f = (reader_of_lem (state_of c) p e).frame in
    rw (le-leb (length p.line) max_line f.line, le-leb (length p.tag) max_tag f.tag, le-leb (length p.boundary) max_boundary f.boundary)
    (subst (λ (q : Parser). reader_ok (state_of c) q ≡ true) (sym (reader_for_lem p)) e)

-- the record of a copy with other runs
abbrev pub blanks : List Run → List Run
blanks rs = replicate (max_runs - length rs) (run 0 0)

abbrev with-runs : List Run → Copy → Copy
with-runs rs c = record { tag = c.tag; tag_len = c.tag_len; length = c.length; runs = rs ++ blanks rs; count = length rs }

pub all_blank_lem : (k : ℕ) → all_blank (replicate k (run 0 0)) ≡ true
all_blank_lem zero = refl
all_blank_lem (suc k) = all_blank_lem k

with_rule : (rs : List Run) (c : Copy) → copy_rule c ≡ true → length rs ≤ max_runs → WellFormed 0 c.length rs → copy_rule (with-runs rs c) ≡ true
with_rule rs c e few formed =
    let k = rule_kept c e in
    kept_rule (with-runs rs c) (record {
      short = k.short;
      strong = k.strong;
      zeros = k.zeros;
      below = k.below;
      few = few;
      formed = subst (WellFormed 0 c.length) (sym (take-append_seam rs (blanks rs))) formed;
      blank = ap all_blank (drop-append_seam rs (blanks rs)) ∙ all_blank_lem (max_runs - length rs);
    })

-- runs and blank ones fill the array
pub blanks_long : (rs : List Run) → length rs ≤ max_runs → length (rs ++ blanks rs) ≡ max_runs
blanks_long rs few =
    length-append rs (blanks rs) ∙ ap (λ (k : ℕ). length rs + k) (length-replicate (max_runs - length rs) (run 0 0)) ∙ over (length rs) max_runs few

with_sized : (rs : List Run) (c : Copy) → CopySized c → length rs ≤ max_runs → CopySized (with-runs rs c)
with_sized rs c z few = record { tag = z.tag; runs = blanks_long rs few }

-- what feed may return
record FedFor (h : Records) (l : List ℕ) : Type 0 where
  result : Fed
  bytes : List ℕ
  is : FedIs h.copy h.reader h.buffer l result bytes
  copy_sized : CopySized result.copy
  reader_sized : ReaderSized result.reader

feedable_copy : (c : State) (p : Parser) (buffer : List ℕ) → feedable c p buffer ≡ true → copy_ok c ≡ true
unfolding feedable
feedable_copy c p buffer e = and_left (copy_ok c) _ (and_left _ (reader_ok c p) e)

feedable_reader : (c : State) (p : Parser) (buffer : List ℕ) → feedable c p buffer ≡ true → reader_ok c p ≡ true
unfolding feedable
feedable_reader c p buffer e = and_right (copy_ok c && eqb (length buffer) c.length) (reader_ok c p) e

fed_for : (h : Records) (l : List ℕ) → Ready h → CopySized h.copy → FedFor h l
fed_for h l k z =
    let c = h.copy in
    let call = feed_call (state_of c) (parser_in h.reader) h.buffer l in
    let fair = fair_always (state_of c) (parser_in h.reader) h.buffer l in
    let able = fair.rules (ready_able h k) in
    let facts = copy_facts call.copy (feedable_copy call.copy call.reader call.buffer able) in
    let ok = feedable_reader call.copy call.reader call.buffer able in
    let rs = call.copy.runs in
    let d = with-runs rs c in
    let state : state_of d ≡ call.copy =
    λ i. record { tag = sym fair.tag i; length = sym fair.size i; runs = take-append_seam rs (blanks rs) i } in
    let ok' : reader_ok (state_of d) call.reader ≡ true = subst (λ (s : State). reader_ok s call.reader ≡ true) (sym state) ok in
    record {
      result = record { copy = d; reader = reader_for call.reader; taken = call.taken; report = call.report };
      bytes = call.buffer;
      is = record {
        rejected = λ e. absurd (true≢false (sym (ready_rule c h.reader h.buffer k) ∙ e));
        fed = λ e. record {
          copy = state;
          reader = reader_for_lem call.reader;
          stored = refl;
          taken = refl;
          report = refl;
          copy_rule = with_rule rs c k.copy facts.few (subst (λ (n : ℕ). WellFormed 0 n rs) fair.size facts.formed);
          reader_rule = reader_for_rule d call.reader ok';
        };
      };
      copy_sized = with_sized rs c z facts.few;
      reader_sized = reader_for_sized call.copy call.reader ok;
    }

-- the calls of an answer
record CallsFor (h : Records) (es : List Event) : Type 0 where
  calls : List Call
  are : events_of calls ≡ es
  meet : CallsMeet calls h
  sized : CallsSized calls
  copy_sized : CopySized (after_calls calls h).copy

calls_for : (es : List Event) (h : Records) → Ready h → CopySized h.copy → CallsFor h es
calls_for [] h k z = record { calls = []; are = refl; meet = tt; sized = tt; copy_sized = z }
calls_for (piece l ∷ es) h k z =
    let f = fed_for h l k z in
    let x = feeds l f.result f.bytes in
    let ih = calls_for es (after_call x h) (fed_ready h l f.result f.bytes k f.is) f.copy_sized in
    record {
      calls = x ∷ ih.calls;
      are = ap (λ (y : List Event). piece l ∷ y) ih.are;
      meet = (f.is, ih.meet);
      sized = ((f.copy_sized, f.reader_sized), ih.sized);
      copy_sized = ih.copy_sized;
    }
calls_for (ask out ∷ es) h k z =
    let ih = calls_for es h k z in
    record {
      calls = on_copy (requests out (request_outcome h.copy (length out)) (request_bytes h.copy out)) ∷ ih.calls;
      are = ap (λ (y : List Event). ask out ∷ y) ih.are;
      meet = ((refl, refl), ih.meet);
      sized = (tt, ih.sized);
      copy_sized = ih.copy_sized;
    }

-- a fresh reader's record
pub fresh-begun : Begun fresh_reader
unfolding fresh reader_rule reader_ok
fresh-begun = record { record_is = refl; is = refl; rule = λ c. refl }

fresh_sized : ReaderSized fresh_reader
fresh_sized = record {
  line = length-replicate {A = ℕ} max_line 0;
  tag = length-replicate {A = ℕ} max_tag 0;
  boundary = length-replicate {A = ℕ} max_boundary 0;
}

record AnswersFor (h : Records) (ess : List (List Event)) : Type 0 where
  answers : List Answered
  are : answers_of answers ≡ ess
  meet : AnswersMeet answers h
  sized : AnswersSized answers

answers_for : (ess : List (List Event)) (h : Records) → copy_rule h.copy ≡ true → length h.buffer ≡ h.copy.length → CopySized h.copy
    → AnswersFor h ess
answers_for [] h e n z = record { answers = []; are = refl; meet = tt; sized = tt }
answers_for (es ∷ ess) h e n z =
    let h' = with_reader fresh_reader h in
    let k = begun_ready h fresh_reader e n fresh-begun in
    let x = calls_for es h' k z in
    let k' = calls_ready x.calls h' k x.meet in
    let ih = answers_for ess (after_calls x.calls h') k'.copy k'.room x.copy_sized in
    record {
      answers = record { begun = fresh_reader; calls = x.calls } ∷ ih.answers;
      are = ap₂ ◌∷◌ x.are ih.are;
      meet = (fresh-begun, x.meet, ih.meet);
      sized = (fresh_sized, x.sized, ih.sized);
    }

-- the requests before the first beginning
abbrev first_for : Copy → List (List ℕ) → List CopyCall
first_for c [] = []
first_for c (out ∷ outs) = requests out (request_outcome c (length out)) (request_bytes c out) ∷ first_for c outs

first_are : (c : Copy) (outs : List (List ℕ)) → asks_of (first_for c outs) ≡ outs
first_are c [] = refl
first_are c (out ∷ outs) = ap (λ (y : List (List ℕ)). out ∷ y) (first_are c outs)

first_meet : (c : Copy) (outs : List (List ℕ)) → FirstMeet (first_for c outs) c
first_meet c [] = tt
first_meet c (out ∷ outs) = ((refl, refl), first_meet c outs)

pub records_exist : RecordsExist
records_exist h cs e n z =
    let x = answers_for cs.answers h e n z in
    record {
      calls = record { first = first_for h.copy cs.asks; answers = x.answers };
      are = λ i. record { asks = first_are h.copy cs.asks i; answers = x.are i };
      meet = record { first = first_meet h.copy cs.asks; answers = x.meet };
      sized = x.sized;
    }
