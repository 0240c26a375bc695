-- The concrete cases of demand 3, by computation.
use Prim.Native.Nat.{ℕ, zero, suc, ◌-◌, ◌≤◌}
use Prim.Native.String.{String}
use native.Mathlib.Omega.{arith}
use mathlib.Core.Path.{◌≡◌, refl, sym, ap, subst, ◌∙◌}
use mathlib.Core.Bool.{true, false≢true}
use mathlib.Core.List.{List, [], ◌∷◌, ◌++◌, append-nil}
use Rattle.std.specs.Prelude.{Option, None}
use lib.ListN.{length, get_or, take, drop, take-append-drop}
use Rattle.rules_server.specs.Octets.{codes}
use Rattle.rules_server.specs.Texts.{get, status200, status206, status416}
use Rattle.rules_server.specs.Numerals.{print}
use Rattle.rules_server.specs.Tags.{is_tag, matches_tag, bad_tag, bad_type, bad_boundary, is_multipart_type}
use Rattle.rules_server.specs.Ranges.{spec_at, read_list, read_range}
use Rattle.rules_server.specs.Parts.{near, parts_of}
use Rattle.rules_server.specs.Calendar.{day_number, weekday, bad_time, date_of}
use Rattle.rules_server.specs.Dates.{fixdate_text, time_text}
use Rattle.rules_server.specs.Status.{Request, LastModified, failing, rows, decide, specs}
use Rattle.rules_server.specs.Answers.{head_then, bytes_of, multipart_line, range_line, unsatisfied_line, length_line, part_head, closing, ok_answer, unsatisfied_answer}
use Rattle.rules_server.specs.Answers.{plain_answer, multipart_answer, parts_for, answer}
use Rattle.rules_server.specs.Refusals.{bad_method, bad_length, bad_times, bad_delimiter, bad_room, refusal_rows, refusal}
use Rattle.rules_server.specs.declared.Run.{Run}
use Rattle.rules_tablet.specs.Limits.{max_runs}
use Rattle.rules_tablet.specs.Fields.{is_status_line, is_field, kind_of, is_size, type_field, range_field}
use Rattle.rules_tablet.specs.Heads.{other_status, broken_head, unlike_copy, wrong_range, empty_parts, head_refusal, body_stage}
use Rattle.rules_tablet.specs.Parsers.{Parser, field_line, head_end, status_line, part_line, part_end}
use Rattle.rules_tablet.specs.Feeding.{store, feed_byte}
use Rattle.rules_tablet.specs.Copies.{bad_opening, is_complete}
use Rattle.rules_tablet.specs.Requests.{range_text, request_text}
use Rattle.rules_tablet.specs.Calls.{copy_ok, opened, fresh, reader_ok, feedable, feed_call, request_refusal, request_call, complete_call}
use Rattle.rules_tablet.specs.Runs.{run, member}
use Rattle.rules_demands.specs.Demand3Foreign.{gives_tag}
use Rattle.rules_demands.specs.Demand3Sessions.{Event, piece, delivered, Other, ours, foreign, Said, begun, run_events, run_calls, Session}
use Rattle.rules_demands.specs.RequestReading.{request_in}
use Rattle.rules_demands.specs.Demand3.{Start}
use Rattle.rules_demands.specs.Demand3Cases.{tag, fresh_for, wants, wants_all, resource, dated, reply, AnswerTo, TakesRange, Completes, lines_of}
use Rattle.rules_demands.specs.AnchorSamples.{dots}
use Rattle.rules_demands.specs.Demand3Cases.{digits, multipart, broken, another, front, beyond, plain, calls, left, EveryKind}
use Rattle.rules_demands.specs.Demand3Cases.{two_held, refused_then, finished_then, whole, held_calls, RunsHeld}
use Rattle.laws_exchange.proofs.demand_3.Demand3.{demand_3}
use Rattle.laws_exchange.proofs.demand_3.Corollary.{opening_starts}

-- a line `unfolding computes` opens all of these
unfoldable pub computes : Unit {0}
unfolding print is_tag matches_tag failing bad_tag bad_type bad_boundary is_multipart_type bad_time day_number weekday date_of fixdate_text time_text spec_at read_list
    read_range near parts_of rows decide specs head_then bytes_of multipart_line range_line unsatisfied_line length_line part_head closing ok_answer unsatisfied_answer
    plain_answer multipart_answer parts_for answer bad_method bad_length bad_times bad_delimiter bad_room refusal_rows refusal is_status_line is_field kind_of is_size
    type_field range_field other_status broken_head unlike_copy wrong_range empty_parts head_refusal body_stage field_line head_end status_line part_line part_end store
    feed_byte bad_opening is_complete range_text request_text copy_ok opened fresh reader_ok feedable feed_call request_refusal request_call complete_call gives_tag
computes = tt

-- bytes of our answer: nothing refuses it, and they are a front of it
pub from_ours : (modified : Option LastModified) (file : List ℕ) (q : Request) (status bytes rest : List ℕ) → q.method ≡ get
    → refusal q (resource modified file) 2000 ≡ None
    → bytes ++ rest ≡ bytes_of (answer q (resource modified file))
    → take (length status) bytes ≡ status
    → AnswerTo file q status bytes
from_ours modified file q status bytes rest g a f b = record {
  source = record {
    request = q;
    media = (resource modified file).media;
    boundary = (resource modified file).boundary;
    modified = (resource modified file).modified;
    reference = (resource modified file).reference;
    room = 2000;
    is_get = g;
    answered = a;
    rest = rest;
    front = f;
  };
  is_to = refl;
  begins = b;
}

-- the answer to the request that a session writes
abbrev answer-to : List ℕ → Session → List ℕ → List ℕ
answer-to file s out = reply file (request_in (request_call s.copy out))

-- two pieces, the first of k bytes
abbrev halves : ℕ → List ℕ → List Event
halves k l = piece (take k l) ∷ piece (drop k l) ∷ []

halves_whole : (k : ℕ) (l : List ℕ) → delivered (halves k l) ≡ l
halves_whole k l = ap (λ (x : List ℕ). take k l ++ x) (append-nil (drop k l)) ∙ take-append-drop k l

takes_round : (file : List ℕ) (s : Session) (range : String) (out : List ℕ) (k : ℕ) → request_refusal s.copy (length out) ≡ None
    → refusal (request_in (request_call s.copy out)) (resource None file) 2000 ≡ None
    → take (length (lines_of range)) (request_call s.copy out) ≡ lines_of range
    → TakesRange file s range
takes_round file s range out k a b w = record {
  round = record {
    out = out;
    asks = a;
    media = (resource None file).media;
    boundary = (resource None file).boundary;
    modified = (resource None file).modified;
    reference = (resource None file).reference;
    room = 2000;
    answered = b;
    events = halves k (answer-to file s out);
    fully = halves_whole k (answer-to file s out);
  };
  writes = w;
  in_two = refl;
}

-- a session in which an answer begins, for a copy that holds these runs
abbrev pub holding : List Run → List ℕ → Session
holding rs bytes = record { copy = record { tag = tag; length = length bytes; runs = rs }; buffer = bytes; reader = fresh; said = [] }

-- what the calls of an answer leave to the next
pub first_leaves : begun (run_events broken (begun (fresh_for digits))) ≡ holding (run 0 2 ∷ []) (codes "012.......")
unfolding computes
first_leaves = refl

second_leaves : begun (run_events another (holding (run 0 2 ∷ []) (codes "012......."))) ≡ holding (run 0 2 ∷ []) (codes "012.......")
unfolding computes
second_leaves = refl

third_leaves : begun (run_events front (holding (run 0 2 ∷ []) (codes "012......."))) ≡ holding (run 0 4 ∷ []) (codes "01234.....")
unfolding computes
third_leaves = refl

fourth_leaves : begun (run_events beyond (holding (run 0 4 ∷ []) (codes "01234....."))) ≡ holding (run 0 4 ∷ []) (codes "01234.....")
unfolding computes
fourth_leaves = refl

fifth_leaves : begun (run_events plain (holding (run 0 4 ∷ []) (codes "01234....."))) ≡ holding (run 0 4 ∷ run 8 8 ∷ []) (codes "01234...8.")
unfolding computes
fifth_leaves = refl

-- the next answer's calls begin where those before it ended
next : (es : List Event) (g h k : Session) → g ≡ h → begun (run_events es h) ≡ k → begun (run_events es g) ≡ k
next es g h k e f = subst (λ (x : Session). begun (run_events es x) ≡ k) (sym e) f

-- the session with any reader, and anything said
abbrev instead : Session → Parser → List Said → Session
instead s r d = record { copy = s.copy; buffer = s.buffer; reader = r; said = d }

-- a property that asks for no more than what an answer begins with
at-begun : (P : Session → Type 0) (s h : Session) → begun s ≡ h → ((r : Parser) (d : List Said) → P (instead h r d)) → P s
at-begun P s h e f = subst (λ (x : Session). P (instead x s.reader s.said)) (sym e) (f s.reader s.said)

-- the premise of the two answers
few_runs : (s h : Session) → begun s ≡ h → length h.copy.runs ≤ max_runs - 1 → length s.copy.runs ≤ max_runs - 1
few_runs s h e l = subst (λ (x : Session). length x.copy.runs ≤ max_runs - 1) (sym e) l

abbrev left_holding : Session
left_holding = holding (run 0 4 ∷ run 8 8 ∷ []) (codes "01234...8.")

left-holds : begun left ≡ left_holding
left-holds = next plain _ _ _ (next beyond _ _ _ (next front _ _ _ (next another _ _ _ first_leaves second_leaves) third_leaves) fourth_leaves) fifth_leaves

left_completes : (r : Parser) (d : List Said) → Completes digits (instead left_holding r d) "bytes=5-7,9-9"
unfolding computes takes_round
left_completes r d = record { takes = takes_round digits (instead left_holding r d) "bytes=5-7,9-9" (dots 50) 176 refl refl refl; complete = refl; whole = refl }

pub every_kind : EveryKind
unfolding computes
every_kind =
    let starts = opening_starts digits tag (dots 10) refl in
    let first = from_ours None digits (wants "bytes=0-2,6-7") status206 (delivered broken) (drop 190 multipart) refl refl refl refl in
    let second : Other tag (delivered another) = record { rest = []; other = refl } in
    let third = from_ours None digits wants_all status200 (delivered front) (drop 82 (reply digits wants_all)) refl refl refl refl in
    let fourth = from_ours None digits (wants "bytes=10-") status416 (delivered beyond) [] refl refl refl refl in
    let fifth = from_ours dated digits (wants "bytes=8-8") status206 (delivered plain) [] refl refl refl refl in
    let demand = demand_3 digits tag (fresh_for digits) calls
    (ours first.source, (foreign second, (ours third.source, (ours fourth.source, (ours fifth.source, tt))))) starts in
    record {
      starts = starts;
      first = first;
      second = second;
      third = third;
      fourth = fourth;
      fifth = fifth;
      demand = demand;
      asks = refl;
      said = refl;
      runs = ap (λ (x : Session). x.copy.runs) left-holds;
      buffer = ap (λ (x : Session). x.buffer) left-holds;
      two = demand.two (few_runs left left_holding left-holds (omega arith));
      completes = at-begun (λ (x : Session). Completes digits x "bytes=5-7,9-9") left left_holding left-holds left_completes;
    }

-- the held bytes are the file's
held_right : (p : ℕ) → member p two_held.copy.runs ≡ true → get_or two_held.buffer p 0 ≡ get_or digits p 0
held_right zero m = refl
held_right (suc zero) m = refl
held_right (suc (suc zero)) m = refl
held_right (suc (suc (suc zero))) m = absurd (false≢true m)
held_right (suc (suc (suc (suc zero)))) m = absurd (false≢true m)
held_right (suc (suc (suc (suc (suc zero))))) m = absurd (false≢true m)
held_right (suc (suc (suc (suc (suc (suc zero)))))) m = refl
held_right (suc (suc (suc (suc (suc (suc (suc zero))))))) m = refl
held_right (suc (suc (suc (suc (suc (suc (suc (suc zero)))))))) m = absurd (false≢true m)
held_right (suc (suc (suc (suc (suc (suc (suc (suc (suc zero))))))))) m = absurd (false≢true m)
held_right (suc (suc (suc (suc (suc (suc (suc (suc (suc (suc p)))))))))) m = refl

refused-leaves : begun (run_events refused_then (begun two_held)) ≡ two_held
unfolding computes
refused-leaves = refl

held-front-leaves : begun (run_events front two_held) ≡ holding (run 0 4 ∷ run 6 7 ∷ []) (codes "01234.67..")
unfolding computes
held-front-leaves = refl

finished_leaves : begun (run_events finished_then (holding (run 0 4 ∷ run 6 7 ∷ []) (codes "01234.67.."))) ≡ holding (run 0 4 ∷ run 6 7 ∷ []) (codes "01234.67..")
unfolding computes
finished_leaves = refl

whole-leaves : begun (run_events whole (holding (run 0 4 ∷ run 6 7 ∷ []) (codes "01234.67.."))) ≡ holding (run 0 9 ∷ []) digits
unfolding computes
whole-leaves = refl

held-ends : begun (run_calls held_calls two_held) ≡ holding (run 0 9 ∷ []) digits
held-ends = next whole _ _ _ (next finished_then _ _ _ (next front _ _ _ refused-leaves held-front-leaves) finished_leaves) whole-leaves

pub runs-held : RunsHeld
unfolding computes
runs-held =
    let starts : Start digits tag two_held = record {
      rule = refl;
      strong = refl;
      under_tag = refl;
      of_length = refl;
      buffer_length = refl;
      right = held_right;
    } in
    let first : Other tag (delivered refused_then) = record { rest = []; other = refl } in
    let second = from_ours None digits wants_all status200 (delivered front) (drop 82 (reply digits wants_all)) refl refl refl refl in
    let third : Other tag (delivered finished_then) = record { rest = []; other = refl } in
    let fourth = from_ours None digits wants_all status200 (delivered whole) [] refl refl refl refl in
    record {
      starts = starts;
      first = first;
      second = second;
      third = third;
      fourth = fourth;
      demand = demand_3 digits tag two_held held_calls (foreign first, (ours second.source, (foreign third, (ours fourth.source, tt)))) starts;
      asks = refl;
      said = refl;
      longer = ap (λ (x : Session). x.copy.runs) (next front _ _ _ refused-leaves held-front-leaves);
      runs = ap (λ (x : Session). x.copy.runs) held-ends;
      buffer = ap (λ (x : Session). x.buffer) held-ends;
      complete = ap (λ (x : Session). complete_call x.copy) held-ends;
    }
