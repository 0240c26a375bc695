-- The Range that a copy's request writes is read back as the holes that it asks for, and its If-Range matches the copy's tag.
use Prim.Native.Nat.{ℕ}
use mathlib.Core.Path.{◌≡◌, sym, ◌∙◌, ap}
use mathlib.Core.List.{List, ◌∷◌, ◌++◌, map}
use Rattle.std.specs.Prelude.{None, Some}
use lib.ListN.{length, drop}
use Rattle.rules_server.specs.Octets.{trim}
use Rattle.rules_server.specs.Status.{matches}
use Rattle.rules_server.specs.Ranges.{listed, read_range}
use Rattle.rules_server.specs.declared.Run.{Run}
use Rattle.rules_tablet.specs.Requests.{request_text, wanted}
use Rattle.rules_tablet.specs.Calls.{State, request_refusal, request_lines, request_call}
use Rattle.rules_demands.specs.RequestReading.{range_in, if_range_in, request_in, span_spec}
use Rattle.rules_demands.specs.Demand2Tablet.{WrittenReadBack, RequestsReadBack}
use Rattle.laws_reader.proofs.read_back.ReadBack.{read_back, read_behind_lem}
use Rattle.laws_reader.proofs.rules_kept.Demand1.{asking_always}
use Rattle.laws_exchange.proofs.calls.Answer.{copy_facts}
use Rattle.laws_exchange.proofs.completion.Round.{asks-some}
use Rattle.laws_exchange.proofs.completion.Served.{asks_rule}

-- one value is given
value_is : (a b : List ℕ) → Some a ≡ Some b → a ≡ b
value_is a b e = cc

-- with the ranges that the request asks for
written : (c : State) (out : List ℕ) (h : Run) (hs : List Run) → request_refusal c (length out) ≡ None → wanted c.length c.runs ≡ h ∷ hs
    → WrittenReadBack c out
written c out h hs e d =
    let strong = (copy_facts c (asks_rule c (length out) e)).strong in
    let text = request_text (h ∷ hs) c.tag in
    let lines : request_lines c ≡ text = rw d in
    let rest = drop (length (request_lines c)) out in
    let given : request_call c out ≡ text ++ rest = (asking_always c out).written e ∙ ap (λ (t : List ℕ). t ++ rest) lines in
    let read : request_in (request_call c out) ≡ request_in text = ap request_in given ∙ read_behind_lem h hs c.tag rest strong in
    let range : range_in (request_call c out) ≡ range_in text = value_is (range_in (request_call c out)) (range_in text) (ap (λ q. q.range) read) in
    let tagged : if_range_in (request_call c out) ≡ if_range_in text = value_is (if_range_in (request_call c out)) (if_range_in text) (ap (λ q. q.if_range) read) in
    let back = read_back h hs c.tag strong in
    record {
      ranges = ap (λ (v : List ℕ). read_range (trim v)) range ∙ back.ranges ∙ ap (λ (rs : List Run). listed (map span_spec rs)) (sym d);
      if_range_matches = λ f e. ap (λ (v : List ℕ). matches (trim v) f) tagged ∙ back.if_range_matches f e;
    }

-- of any request that is not refused
pub requests_read_back : RequestsReadBack
requests_read_back c out e = let w = asks-some c (length out) e in written c out w.0 w.1 e w.2
