-- A written request is answered by a 206 of exactly the holes that it asks for.
use Prim.Native.Nat.{ℕ, ◌≤◌}
use native.Mathlib.Omega.{arith}
use mathlib.Core.Path.{◌≡◌, sym, ◌∙◌, ap, subst}
use mathlib.Core.Bool.{Bool, true, false, cond}
use mathlib.Core.List.{List, ◌∷◌, ◌++◌}
use Rattle.std.specs.Prelude.{None, Some}
use lib.ListN.{length, drop, length-take}
use Rattle.rules_server.specs.Limits.{max_file, max_specs}
use Rattle.rules_server.specs.Status.{Request}
use Rattle.rules_server.specs.Answers.{answer, partial_answer}
use Rattle.rules_server.specs.declared.Run.{Run}
use Rattle.rules_tablet.specs.Limits.{max_holes}
use Rattle.rules_tablet.specs.Runs.{WellFormed, holes}
use Rattle.rules_tablet.specs.Requests.{request_text, wanted, request_of}
use Rattle.rules_tablet.specs.Calls.{State, copy_ok, request_refusal, request_lines, request_call}
use Rattle.laws_runs.proofs.Holes.{holes_formed}
use Rattle.rules_demands.specs.Demand3Sessions.{resource_of}
use Rattle.rules_demands.specs.RequestReading.{request_in}
use Rattle.rules_demands.specs.Demand1Reader.{AskingAlways}
use Rattle.rules_demands.specs.RequestServing.{RequestServed}
use Rattle.laws_reader.proofs.read_back.ReadBack.{read_behind_lem}
use Rattle.laws_exchange.proofs.calls.Answer.{copy_facts}
use Rattle.laws_exchange.proofs.completion.Gaps.{take_formed}
use Rattle.laws_exchange.proofs.completion.Asked.{asked_answer}
use Rattle.laws_exchange.proofs.completion.Round.{copy_small, asks-some}

-- a copy that writes its request keeps its rule
pub asks_rule : (c : State) (room : ℕ) → request_refusal c room ≡ None → copy_ok c ≡ true
unfolding request_refusal
asks_rule c room e = go (copy_ok c) e
  where
    go : (b : Bool) → cond b (request_of (wanted c.length c.runs) c.tag room) (Some 19) ≡ None → b ≡ true
    go true e = mathlib.Core.Path.refl
    go false e = absurd (let z : ◌≡◌ {A = ℕ} 0 1 = cc in omega arith)

pub request_served : AskingAlways → RequestServed
request_served asking c out file media boundary modified reference n e =
    let w = asks-some c (length out) e in
    go w.0 w.1 w.2
  where
    go : (h : Run) (hs : List Run) → wanted c.length c.runs ≡ h ∷ hs
        → answer (request_in (request_call c out)) (resource_of file c.tag media boundary modified reference)
        ≡ partial_answer (resource_of file c.tag media boundary modified reference) (wanted c.length c.runs)
    go h hs d =
        let f = resource_of file c.tag media boundary modified reference in
        let rule = asks_rule c (length out) e in
        let facts = copy_facts c rule in
        let text = request_text (h ∷ hs) c.tag in
        let lines : request_lines c ≡ text = rw d in
        let rest = drop (length (request_lines c)) out in
        let given : request_call c out ≡ text ++ rest = (asking c out).written e ∙ ap (λ (t : List ℕ). t ++ rest) lines in
        let read : request_in (request_call c out) ≡ request_in text = ap request_in given ∙ read_behind_lem h hs c.tag rest facts.strong in
        let formed : WellFormed 0 (length file) (h ∷ hs) =
        rw n (subst (WellFormed 0 c.length) d
        (take_formed 0 c.length max_holes (holes c.length c.runs) (holes_formed c.length c.runs facts.formed))) in
        let many : length (h ∷ hs) ≤ max_specs = omega (arith, sym (ap length d) ∙ length-take max_holes (holes c.length c.runs)) in
        let small : length file ≤ max_file = rw n (copy_small c rule) in
        ap (λ (x : Request). answer x f) read
        ∙ asked_answer file c.tag media boundary modified reference h hs facts.strong small many formed
        ∙ ap (partial_answer f) (sym d)
