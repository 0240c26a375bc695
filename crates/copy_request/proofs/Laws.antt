-- What is said of a request, for ranges and for a copy. Assumes nothing.
use Rattle.std.proofs.Common.{◌≡◌, ℕ, ◌-◌, ◌≤◌, ◌<◌, min, Bool, true, false, cond, leb, ltb, List, [], ◌∷◌, length, take, refl, sym, ap, ◌∙◌, arith}
use Rattle.std.proofs.Math.Seq.{take_all}
use Rattle.std.specs.Prelude.{None, Some, Result, Ok, Err}
use borrow.Author.Tests.{lt-ltb, le-ltb, leb-true, leb-false}
use Rattle.rules_server.specs.declared.Run.{Run}
use Rattle.writing.specs.Window.{Window, write}
use Rattle.writing.specs.Measures.{enormous}
use Rattle.writing.proofs.window.Laws.{whole}
use Rattle.rules_tablet.specs.Limits.{max_holes}
use Rattle.rules_tablet.specs.Runs.{holes}
use Rattle.rules_tablet.specs.Requests.{request_text, wanted, request_of}
use Rattle.rules_tablet.specs.Copies.{runs_of, copy_rule}
use Rattle.rules_tablet.specs.Calls.{request_refusal, request_call}
use Rattle.rules_tablet.specs.declared.Copy.{Copy}
use Rattle.copy.specs.Holes.{holes_in, HolesOf}
use Rattle.copy.specs.declared.holes.HoleList.{HoleList}
use Rattle.copy.proofs.Laws.{rule_ok}
use Rattle.copy_request.specs.Requested.{ranges_outcome, ranges_bytes, request_outcome, request_bytes}

-- no range: refusal 18
pub none-refuses : (rs : List Run) (tag out : List ℕ) → length rs ≡ 0 → (Err 18 ≡ ranges_outcome rs tag (length out)) × (out ≡ ranges_bytes rs tag out)
unfolding ranges_outcome ranges_bytes
none-refuses [] tag out h = (refl, refl)
none-refuses (r ∷ rs) tag out h = absurd (omega arith)

-- with a range, the room decides
room_decides : (rs : List Run) (tag : List ℕ) (room : ℕ) → 1 ≤ length rs
    → request_of rs tag room ≡ cond (ltb room (length (request_text rs tag))) (Some 20) None
room_decides [] tag room h = absurd (omega arith)
room_decides (r ∷ rs) tag room h = refl

-- ranges under a tag, and n, the length of the request for them, up to an enormous number, which no buffer reaches
module _ (rs : List Run) (tag out : List ℕ) (n : ℕ) (some_range : 1 ≤ length rs) (measured : n ≡ enormous - (enormous - length (request_text rs tag)))
    (real : length out < enormous) where
  -- refusal 20
  pub room_refuses : length out < n → (Err 20 ≡ ranges_outcome rs tag (length out)) × (out ≡ ranges_bytes rs tag out)
  unfolding ranges_outcome ranges_bytes
  room_refuses h =
      let r : request_of rs tag (length out) ≡ Some 20 = room_decides rs tag (length out) some_range
      ∙ (rw (lt-ltb (length out) (length (request_text rs tag)) (omega arith))) in
      (rw r, rw r)

  -- no refusal: the request stands at the front of the buffer, and what lies beyond stays
  pub writes : n ≤ length out → {v : Window} → v ≡ write (request_text rs tag) (record { bytes = out; skip = 0; at = 0 })
      → (Ok n ≡ ranges_outcome rs tag (length out)) × (v.bytes ≡ ranges_bytes rs tag out)
  unfolding ranges_outcome ranges_bytes
  writes h e =
      let exact : n ≡ length (request_text rs tag) = omega arith in
      let fits : length (request_text rs tag) ≤ length out = omega arith in
      let r : request_of rs tag (length out) ≡ None = room_decides rs tag (length out) some_range
      ∙ (rw (le-ltb (length out) (length (request_text rs tag)) fits)) in
      (rw (r, exact), rw r (ap (λ (w : Window). w.bytes) (e ∙ whole (request_text rs tag) out fits)))

-- the record breaks its rule: refusal 19
pub rule_refuses : (c : Copy) (out : List ℕ) (k : ℕ) → copy_rule c ≡ false → k ≡ 19 → (Err k ≡ request_outcome c (length out)) × (out ≡ request_bytes c out)
unfolding request_outcome request_bytes
rule_refuses c out k rule e = (rw (rule, e), rw rule)

-- a copy whose record keeps its rule, its holes, and what is said of the request for the first of these and what the buffer then holds
pub for_holes : (c : Copy) (h : HoleList) (rs : List Run) (k : ℕ) (out out' : List ℕ) (r : Result ℕ ℕ) → HolesOf c h → rs ≡ holes_in h → k ≡ min (length rs) 64
    → r ≡ ranges_outcome (take k rs) (take c.tag_len c.tag) (length out) → out' ≡ ranges_bytes (take k rs) (take c.tag_len c.tag) out
    → (r ≡ request_outcome c (length out)) × (out' ≡ request_bytes c out)
unfolding ranges_outcome ranges_bytes request_outcome request_bytes request_refusal request_call
for_holes c h rs k out out' r holed e m says writes =
    let ok = rule_ok c holed.rule in
    let listed : rs ≡ holes c.length (runs_of c) = e ∙ holed.holes in
    let asked : take k rs ≡ wanted c.length (runs_of c) = first ∙ ap (take max_holes) listed in (
      says ∙ ap (λ (l : List Run). ranges_outcome l (take c.tag_len c.tag) (length out)) asked ∙ (rw (holed.rule, ok)),
      writes ∙ ap (λ (l : List Run). ranges_bytes l (take c.tag_len c.tag) out) asked ∙ (rw (holed.rule, ok)),
    )
  where
    first : take k rs ≡ take max_holes rs
    first = go (leb (length rs) 64) refl
      where
        go : (b : Bool) → leb (length rs) 64 ≡ b → take k rs ≡ take max_holes rs
        go true t = take_all k rs (omega (arith, leb-true (length rs) 64 t)) ∙ sym (take_all 64 rs (leb-true (length rs) 64 t))
        go false t = let q : k ≡ 64 = omega (arith, leb-false (length rs) 64 t) in ap (λ (n : ℕ). take n rs) q
