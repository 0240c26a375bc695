-- The parser follows an acceptable answer to its end: all but its last byte is a front. So it is taken whole where its data agrees.
use Prim.Native.Nat.{ℕ, zero, suc, ◌+◌, ◌-◌, ◌≤◌, ◌<◌}
use mathlib.Core.Path.{◌≡◌, refl, sym, ap, subst, ◌∙◌}
use mathlib.Core.List.{List, [], ◌∷◌, ◌++◌, append_assoc}
use native.Mathlib.Omega.{arith}
use lib.ListN.{length, length-append, length-map}
use Rattle.rules_server.specs.Limits.{max_tag}
use Rattle.rules_server.specs.Texts.{dashes}
use Rattle.rules_server.specs.Answers.{Cell, own, from, byte_of, own_then, from_then}
use Rattle.rules_tablet.specs.Parsers.{Parser, parse, is_refused}
use Rattle.rules_tablet.specs.Feeding.{Fed, feed}
use Rattle.rules_tablet.specs.Calls.{fresh}
use Rattle.rules_tablet.specs.declared.Stage.TheVariants.{Finished}
use Rattle.rules_demands.specs.AcceptanceGrammar.{Kind, data_from, no_data, parts_under, HeadText, BodyText, plain, skipped, parts}
use Rattle.rules_demands.specs.AcceptanceByParser.{AcceptableFollowed}
use Rattle.rules_demands.specs.FeedingFollowed.{position_of, next, Tracks, after}
use Rattle.rules_demands.specs.AcceptanceByCopy.{AcceptableTaken}
use Rattle.laws_refusals.proofs.acceptance.Taking.{feed_agrees}
use Rattle.rules_demands.specs.RefusalParts.{Within, behind_dash, behind_close}
use Rattle.rules_demands.specs.RefusalFronts.{Front, in_plain, in_skipped, in_parts, position}
use Rattle.laws_refusals.proofs.refusals.Leads.{lead_last, own_append, own_before}
use Rattle.laws_refusals.proofs.refusals.Closing.{ClosedAt, body_closed}
use Rattle.laws_refusals.proofs.refusals.Steps.{from-last}
use Rattle.laws_refusals.proofs.refusals.Fronts.{frontState, text_leads, behind_text, front_leads, front_open, front-event}

-- a list that is not empty, and its last element
record LastOf (l : List ℕ) : Type 0 where
  pub init : List ℕ
  pub last : ℕ
  pub text : l ≡ init ++ (last ∷ [])

last_of : (x : ℕ) (l : List ℕ) → LastOf (x ∷ l)
last_of x [] = record { init = []; last = x; text = refl }
last_of x (y ∷ l) = let r = last_of y l in record { init = x ∷ r.init; last = r.last; text = ap (λ (t : List ℕ). x ∷ t) r.text }

module _ (tag : List ℕ) (n : ℕ) (short : length tag ≤ max_tag) where
  -- bytes that lead to the end
  record Ends (cells : List Cell) : Type 0 where
    pub tracks : Tracks tag n fresh cells
    pub ends : (after tag n fresh cells).stage ≡ Finished

  -- a front, and a last byte behind which the parser has finished
  last-ends : (cells front : List Cell) (f : Front tag n front) (c : Cell) → cells ≡ front ++ (c ∷ []) → position tag n front f ≡ position_of c
      → (parse tag n (frontState tag n front f).stage (byte_of c) (frontState tag n front f)).stage ≡ Finished
      → Ends cells
  last-ends cells front f c is e q =
      let p = frontState tag n front f in
      let r = lead_last tag n front c fresh p (next tag n p c) (front_leads tag n short front f) refl (front_open tag n short front f)
      (front-event tag n short front f ∙ e) (ap is_refused q) in
      subst Ends (sym is) (record { tracks = r.0; ends = ap (λ (x : Parser). x.stage) r.1 ∙ q })

  -- a head without a body
  empty_ends : (text : List ℕ) (k : Kind) (cells : List Cell) → HeadText tag n text k 0 → cells ≡ own_then text [] → Ends cells
  empty_ends text k cells a is =
      let r = text_leads tag n short text k 0 a in
      subst Ends (sym is) (record { tracks = r.0; ends = ap (λ (x : Parser). x.stage) r.1 })

  -- data
  plain-ends : (text : List ℕ) (p z : ℕ) (l : List ℕ) (cells : List Cell) → HeadText tag n text (data_from p) z → length l ≡ z
      → cells ≡ own_then text (from_then p l []) → Ends cells
  plain-ends text p zero [] cells a e is = empty_ends text (data_from p) cells a is
  plain-ends text p (suc z) [] cells a e is = absurd (omega arith)
  plain-ends text p z (x ∷ l) cells a e is = go (last_of x l)
    where
      go : LastOf (x ∷ l) → Ends cells
      go r =
          let i = r.init in
          let y = r.last in
          let count = ap length r.text ∙ length-append i (y ∷ []) in
          let none-left : z - suc (length i) ≡ 0 = omega arith in
          last-ends cells (own_then text (from_then p i [])) (in_plain text p z i a (omega arith) refl) (from (p + length i) y)
          (is ∙ ap (λ (t : List ℕ). own_then text (from_then p t [])) r.text ∙ ap (own_then text) (sym (from-last p (p + length i) i y refl))
          ∙ sym (behind_text tag n short (own_then text (from_then p i [])) text (from_then p i []) (from (p + length i) y) refl))
          refl (rw none-left)

  -- a body that is skipped
  skipped-ends : (text : List ℕ) (z : ℕ) (l : List ℕ) (cells : List Cell) → HeadText tag n text no_data z → length l ≡ z → cells ≡ own_then text (own_then l [])
      → Ends cells
  skipped-ends text zero [] cells a e is = empty_ends text no_data cells a is
  skipped-ends text (suc z) [] cells a e is = absurd (omega arith)
  skipped-ends text z (x ∷ l) cells a e is = go (last_of x l)
    where
      go : LastOf (x ∷ l) → Ends cells
      go r =
          let i = r.init in
          let y = r.last in
          let count = ap length r.text ∙ length-append i (y ∷ []) in
          let none-left : z - suc (length i) ≡ 0 = omega arith in
          last-ends cells (own_then text (own_then i [])) (in_skipped text z i a (omega arith) refl) (own y)
          (is ∙ ap (λ (t : List ℕ). own_then text (own_then t [])) r.text ∙ ap (own_then text) (own_append i (y ∷ []) [] ∙ own_before i (own y ∷ []))
          ∙ sym (behind_text tag n short (own_then text (own_then i [])) text (own_then i []) (own y) refl))
          refl (rw none-left)

  -- parts
  parts-ends : (text b : List ℕ) (z : ℕ) (body cells : List Cell) → HeadText tag n text (parts_under b) z → length body ≡ z → ClosedAt n b z body
      → cells ≡ own_then text body → Ends cells
  parts-ends text b z body cells a e q is = go q.anything q.text
    where
      at_last_lem : (before : List Cell) (w : Within n b z before) (x : ℕ) → body ≡ before ++ (own x ∷ []) → (more : length before < z)
          → (f : position tag n (own_then text before) (in_parts text b z before a w more refl) ≡ position_of (own x))
          → (parse tag n (frontState tag n (own_then text before) (in_parts text b z before a w more refl)).stage x
          (frontState tag n (own_then text before) (in_parts text b z before a w more refl))).stage ≡ Finished → Ends cells
      at_last_lem before w x t more f r =
          last-ends cells (own_then text before) (in_parts text b z before a w more refl) (own x)
          (is ∙ ap (own_then text) t ∙ sym (behind_text tag n short (own_then text before) text before (own x) refl)) f r

      go : (anything : List ℕ) → body ≡ q.before ++ own_then (dashes ++ anything) [] → Ends cells
      go [] t =
          let before = q.before ++ (own 45 ∷ []) in
          let there : body ≡ before ++ (own 45 ∷ []) = t ∙ sym (append_assoc q.before (own 45 ∷ []) (own 45 ∷ [])) in
          let count = ap length there ∙ length-append before (own 45 ∷ []) in
          let none-left : z - suc (length before) ≡ 0 = omega arith in
          at_last_lem before (behind_dash q.before q.marked refl) 45 there (omega arith) refl (rw none-left)
      go (x ∷ l) t = closing (last_of x l)
        where
          closing : LastOf (x ∷ l) → Ends cells
          closing r =
              let before = q.before ++ own_then (dashes ++ r.init) [] in
              let there : body ≡ before ++ (own r.last ∷ []) =
              t ∙ ap (λ (y : List ℕ). q.before ++ own_then (dashes ++ y) []) r.text
              ∙ ap (λ (c : List Cell). q.before ++ (own 45 ∷ own 45 ∷ c))
              (own_append r.init (r.last ∷ []) [] ∙ own_before r.init (own r.last ∷ []))
              ∙ sym (append_assoc q.before (own_then (dashes ++ r.init) []) (own r.last ∷ [])) in
              let count = ap length there ∙ length-append before (own r.last ∷ []) in
              let none-left : z - suc (length before) ≡ 0 = omega arith in
              at_last_lem before (behind_close q.before r.init q.marked refl) r.last there (omega arith) refl (rw none-left)

  -- a body of each kind
  body_ends : (text : List ℕ) (k : Kind) (z : ℕ) (body cells : List Cell) → HeadText tag n text k z → BodyText n z k body → cells ≡ own_then text body
      → Ends cells
  body_ends text k z body cells a (plain p l ek el ec) is = plain-ends text p z l cells (rw ek at a) el (is ∙ ap (own_then text) ec)
  body_ends text k z body cells a (skipped l ek el ec) is = skipped-ends text z l cells (rw ek at a) el (is ∙ ap (own_then text) ec)
  body_ends text k z body cells a (parts b ek el q) is = parts-ends text b z body cells (rw ek at a) el (body_closed n b z body q el) is

-- an acceptable answer is followed
pub sound : AcceptableFollowed
sound tag n bytes cells short a =
    let e = body_ends tag n short a.head_bytes a.kind a.size a.body_cells cells a.head a.body a.cells_are in
    record { tracks = e.tracks; ends = e.ends; text = sym a.text }

-- an acceptable answer whose data agrees is taken whole
pub taken : AcceptableTaken
taken lim tag n h last bytes cells short a g =
    let s = sound tag n bytes cells short a in
    let e = feed_agrees lim tag n h last fresh cells s.tracks g in
    let r = subst (λ (l : List ℕ). feed lim tag n l
    (record { held = h; parser = fresh }) ≡ record { tablet = record { held = last; parser = after tag n fresh cells }; taken = length cells })
    s.text e in
    record {
      all = ap (λ (x : Fed). x.taken) r ∙ sym (length-map cells byte_of) ∙ ap length s.text;
      ends = ap (λ (x : Fed). x.tablet.parser.stage) r ∙ s.ends;
      holds = ap (λ (x : Fed). x.tablet.held) r;
    }
