-- Where the parser stands behind a front of an answer, and what comes of the next byte.
use Prim.Native.Nat.{ℕ, zero, suc, ◌+◌, ◌-◌, ◌≤◌, ◌<◌}
use mathlib.Core.Path.{◌≡◌, refl, sym, ap, subst, ◌∙◌}
use mathlib.Core.Bool.{Bool, true, false}
use mathlib.Core.List.{List, [], ◌∷◌, ◌++◌, append_assoc, map}
use native.Mathlib.Omega.{arith}
use lib.Dec.{ltb}
use lib.ListN.{length, length-append}
use borrow.Author.Tests.{ltb-true, ltb-false}
use Rattle.rules_server.specs.Limits.{max_tag}
use Rattle.rules_server.specs.Octets.{is_nil}
use Rattle.rules_server.specs.Texts.{crlf}
use Rattle.rules_server.specs.Answers.{Cell, own, from, byte_of, own_then, from_then}
use Rattle.rules_tablet.specs.Fields.{status_number}
use Rattle.rules_tablet.specs.Heads.{head_refusal}
use Rattle.rules_tablet.specs.Parsers.{Parser, with_line, head_end, parse, event}
use Rattle.rules_tablet.specs.Feeding.{is_over}
use Rattle.rules_tablet.specs.Calls.{fresh}
use Rattle.rules_tablet.specs.declared.Stage.TheVariants.{Plain, Skip, Preamble, Finished, Refused}
use Rattle.rules_tablet.specs.declared.RangeField.TheVariants.{Absent}
use Rattle.rules_tablet.specs.declared.Head.{Head}
use Rattle.rules_demands.specs.AcceptanceGrammar.{Kind, data_from, no_data, parts_under, Accepted, ok, part, many, unsatisfied, HeadText, BodyText, plain, skipped}
use Rattle.rules_demands.specs.AcceptanceGrammar.{parts, Acceptable}
use Rattle.laws_reader.proofs.own_answers.Multipart.{part_of, in_body}
use Rattle.laws_reader.proofs.own_answers.Parts.{own_length, from-length}
use Rattle.laws_refusals.proofs.acceptance.Heads.{stage_of, head-said, tag-said, boundary_said, judge, begin_is, begun_open}
use Rattle.laws_refusals.proofs.acceptance.Taking.{cell_at}
use Rattle.rules_demands.specs.RefusalHeads.{HeadFront, in_status, in_fields}
use Rattle.rules_demands.specs.RefusalParts.{Within, in_lead, position_in}
use Rattle.rules_demands.specs.RefusalFronts.{Front, in_head, in_plain, in_skipped, in_parts, position, FormRefuses}
use Rattle.laws_refusals.proofs.refusals.Leads.{Leads, lead_none, lead_step, lead_then, own_append, own_before}
use Rattle.laws_refusals.proofs.refusals.Fields.{said, behind}
use Rattle.laws_refusals.proofs.refusals.Heads.{head-state, heading_leads, head_leads, bodyState, HeadStep, refused as head-refuses}
use Rattle.laws_refusals.proofs.refusals.Heads.{onward as head-onward, accepted as head-accepted, head_step, head-refused}
use Rattle.laws_refusals.proofs.refusals.Runs.{Runs, runs-none, runs_then, runs_one, place}
use Rattle.laws_refusals.proofs.refusals.Within.{partsState, parts_reach, open_in, event_in}
use Rattle.laws_refusals.proofs.refusals.Steps.{from-last, PartsStep, refused as parts-refuses, onward as parts-onward, ended as parts-ended, parts_step}
use Rattle.laws_refusals.proofs.refusals.PartsRefused.{parts-refused}

-- a body of parts is not empty
abbrev Sized : Kind → ℕ → Type 0
Sized (data_from p) z = Unit {0}
Sized no_data z = Unit {0}
Sized (parts_under b) z = 0 < z

-- an accepted head says so
sized : (tag : List ℕ) (n s : ℕ) (fs : List (List ℕ)) (z : ℕ) (k : Kind) → Accepted tag n s fs z k → Sized k z
sized tag n s fs z k (ok es er et ez ek) = rw ek tt
sized tag n s fs z k (part v es em er ew ef ez et ek) = rw ek tt
sized tag n s fs z k (many v es em ev er et ez ek) = rw ek ez
sized tag n s fs z k (unsatisfied es ek) = rw ek tt

module _ (tag : List ℕ) (n : ℕ) where
  -- where the parser stands behind a front
  abbrev pub frontState : (cells : List Cell) → Front tag n cells → Parser
  frontState cells (in_head text f is) = head-state text f
  frontState cells (in_plain text p z l a more is) =
      in_body (Plain (p + length l)) (z - suc (length l)) (part_of 0 Absent) (head-said (status_number a.status) a.fields z) (tag-said a.fields)
      (boundary_said a.fields)
  frontState cells (in_skipped text z l a more is) =
      in_body Skip (z - suc (length l)) (part_of 0 Absent) (head-said (status_number a.status) a.fields z) (tag-said a.fields) (boundary_said a.fields)
  frontState cells (in_parts text b z body a w more is) =
      partsState tag n (head-said (status_number a.status) a.fields z) (tag-said a.fields) b z body w (z - suc (length body))

  module _ (short : length tag ≤ max_tag) where
    -- an accepted head leads to its body
    pub text_leads : (text : List ℕ) (k : Kind) (z : ℕ) (a : HeadText tag n text k z) → Leads tag n fresh (own_then text []) (bodyState tag n text k z a)
    unfolding head_end
    text_leads text k z a =
        let s = status_number a.status in
        let fs = a.fields in
        let j = judge tag n s fs z k short a.accepted in
        let z-is = a.size_is in
        let found = a.has_size_line in
        let allowed : head_refusal tag n (said s fs) (tag-said fs) ≡ 0 = rw (found, sym z-is) j.allowed in
        rw a.text
        (heading_leads tag n a.status fs crlf (bodyState tag n text k z a) a.heading
        (lead_step tag n (behind s fs) (with_line [] true (behind s fs)) (bodyState tag n text k z a) (own 13) (own 10 ∷ []) refl refl refl refl
        (lead_step tag n (with_line [] true (behind s fs)) (bodyState tag n text k z a) (bodyState tag n text k z a) (own 10) []
        (rw (allowed, found, sym z-is) (begin_is z (stage_of k) (head-said s fs z) (tag-said fs) (boundary_said fs) j.stage)) refl refl
        (begun_open z k (head-said s fs z) (tag-said fs) (boundary_said fs))
        (lead_none tag n (bodyState tag n text k z a)))))

    -- data of a body without parts
    plain-runs : (h : Head) (t b l : List ℕ) (p q : ℕ) → q ≡ p + length l
        → Runs tag n (from_then p l []) (place tag n h t b (Plain p) (part_of 0 Absent)) (place tag n h t b (Plain q) (part_of 0 Absent))
    plain-runs h t b [] p q e =
        let same : q ≡ p = omega arith in
        rw same (runs-none tag n (place tag n h t b (Plain p) (part_of 0 Absent)))
    plain-runs h t b (x ∷ l) p q e =
        runs_then tag n (from p x ∷ []) (from_then (suc p) l []) (place tag n h t b (Plain p) (part_of 0 Absent))
        (place tag n h t b (Plain (suc p)) (part_of 0 Absent)) (place tag n h t b (Plain q) (part_of 0 Absent))
        (runs_one tag n (from p x) (place tag n h t b (Plain p) (part_of 0 Absent)) (place tag n h t b (Plain (suc p)) (part_of 0 Absent)) (λ k. refl)
        (λ k. refl) (λ k. refl) (λ k. refl))
        (plain-runs h t b l (suc p) q (omega arith))

    -- bytes that are skipped
    skip_runs : (h : Head) (t b l : List ℕ) → Runs tag n (own_then l []) (place tag n h t b Skip (part_of 0 Absent)) (place tag n h t b Skip (part_of 0 Absent))
    skip_runs h t b [] = runs-none tag n (place tag n h t b Skip (part_of 0 Absent))
    skip_runs h t b (x ∷ l) =
        runs_then tag n (own x ∷ []) (own_then l []) (place tag n h t b Skip (part_of 0 Absent)) (place tag n h t b Skip (part_of 0 Absent))
        (place tag n h t b Skip (part_of 0 Absent))
        (runs_one tag n (own x) (place tag n h t b Skip (part_of 0 Absent)) (place tag n h t b Skip (part_of 0 Absent)) (λ k. refl) (λ k. refl) (λ k. refl)
        (λ k. refl)) (skip_runs h t b l)

    -- a head, and some of its body
    body_leads : (text : List ℕ) (k : Kind) (z : ℕ) (a : HeadText tag n text k z) (cells body : List Cell) (r : Parser) → cells ≡ own_then text body
        → Leads tag n (bodyState tag n text k z a) body r → Leads tag n fresh cells r
    body_leads text k z a cells body r is f =
        rw (is, own_before text body) (lead_then tag n (own_then text []) body fresh (bodyState tag n text k z a) r (text_leads text k z a) f)

    -- a front leads to where the parser stands behind it
    pub front_leads : (cells : List Cell) (f : Front tag n cells) → Leads tag n fresh cells (frontState cells f)
    front_leads cells (in_head text f is) = rw is (head_leads tag n text f)
    front_leads cells (in_plain text p zero l a more is) = absurd (omega arith)
    front_leads cells (in_plain text p (suc last) l a more is) =
        let count = from-length p l [] in
        body_leads text (data_from p) (suc last) a cells (from_then p l []) (frontState cells (in_plain text p (suc last) l a more is)) is
        (plain-runs (head-said (status_number a.status) a.fields (suc last)) (tag-said a.fields) (boundary_said a.fields) l p (p + length l) refl last
        (suc last - suc (length l)) (omega arith))
    front_leads cells (in_skipped text zero l a more is) = absurd (omega arith)
    front_leads cells (in_skipped text (suc last) l a more is) =
        let count = own_length l [] in
        body_leads text no_data (suc last) a cells (own_then l []) (frontState cells (in_skipped text (suc last) l a more is)) is
        (skip_runs (head-said (status_number a.status) a.fields (suc last)) (tag-said a.fields) (boundary_said a.fields) l last
        (suc last - suc (length l)) (omega arith))
    front_leads cells (in_parts text b zero body a w more is) = absurd (omega arith)
    front_leads cells (in_parts text b (suc last) body a w more is) =
        let h = head-said (status_number a.status) a.fields (suc last) in
        let t = tag-said a.fields in
        let same : boundary_said a.fields ≡ b = (judge tag n (status_number a.status) a.fields (suc last) (parts_under b) short a.accepted).boundary in
        let r = parts_reach tag n h t b last body w (suc last - suc (length body)) (omega arith) in
        body_leads text (parts_under b) (suc last) a cells body (frontState cells (in_parts text b (suc last) body a w more is)) is
        (subst (λ (c : List ℕ). Leads tag n (in_body (Preamble 0) last (part_of 0 Absent) h t c) body
        (frontState cells (in_parts text b (suc last) body a w more is))) (sym same) r)

    -- what comes of the byte x behind a front
    pub data FrontStep (cells : List Cell) (f : Front tag n cells) (x : ℕ) : Type 0 where
      refused : (k : ℕ) → FormRefuses tag n cells f x k → FrontStep cells f x
      onward : Front tag n (cells ++ (cell_at (position tag n cells f) x ∷ [])) → FrontStep cells f x
      ended : Acceptable tag n (map byte_of (cells ++ (cell_at (position tag n cells f) x ∷ []))) (cells ++ (cell_at (position tag n cells f) x ∷ []))
          → (parse tag n (frontState cells f).stage x (frontState cells f)).stage ≡ Finished → FrontStep cells f x

    -- a head and a whole body
    acceptable_is : (text : List ℕ) (k : Kind) (z : ℕ) (cells body : List Cell) → HeadText tag n text k z → BodyText n z k body → cells ≡ own_then text body
        → Acceptable tag n (map byte_of cells) cells
    acceptable_is text k z cells body a q is =
        record { kind = k; size = z; head_bytes = text; body_cells = body; head = a; body = q; cells_are = is; text = refl }

    -- one byte more behind a head and some of its body
    pub behind_text : (cells : List Cell) (text : List ℕ) (body : List Cell) (c : Cell) → cells ≡ own_then text body
        → cells ++ (c ∷ []) ≡ own_then text (body ++ (c ∷ []))
    behind_text cells text body c is =
        ap (λ (l : List Cell). l ++ (c ∷ [])) (is ∙ own_before text body) ∙ append_assoc (own_then text []) body (c ∷ [])
        ∙ sym (own_before text (body ++ (c ∷ [])))

    -- behind a head: the answer ends, or its body begins
    begins : (cells : List Cell) (text : List ℕ) (f : HeadFront text) (is : cells ≡ own_then text []) (x : ℕ) (k : Kind) (z : ℕ)
        (a : HeadText tag n (text ++ (x ∷ [])) k z)
        → parse tag n (head-state text f).stage x (head-state text f) ≡ bodyState tag n (text ++ (x ∷ [])) k z a → FrontStep cells (in_head text f is) x
    begins cells text f is x k z a e = go k z a e
      where
        whole : (k : Kind) (z : ℕ) (a : HeadText tag n (text ++ (x ∷ [])) k z) (body : List Cell) → BodyText n z k body
            → cells ++ (own x ∷ []) ≡ own_then (text ++ (x ∷ [])) body
            → Acceptable tag n (map byte_of (cells ++ (own x ∷ []))) (cells ++ (own x ∷ []))
        whole k z a body q e = acceptable_is (text ++ (x ∷ [])) k z (cells ++ (own x ∷ [])) body a q e

        longer : cells ++ (own x ∷ []) ≡ own_then (text ++ (x ∷ [])) []
        longer = ap (λ (c : List Cell). c ++ (own x ∷ [])) is ∙ sym (own_before text (own x ∷ [])) ∙ sym (own_append text (x ∷ []) [])

        go : (k : Kind) (z : ℕ) (a : HeadText tag n (text ++ (x ∷ [])) k z)
            → parse tag n (head-state text f).stage x (head-state text f) ≡ bodyState tag n (text ++ (x ∷ [])) k z a → FrontStep cells (in_head text f is) x
        go (data_from p) zero a e = ended (whole (data_from p) 0 a [] (plain p [] refl refl refl) longer) (ap (λ (q : Parser). q.stage) e)
        go no_data zero a e = ended (whole no_data 0 a [] (skipped [] refl refl refl) longer) (ap (λ (q : Parser). q.stage) e)
        go (parts_under b) zero a e = absurd (omega (arith, sized tag n (status_number a.status) a.fields 0 (parts_under b) a.accepted))
        go (data_from p) (suc last) a e = onward (in_plain (text ++ (x ∷ [])) p (suc last) [] a (omega arith) longer)
        go no_data (suc last) a e = onward (in_skipped (text ++ (x ∷ [])) (suc last) [] a (omega arith) longer)
        go (parts_under b) (suc last) a e = onward (in_parts (text ++ (x ∷ [])) b (suc last) [] a (in_lead 0 (omega arith) refl) (omega arith) longer)

    module _ (some-tag : is_nil tag ≡ false) where
      -- a byte of the head
      head-front : (cells : List Cell) (text : List ℕ) (f : HeadFront text) (is : cells ≡ own_then text []) (x : ℕ) → FrontStep cells (in_head text f is) x
      head-front cells text f is x = go (head_step tag n some-tag short text f x)
        where
          go : HeadStep tag n text f x → FrontStep cells (in_head text f is) x
          go (head-refuses k q) = refused k q
          go (head-onward g e) = onward (in_head (text ++ (x ∷ [])) g
              (ap (λ (c : List Cell). c ++ (own x ∷ [])) is ∙ sym (own_before text (own x ∷ [])) ∙ sym (own_append text (x ∷ []) [])))
          go (head-accepted k z a e) = begins cells text f is x k z a e

      -- a byte of a 200's or a plain 206's body
      plain-front : (cells : List Cell) (text : List ℕ) (p z : ℕ) (l : List ℕ) (a : HeadText tag n text (data_from p) z) (more : length l < z)
          (is : cells ≡ own_then text (from_then p l [])) (x : ℕ)
          → FrontStep cells (in_plain text p z l a more is) x
      plain-front cells text p z l a more is x = go (ltb (suc (length l)) z) refl
        where
          there : cells ++ (from (p + length l) x ∷ []) ≡ own_then text (from_then p (l ++ (x ∷ [])) [])
          there = behind_text cells text (from_then p l []) (from (p + length l) x) is ∙ ap (own_then text) (from-last p (p + length l) l x refl)

          go : (u : Bool) → ltb (suc (length l)) z ≡ u → FrontStep cells (in_plain text p z l a more is) x
          go true e =
              let less = ltb-true (suc (length l)) z e in
              let count = length-append l (x ∷ []) in
              onward (in_plain text p z (l ++ (x ∷ [])) a (omega arith) there)
          go false e =
              let less = ltb-false (suc (length l)) z e in
              let count = length-append l (x ∷ []) in
              let none-left : z - suc (length l) ≡ 0 = omega arith in
              ended (acceptable_is text (data_from p) z (cells ++ (from (p + length l) x ∷ [])) (from_then p (l ++ (x ∷ [])) []) a
              (plain p (l ++ (x ∷ [])) refl (omega arith) refl) there) (rw none-left)

      -- a byte of a 416's body
      skipped-front : (cells : List Cell) (text : List ℕ) (z : ℕ) (l : List ℕ) (a : HeadText tag n text no_data z) (more : length l < z)
          (is : cells ≡ own_then text (own_then l [])) (x : ℕ) → FrontStep cells (in_skipped text z l a more is) x
      skipped-front cells text z l a more is x = go (ltb (suc (length l)) z) refl
        where
          there : cells ++ (own x ∷ []) ≡ own_then text (own_then (l ++ (x ∷ [])) [])
          there = behind_text cells text (own_then l []) (own x) is ∙ ap (own_then text) (sym (own_before l (own x ∷ [])) ∙ sym (own_append l (x ∷ []) []))

          go : (u : Bool) → ltb (suc (length l)) z ≡ u → FrontStep cells (in_skipped text z l a more is) x
          go true e =
              let less = ltb-true (suc (length l)) z e in
              let count = length-append l (x ∷ []) in
              onward (in_skipped text z (l ++ (x ∷ [])) a (omega arith) there)
          go false e =
              let less = ltb-false (suc (length l)) z e in
              let count = length-append l (x ∷ []) in
              let none-left : z - suc (length l) ≡ 0 = omega arith in
              ended (acceptable_is text no_data z (cells ++ (own x ∷ [])) (own_then (l ++ (x ∷ [])) []) a
              (skipped (l ++ (x ∷ [])) refl (omega arith) refl) there) (rw none-left)

      -- a byte of a multipart's body
      parts-front : (cells : List Cell) (text b : List ℕ) (z : ℕ) (body : List Cell) (a : HeadText tag n text (parts_under b) z) (w : Within n b z body)
          (more : length body < z) (is : cells ≡ own_then text body) (x : ℕ)
          → FrontStep cells (in_parts text b z body a w more is) x
      parts-front cells text b zero body a w more is x = absurd (omega arith)
      parts-front cells text b (suc last) body a w more is x =
          go (parts_step tag n (head-said (status_number a.status) a.fields (suc last)) (tag-said a.fields) b last body w x
          (suc last - suc (length body)) (omega arith))
        where
          go : PartsStep tag n (head-said (status_number a.status) a.fields (suc last)) (tag-said a.fields) b last body w x
              (suc last - suc (length body)) → FrontStep cells (in_parts text b (suc last) body a w more is) x
          go (parts-refuses k q) = refused k q
          go (parts-onward j e g) =
              let count = length-append body (cell_at (position_in n b (suc last) body w) x ∷ []) in
              onward (in_parts text b (suc last) (body ++ (cell_at (position_in n b (suc last) body w) x ∷ [])) a g (omega arith)
              (behind_text cells text body (cell_at (position_in n b (suc last) body w) x) is))
          go (parts-ended e q f) =
              let c = cell_at (position_in n b (suc last) body w) x in
              let count = length-append body (c ∷ []) in
              ended (acceptable_is text (parts_under b) (suc last) (cells ++ (c ∷ [])) (body ++ (c ∷ [])) a (parts b refl (omega arith) q)
              (behind_text cells text body c is)) f

      -- every byte behind a front
      pub front_step : (cells : List Cell) (f : Front tag n cells) (x : ℕ) → FrontStep cells f x
      front_step cells (in_head text f is) x = head-front cells text f is x
      front_step cells (in_plain text p z l a more is) x = plain-front cells text p z l a more is x
      front_step cells (in_skipped text z l a more is) x = skipped-front cells text z l a more is x
      front_step cells (in_parts text b z body a w more is) x = parts-front cells text b z body a w more is x

      -- what a front refuses, the parser refuses
      pub front-refused : (cells : List Cell) (f : Front tag n cells) (x k : ℕ) → FormRefuses tag n cells f x k
          → (parse tag n (frontState cells f).stage x (frontState cells f)).stage ≡ Refused k
      front-refused cells (in_head text f is) x k q = head-refused tag n some-tag short text f x k q
      front-refused cells (in_plain text p z l a more is) x k q = absurd q
      front-refused cells (in_skipped text z l a more is) x k q = absurd q
      front-refused cells (in_parts text b zero body a w more is) x k q = absurd (omega arith)
      front-refused cells (in_parts text b (suc last) body a w more is) x k q =
          parts-refused tag n (head-said (status_number a.status) a.fields (suc last)) (tag-said a.fields) b last body w x
          (suc last - suc (length body)) k (omega arith) q

    -- the parser is not over behind a front
    pub front_open : (cells : List Cell) (f : Front tag n cells) → is_over (frontState cells f).stage ≡ false
    unfolding fresh
    front_open cells (in_head text (in_status l cr line q) is) = refl
    front_open cells (in_head text (in_fields status fields l cr heading line q) is) = refl
    front_open cells (in_plain text p z l a more is) = refl
    front_open cells (in_skipped text z l a more is) = refl
    front_open cells (in_parts text b z body a w more is) = open_in n b z body w

    -- and its event is the position there
    pub front-event : (cells : List Cell) (f : Front tag n cells) → event (frontState cells f).stage ≡ position tag n cells f
    unfolding fresh
    front-event cells (in_head text (in_status l cr line q) is) = refl
    front-event cells (in_head text (in_fields status fields l cr heading line q) is) = refl
    front-event cells (in_plain text p z l a more is) = refl
    front-event cells (in_skipped text z l a more is) = refl
    front-event cells (in_parts text b z body a w more is) = event_in n b z body w
