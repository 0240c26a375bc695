-- The parser within a head: where it stands behind a front, and what it makes of the next byte.
use Prim.Native.Nat.{ℕ, zero, suc, ◌≤◌}
use mathlib.Core.Path.{◌≡◌, refl, sym, ap, subst, ◌∙◌}
use mathlib.Core.Bool.{Bool, true, false, true≢false}
use mathlib.Core.List.{List, [], ◌∷◌, ◌++◌, append_assoc, append-nil}
use Rattle.std.specs.Prelude.{Option, None, Some}
use native.Mathlib.Omega.{arith}
use lib.ListN.{length}
use Rattle.rules_server.specs.Limits.{max_tag}
use Rattle.rules_server.specs.Octets.{is_nil}
use Rattle.rules_server.specs.Texts.{crlf}
use Rattle.rules_server.specs.Numerals.{decimal}
use Rattle.rules_server.specs.Answers.{own_then, lines_then}
use Rattle.rules_tablet.specs.Fields.{is_status_line, status_number, is_field, size}
use Rattle.rules_tablet.specs.Heads.{head_refusal, broken_head}
use Rattle.rules_tablet.specs.Parsers.{Parser, with_line, field_line, status_line, head_end, parse}
use Rattle.rules_tablet.specs.Calls.{fresh}
use Rattle.rules_tablet.specs.declared.Stage.TheVariants.{Fields, Refused}
use Rattle.rules_demands.specs.AcceptanceGrammar.{Line, lookup, Kind, Heading, HeadText}
use Rattle.rules_demands.specs.RefusalLines.{so_far, this, not_this}
use Rattle.rules_demands.specs.RefusalHeads.{HeadFront, in_status, in_fields, LineFault, no_field, HeadFault, at_byte, at_line, at_empty, HeadRefuses}
use Rattle.laws_refusals.proofs.acceptance.Heads.{stage_of, head-said, tag-said, boundary_said, judge, begun, begin_is}
use Rattle.laws_refusals.proofs.acceptance.Lines.{lines-append}
use Rattle.laws_refusals.proofs.acceptance.Fields.{none-some}
use Rattle.laws_refusals.proofs.acceptance.Judging.{accepted_as, unrefused}
use Rattle.laws_refusals.proofs.refusals.Lines.{line_on, fault_breaks, OpenCase, returns, grows, breaks, EndCase, ends, open_case, end_case, line_longer}
use Rattle.laws_refusals.proofs.refusals.Lines.{none_far}
use Rattle.laws_refusals.proofs.refusals.Leads.{Leads, far_leads, whole_leads}
use Rattle.laws_refusals.proofs.refusals.Fields.{said, behind, FieldCase, faulty, longer, field_case, line_in_lem, heading_front, last_right}
use Rattle.laws_refusals.proofs.refusals.Judging.{head-says}

-- where the parser stands behind a front within the head
abbrev pub head-state : (text : List ℕ) → HeadFront text → Parser
head-state text (in_status l cr line is) = with_line l cr fresh
head-state text (in_fields status fields l cr heading line is) = with_line l cr (behind (status_number status) fields)

-- the LF of a line that makes a heading longer
line-fits : (tag : List ℕ) (n : ℕ) (status : List ℕ) (s : ℕ) (fs : List (List ℕ)) (l : List ℕ) → Heading status (fs ++ (l ∷ [])) → Line l
    → parse tag n Fields 10 (with_line l true (behind s fs)) ≡ behind s (fs ++ (l ∷ []))
unfolding is_field
line-fits tag n status s fs [] h line = absurd (last_right status fs [] h (no_field refl))
line-fits tag n status s fs (x ∷ l) h line = go (field_case status s fs (x ∷ l) (heading_front status fs ((x ∷ l) ∷ []) h) line)
  where
    go : FieldCase status s fs (x ∷ l) → field_line (x ∷ l) (with_line (x ∷ l) true (behind s fs)) ≡ behind s (fs ++ ((x ∷ l) ∷ []))
    go (faulty q e) = absurd (last_right status fs (x ∷ l) h q)
    go (longer g e) = e

-- a list with an element is not empty
pub some-none : {x : ℕ} {l : List ℕ} → x ∷ l ≡ [] → ⊥
some-none e = true≢false (sym (ap is_nil e))

-- field lines with one more, and what follows them
pub lines-last_text : (fs : List (List ℕ)) (l rest : List ℕ) → lines_then (fs ++ (l ∷ [])) rest ≡ lines_then fs (l ++ (crlf ++ rest))
lines-last_text [] l rest = refl
lines-last_text (f ∷ fs) l rest = ap (λ (x : List ℕ). f ++ (crlf ++ x)) (lines-last_text fs l rest)

module _ (tag : List ℕ) (n : ℕ) where
  -- the field lines of a heading
  fields_lead : (status : List ℕ) (s : ℕ) (rest before : List (List ℕ)) (tail : List ℕ) (r : Parser) → Heading status (before ++ rest)
      → Leads tag n (behind s (before ++ rest)) (own_then tail []) r
      → Leads tag n (behind s before) (own_then (lines_then rest tail) []) r
  fields_lead status s [] before tail r h f = rw (append-nil before) at f
  fields_lead status s (l ∷ rest) before tail r h f =
      let line = line_in_lem before rest l h.lines in
      let all = append_assoc before (l ∷ []) rest in
      let g : Heading status ((before ++ (l ∷ [])) ++ rest) = rw all h in
      let ih = fields_lead status s rest (before ++ (l ∷ [])) tail r g (rw all f) in
      whole_leads tag n (λ k m cr. with_line m cr (behind s before)) (λ k m cr. refl) (λ k m cr. refl) (λ k m cr. refl) (λ k a m c cr e. rw e) l
      (lines_then rest tail) (behind s (before ++ (l ∷ []))) r _ 0 line refl
      (line-fits tag n status s before l (heading_front status (before ++ (l ∷ [])) rest g) line) refl ih

  -- the status line
  status_leads : (status rest : List ℕ) (r : Parser) → Line status → is_status_line status ≡ true
      → Leads tag n (behind (status_number status) []) (own_then rest []) r → Leads tag n fresh (own_then (status ++ (13 ∷ 10 ∷ rest)) []) r
  unfolding fresh status_line
  status_leads status rest r line e f =
      whole_leads tag n (λ k m cr. with_line m cr fresh) (λ k m cr. refl) (λ k m cr. refl) (λ k m cr. refl) (λ k a m c cr e. rw e) status rest
      (behind (status_number status) []) r _ 0 line refl (rw e) refl f

  -- a heading, and what follows it
  pub heading_leads : (status : List ℕ) (fs : List (List ℕ)) (tail : List ℕ) (r : Parser) → Heading status fs
      → Leads tag n (behind (status_number status) fs) (own_then tail []) r
      → Leads tag n fresh (own_then (status ++ (crlf ++ lines_then fs tail)) []) r
  heading_leads status fs tail r h f = status_leads status (lines_then fs tail) r h.status_bytes h.status_formed
      (fields_lead status (status_number status) fs [] tail r h f)

  -- a front within the head leads to where the parser stands behind it
  pub head_leads : (text : List ℕ) (f : HeadFront text) → Leads tag n fresh (own_then text []) (head-state text f)
  unfolding fresh
  head_leads text (in_status l cr line is) =
      rw is (far_leads tag n (λ k m cr. with_line m cr fresh) (λ k m cr. refl) (λ k m cr. refl) (λ k m cr. refl) (λ k a m c cr e. rw e) cr l _ 0 line refl)
  head_leads text (in_fields status fields l cr heading line is) =
      let p = behind (status_number status) fields in
      rw is
      (heading_leads status fields (so_far l cr) (with_line l cr p) heading
      (far_leads tag n (λ k m cr. with_line m cr p) (λ k m cr. refl) (λ k m cr. refl) (λ k m cr. refl) (λ k a m c cr e. rw e) cr l _ 0 line refl))

  -- where the parser stands behind an accepted head
  abbrev pub bodyState : (text : List ℕ) (k : Kind) (z : ℕ) → HeadText tag n text k z → Parser
  bodyState text k z a = begun z (stage_of k) (head-said (status_number a.status) a.fields z) (tag-said a.fields) (boundary_said a.fields)

  -- what the parser makes of the next byte
  pub data HeadStep (text : List ℕ) (f : HeadFront text) (b : ℕ) : Type 0 where
    refused : (k : ℕ) → HeadRefuses tag n text f b k → HeadStep text f b
    onward : (g : HeadFront (text ++ (b ∷ []))) → parse tag n (head-state text f).stage b (head-state text f) ≡ head-state (text ++ (b ∷ [])) g
        → HeadStep text f b
    accepted : (k : Kind) (z : ℕ) (a : HeadText tag n (text ++ (b ∷ [])) k z)
        → parse tag n (head-state text f).stage b (head-state text f) ≡ bodyState (text ++ (b ∷ [])) k z a → HeadStep text f b

  -- a byte of the status line before its CR
  status_open : (text l : List ℕ) (line : Line l) (is : text ≡ l) (b : ℕ) → HeadStep text (in_status l false line is) b
  unfolding fresh
  status_open text l line is b = go (open_case l b line)
    where
      longer_text : text ++ (b ∷ []) ≡ l ++ (b ∷ [])
      longer_text = ap (λ (x : List ℕ). x ++ (b ∷ [])) is

      go : OpenCase l b → HeadStep text (in_status l false line is) b
      go (returns e) = onward (in_status l true line (longer_text ∙ ap (λ (c : ℕ). l ++ (c ∷ [])) e)) (rw e)
      go (grows h r) = onward (in_status (l ++ (b ∷ [])) false (line_longer l b line h r) longer_text) (rw (line_on l b h r))
      go (breaks q) = refused 11 (at_byte q refl)

  -- and behind it
  status_end : (text l : List ℕ) (line : Line l) (is : text ≡ l ++ (13 ∷ [])) (b : ℕ) → HeadStep text (in_status l true line is) b
  unfolding fresh status_line
  status_end text l line is b = go (end_case l b)
    where
      formed : (t : Bool) → is_status_line l ≡ t → b ≡ 10 → HeadStep text (in_status l true line is) b
      formed true e f =
          onward
          (in_fields l [] [] false
          (record {
            status_bytes = line;
            status_formed = e;
            lines = tt;
            few = omega arith;
            one_etag = omega arith;
            one_type = omega arith;
            one_range = omega arith;
            one_size = omega arith;
            no_transfer = refl;
            sizes = λ v q. absurd (none-some v q);
          })
          none_far (ap (λ (x : List ℕ). x ++ (b ∷ [])) is ∙ append_assoc l (13 ∷ []) (b ∷ []) ∙ ap (λ (c : ℕ). l ++ (13 ∷ c ∷ [])) f))
          (rw (f, e))
      formed false e f = refused 11 (at_line refl f e refl)

      go : EndCase l b → HeadStep text (in_status l true line is) b
      go (ends e) = formed (is_status_line l) refl e
      go (breaks q) = refused 11 (at_byte q refl)

  module _ (some-tag : is_nil tag ≡ false) (short : length tag ≤ max_tag) where
    module _ (text status : List ℕ) (fs : List (List ℕ)) (heading : Heading status fs) where
      -- the text with more behind its last line
      more_text : (l m : List ℕ) → text ≡ status ++ (crlf ++ lines_then fs l) → text ++ m ≡ status ++ (crlf ++ lines_then fs (l ++ m))
      more_text l m is =
          ap (λ (x : List ℕ). x ++ m) is ∙ append_assoc status (crlf ++ lines_then fs l) m ∙ ap (λ (x : List ℕ). status ++ (crlf ++ x)) (lines-append fs l m)

      -- a byte of a line before its CR
      fields_open : (l : List ℕ) (line : Line l) (is : text ≡ status ++ (crlf ++ lines_then fs l)) (b : ℕ)
          → HeadStep text (in_fields status fs l false heading line is) b
      fields_open l line is b = go (open_case l b line)
        where
          go : OpenCase l b → HeadStep text (in_fields status fs l false heading line is) b
          go (returns e) = onward (in_fields status fs l true heading line
              (more_text l (b ∷ []) is ∙ ap (λ (c : ℕ). status ++ (crlf ++ lines_then fs (l ++ (c ∷ [])))) e)) (rw e)
          go (grows h r) = onward (in_fields status fs (l ++ (b ∷ [])) false heading (line_longer l b line h r) (more_text l (b ∷ []) is))
              (rw (line_on l b h r))
          go (breaks q) = refused 11 (at_byte q refl)

      -- the text behind a whole line
      line_text : (l : List ℕ) (b : ℕ) → b ≡ 10 → text ≡ status ++ (crlf ++ lines_then fs (l ++ (13 ∷ [])))
          → text ++ (b ∷ []) ≡ status ++ (crlf ++ lines_then fs (l ++ crlf))
      line_text l b e is =
          more_text (l ++ (13 ∷ [])) (b ∷ []) is ∙ ap (λ (x : List ℕ). status ++ (crlf ++ lines_then fs x))
          (append_assoc l (13 ∷ []) (b ∷ []) ∙ ap (λ (c : ℕ). l ++ (13 ∷ c ∷ [])) e)

      -- the LF of the empty line of a head that is accepted
      empty_accepted : (line : Line []) (is : text ≡ status ++ (crlf ++ lines_then fs (13 ∷ []))) (b : ℕ) → b ≡ 10 → (v : List ℕ) → lookup size fs ≡ Some v
          → head_refusal tag n (said (status_number status) fs) (tag-said fs) ≡ 0 → HeadStep text (in_fields status fs [] true heading line is) b
      unfolding head_end
      empty_accepted line is b f v e z =
          let s = status_number status in
          let g : head_refusal tag n (head-said s fs (decimal v)) (tag-said fs) ≡ 0 = rw e at z in
          let a = accepted_as tag n fs (decimal v) some-tag s g in
          let j = judge tag n s fs (decimal v) a.kind short a.accepted in
          accepted a.kind (decimal v)
          (record {
            status = status;
            fields = fs;
            length_value = v;
            heading = heading;
            has_size_line = e;
            size_is = refl;
            accepted = a.accepted;
            text = line_text [] b f is;
          })
          (rw (f, z, e) (begin_is (decimal v) (stage_of a.kind) (head-said s fs (decimal v)) (tag-said fs) (boundary_said fs) j.stage))

      -- a head without Content-Length is refused
      unsized_never : lookup size fs ≡ None → head_refusal tag n (said (status_number status) fs) (tag-said fs) ≡ 0 → ⊥
      unfolding broken_head
      unsized_never e z = true≢false (rw e at (unrefused tag n (said (status_number status) fs) (tag-said fs) z).broken)

      -- the LF of the empty line
      empty_end : (line : Line []) (is : text ≡ status ++ (crlf ++ lines_then fs (13 ∷ []))) (b : ℕ) → b ≡ 10
          → HeadStep text (in_fields status fs [] true heading line is) b
      empty_end line is b f = go (head_refusal tag n (said (status_number status) fs) (tag-said fs)) refl
        where
          sized : (o : Option (List ℕ)) → lookup size fs ≡ o → head_refusal tag n (said (status_number status) fs) (tag-said fs) ≡ 0
              → HeadStep text (in_fields status fs [] true heading line is) b
          sized None e z = absurd (unsized_never e z)
          sized (Some v) e z = empty_accepted line is b f v e z

          go : (r : ℕ) → head_refusal tag n (said (status_number status) fs) (tag-said fs) ≡ r → HeadStep text (in_fields status fs [] true heading line is) b
          go zero e = sized (lookup size fs) refl e
          go (suc k) e =
              refused (suc k)
              (at_empty refl f refl (subst (HeadFault tag n (status_number status) fs) e
              ((head-says tag n (status_number status) fs some-tag short).some_fault (λ q. absurd (omega arith)))))

      -- the LF of a line that is not empty
      line_end_lem : (x : ℕ) (l : List ℕ) (line : Line (x ∷ l)) (is : text ≡ status ++ (crlf ++ lines_then fs ((x ∷ l) ++ (13 ∷ [])))) (b : ℕ) → b ≡ 10
          → HeadStep text (in_fields status fs (x ∷ l) true heading line is) b
      line_end_lem x l line is b f = go (field_case status (status_number status) fs (x ∷ l) heading line)
        where
          go : FieldCase status (status_number status) fs (x ∷ l) → HeadStep text (in_fields status fs (x ∷ l) true heading line is) b
          go (faulty q e) = refused 11 (at_line refl f (λ z. some-none z) q refl)
          go (longer g e) =
              onward (in_fields status (fs ++ ((x ∷ l) ∷ [])) [] false g none_far
              (line_text (x ∷ l) b f is ∙ ap (λ (y : List ℕ). status ++ (crlf ++ y)) (sym (lines-last_text fs (x ∷ l) [])))) (rw f e)

      -- a byte behind the CR of a line
      fields_end : (l : List ℕ) (line : Line l) (is : text ≡ status ++ (crlf ++ lines_then fs (l ++ (13 ∷ [])))) (b : ℕ)
          → HeadStep text (in_fields status fs l true heading line is) b
      fields_end l line is b = go (end_case l b)
        where
          whole-line : (l : List ℕ) (line : Line l) (is : text ≡ status ++ (crlf ++ lines_then fs (l ++ (13 ∷ [])))) → b ≡ 10
              → HeadStep text (in_fields status fs l true heading line is) b
          whole-line [] line is f = empty_end line is b f
          whole-line (x ∷ l) line is f = line_end_lem x l line is b f

          go : EndCase l b → HeadStep text (in_fields status fs l true heading line is) b
          go (ends f) = whole-line l line is f
          go (breaks q) = refused 11 (at_byte q refl)

    -- every byte behind a front within the head is refused, goes on within the head, or ends it
    pub head_step : (text : List ℕ) (f : HeadFront text) (b : ℕ) → HeadStep text f b
    head_step text (in_status l false line is) b = status_open text l line is b
    head_step text (in_status l true line is) b = status_end text l line is b
    head_step text (in_fields status fs l false heading line is) b = fields_open text status fs heading l line is b
    head_step text (in_fields status fs l true heading line is) b = fields_end text status fs heading l line is b

    -- a line with a fault is refused
    fault_refused : (status : List ℕ) (s : ℕ) (fs : List (List ℕ)) (l : List ℕ) → Heading status fs → Line l → LineFault fs l
        → (field_line l (with_line l true (behind s fs))).stage ≡ Refused 11
    fault_refused status s fs l h line q = go (field_case status s fs l h line)
      where
        go : FieldCase status s fs l → (field_line l (with_line l true (behind s fs))).stage ≡ Refused 11
        go (faulty p e) = rw e
        go (longer g e) = absurd (last_right status fs l g q)

    -- a number at the empty line is not 0
    fault_some : (s : ℕ) (fs : List (List ℕ)) → HeadFault tag n s fs 0 → ⊥
    fault_some s fs (this a e) = omega arith
    fault_some s fs (not_this a (this b e)) = omega arith
    fault_some s fs (not_this a (not_this b (this c e))) = omega arith
    fault_some s fs (not_this a (not_this b (not_this c (this d e)))) = omega arith
    fault_some s fs (not_this a (not_this b (not_this c (not_this d (this e f))))) = omega arith
    fault_some s fs (not_this a (not_this b (not_this c (not_this d (not_this e f))))) = f

    -- a fault at the empty line is refused
    empty_refused : (s : ℕ) (fs : List (List ℕ)) (k : ℕ) → HeadFault tag n s fs k → (head_end tag n (with_line [] true (behind s fs))).stage ≡ Refused k
    unfolding head_end
    empty_refused s fs zero q = absurd (fault_some s fs q)
    empty_refused s fs (suc k) q = rw ((head-says tag n s fs some-tag short).same (suc k) q)

    -- what a front within the head refuses, the parser refuses
    pub head-refused : (text : List ℕ) (f : HeadFront text) (b k : ℕ) → HeadRefuses tag n text f b k
        → (parse tag n (head-state text f).stage b (head-state text f)).stage ≡ Refused k
    unfolding fresh status_line
    head-refused text (in_status l cr line is) b k (at_byte q e) = rw (fault_breaks l b cr q, e)
    head-refused text (in_status l cr line is) b k (at_line c f g e) = rw (c, f, g, e)
    head-refused text (in_fields status fs l cr heading line is) b k (at_byte q e) = rw (fault_breaks l b cr q, e)
    head-refused text (in_fields status fs [] cr heading line is) b k (at_line c f ne q e) = absurd (ne refl)
    head-refused text (in_fields status fs (x ∷ l) cr heading line is) b k (at_line c f ne q e) =
        rw (c, f, e) (fault_refused status (status_number status) fs (x ∷ l) heading line q)
    head-refused text (in_fields status fs l cr heading line is) b k (at_empty c f g q) = rw (c, f, g) (empty_refused (status_number status) fs k q)
