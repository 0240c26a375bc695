-- What a front within a multipart refuses, the parser refuses.
use Prim.Native.Nat.{ℕ, zero, suc, ◌+◌, ◌<◌}
use mathlib.Core.Path.{◌≡◌, refl, sym, ap, ◌∙◌}
use mathlib.Core.Logic.{◌⊎◌, inl, inr}
use mathlib.Core.Bool.{Bool, true, false, cond}
use mathlib.Core.List.{List, [], ◌∷◌, ◌++◌}
use native.Mathlib.Omega.{arith}
use lib.Dec.{eqb, ltb}
use lib.ListN.{length, get_or}
use lib.Seq.{get_or_at}
use borrow.Author.Tests.{eqb-true, ne_eqb, ltb-true}
use Rattle.rules_server.specs.Texts.{crlf}
use Rattle.rules_server.specs.Answers.{Cell, dash_boundary}
use Rattle.rules_tablet.specs.Limits.{max_preamble}
use Rattle.rules_tablet.specs.Parsers.{Parser, at, refuse, delimiter_step, part_step, part_line, part_end, last_byte, count_byte, parse}
use Rattle.rules_tablet.specs.Lines.{line_step}
use Rattle.rules_tablet.specs.declared.Stage.{Stage}
use Rattle.rules_tablet.specs.declared.Stage.TheVariants.{Preamble, PreambleEnd, FirstDelimiter, Delimiter, AfterFirstDelimiter, AfterDelimiter, PartBegin}
use Rattle.rules_tablet.specs.declared.Stage.TheVariants.{Closing, Refused}
use Rattle.rules_tablet.specs.declared.Head.{Head}
use Rattle.rules_tablet.specs.declared.PartHead.{PartHead}
use Rattle.rules_demands.specs.AcceptanceGrammar.{Line}
use Rattle.laws_reader.proofs.own_answers.Multipart.{in_body}
use Rattle.rules_demands.specs.RefusalParts.{PartHeading, Within, in_lead, in_lead_end, in_mark, behind_mark, behind_cr, behind_dash, in_line, in_data}
use Rattle.rules_demands.specs.RefusalParts.{behind_data, behind_close, PartLineFault, PartFault, LineRefuses, at_byte, at_line, at_empty, cut_short, Misfit}
use Rattle.rules_demands.specs.RefusalParts.{cannot_fit, WithinRefuses}
use Rattle.laws_refusals.proofs.refusals.Lines.{fault_breaks, line_on, OpenCase, returns, grows, breaks, EndCase, ends, open_case, end_case}
use Rattle.laws_refusals.proofs.refusals.PartFields.{in_part, PartCase, faulty, longer, part_case, part_last_right}
use Rattle.laws_refusals.proofs.refusals.PartJudging.{part_says, part_fault_some, part_end_is}
use Rattle.laws_refusals.proofs.refusals.Within.{partsState, stage_in, fork, part_before}

-- a refusal stays, whatever is counted
stays : (k m : ℕ) (p : Parser) → (count_byte k (refuse m p)).stage ≡ Refused m
stays zero m p = refl
stays (suc k) m p = refl

-- a place where the last counted byte may not be
abbrev Mid : Parser → Type 0
Mid q = (last_byte q.stage q).stage ≡ Refused 15

-- either of two
mid_either : (u : Bool) (p q : Parser) → Mid p → Mid q → Mid (cond u p q)
mid_either true p q e f = e
mid_either false p q e f = f

-- a byte that is refused, or the last counted one
misfit_refused : (fit : Type 0) (z before k : ℕ) (q : Parser) → Misfit fit z before → z ≡ before + k → Mid q → ((fit → ⊥) → (count_byte k q).stage ≡ Refused 15)
    → (count_byte k q).stage ≡ Refused 15
misfit_refused fit z before k q (cannot_fit f) e mid g = g f
misfit_refused fit z before zero q (cut_short f) e mid g = mid
misfit_refused fit z before (suc k) q (cut_short f) e mid g = absurd (omega arith)

-- one byte that is wanted
wanted-refused : (want x z before k : ℕ) (p q : Parser) → Misfit (x ≡ want) z before → z ≡ before + k → Mid q
    → (count_byte k (cond (eqb x want) q (refuse 15 p))).stage ≡ Refused 15
wanted-refused want x z before k p q m e mid =
    misfit_refused (x ≡ want) z before k (cond (eqb x want) q (refuse 15 p)) m e (mid_either (eqb x want) q (refuse 15 p) mid refl)
    (λ f. rw (ne_eqb x want f) (stays k 15 p))

module _ (tag : List ℕ) (n : ℕ) (h : Head) (t b : List ℕ) (last : ℕ) where
  -- a byte of a delimiter
  mark-refused : (seen : List ℕ) (c : ℕ) (more : List ℕ) (i : ℕ) (s : Stage) (on : ℕ → Stage) (end : Stage) (x before k : ℕ) (y : PartHead)
      → crlf ++ dash_boundary b ≡ seen ++ (c ∷ more) → i ≡ length seen
      → Misfit (x ≡ c) (suc last) before → suc last ≡ before + k → Mid (in_body end k y h t b) → Mid (in_body (on (suc i)) k y h t b)
      → (count_byte k (delimiter_step i on end x (in_body s k y h t b))).stage ≡ Refused 15
  mark-refused seen c more i s on end x before k y is e m f last-mid mid =
      let p = in_body s k y h t b in
      let here : get_or (crlf ++ dash_boundary b) i 0 ≡ c = ap (λ (l : List ℕ). get_or l i 0) is ∙ get_or_at seen c more 0 i (sym e) in
      rw here
      (wanted-refused c x (suc last) before k p (cond (eqb (suc i) (length (crlf ++ dash_boundary b))) (at end p) (at (on (suc i)) p)) m f
      (mid_either (eqb (suc i) (length (crlf ++ dash_boundary b))) (at end p) (at (on (suc i)) p) last-mid mid))

  -- behind a mark
  fork_refused : (parts : Bool) (x k before : ℕ) (y : PartHead) → Misfit ((x ≡ 13) ⊎ ((x ≡ 45) × (parts ≡ true))) (suc last) before → suc last ≡ before + k
      → (parse tag n (fork parts) x (in_body (fork parts) k y h t b)).stage ≡ Refused 15
  fork_refused false x k before y m e =
      let p = in_body AfterFirstDelimiter k y h t b in
      misfit_refused ((x ≡ 13) ⊎ ((x ≡ 45) × (false ≡ true))) (suc last) before k (cond (eqb x 13) (at PartBegin p) (refuse 15 p)) m e
      (mid_either (eqb x 13) (at PartBegin p) (refuse 15 p) refl refl)
      (λ f. rw (ne_eqb x 13 (λ q. f (inl q))) (stays k 15 p))
  fork_refused true x k before y m e =
      let p = in_body AfterDelimiter k y h t b in
      misfit_refused ((x ≡ 13) ⊎ ((x ≡ 45) × (true ≡ true))) (suc last) before k
      (cond (eqb x 13) (at PartBegin p) (cond (eqb x 45) (at Closing p) (refuse 15 p))) m e
      (mid_either (eqb x 13) (at PartBegin p) (cond (eqb x 45) (at Closing p) (refuse 15 p)) refl
      (mid_either (eqb x 45) (at Closing p) (refuse 15 p) refl refl))
      (λ f. rw (ne_eqb x 13 (λ q. f (inl q)), ne_eqb x 45 (λ q. f (inr (q, refl)))) (stays k 15 p))

  -- behind empty lines
  lead_refused : (lead x k before : ℕ) (y : PartHead) → Misfit ((x ≡ 45) ⊎ ((x ≡ 13) × (lead < max_preamble))) (suc last) before → suc last ≡ before + k
      → (parse tag n (Preamble lead) x (in_body (Preamble lead) k y h t b)).stage ≡ Refused 15
  lead_refused lead x k before y m e =
      let p = in_body (Preamble lead) k y h t b in
      misfit_refused ((x ≡ 45) ⊎ ((x ≡ 13) × (lead < max_preamble))) (suc last) before k
      (cond (eqb x 13) (cond (ltb lead max_preamble) (at (PreambleEnd lead) p) (refuse 15 p)) (cond (eqb x 45) (at (FirstDelimiter 3) p) (refuse 15 p))) m e
      (mid_either (eqb x 13) (cond (ltb lead max_preamble) (at (PreambleEnd lead) p) (refuse 15 p)) (cond (eqb x 45) (at (FirstDelimiter 3) p) (refuse 15 p))
      (mid_either (ltb lead max_preamble) (at (PreambleEnd lead) p) (refuse 15 p) refl refl)
      (mid_either (eqb x 45) (at (FirstDelimiter 3) p) (refuse 15 p) refl refl))
      (λ f. go (eqb x 13) (ltb lead max_preamble) refl refl f)
    where
      go : (u v : Bool) → eqb x 13 ≡ u → ltb lead max_preamble ≡ v → ((x ≡ 45) ⊎ ((x ≡ 13) × (lead < max_preamble)) → ⊥)
          → (count_byte k (cond u (cond v (at (PreambleEnd lead) (in_body (Preamble lead) k y h t b)) (refuse 15 (in_body (Preamble lead) k y h t b)))
          (cond (eqb x 45) (at (FirstDelimiter 3) (in_body (Preamble lead) k y h t b)) (refuse 15 (in_body (Preamble lead) k y h t b))))).stage
          ≡ Refused 15
      go true true p q f = absurd (f (inr (eqb-true x 13 p, ltb-true lead max_preamble q)))
      go true false p q f = stays k 15 (in_body (Preamble lead) k y h t b)
      go false v p q f = rw (ne_eqb x 45 (λ r. f (inl r))) (stays k 15 (in_body (Preamble lead) k y h t b))

  -- a line of a part
  module _ (fields : List (List ℕ)) (heading : PartHeading fields) where
    -- a whole line with a fault
    line_fault : (l : List ℕ) (k : ℕ) → Line l → PartLineFault fields l → (count_byte k (part_line l (in_part h t b fields k l true))).stage ≡ Refused 15
    line_fault l k line q = go (part_case h t b fields l k heading line)
      where
        go : PartCase h t b fields l k → (count_byte k (part_line l (in_part h t b fields k l true))).stage ≡ Refused 15
        go (faulty f e) = rw e (stays k 15 (in_part h t b fields k l true))
        go (longer g e) = absurd (part_last_right fields l g q)

    -- a whole line that is the last counted
    line-last : (l : List ℕ) → Line l → (count_byte 0 (part_line l (in_part h t b fields 0 l true))).stage ≡ Refused 15
    line-last l line = go (part_case h t b fields l 0 heading line)
      where
        go : PartCase h t b fields l 0 → (count_byte 0 (part_line l (in_part h t b fields 0 l true))).stage ≡ Refused 15
        go (faulty f e) = rw e
        go (longer g e) = rw e

    -- the empty line
    empty_fault : (k before m : ℕ) → suc last ≡ before + k → PartFault n b (suc last) before fields m
        → (count_byte k (part_end n (in_part h t b fields k [] true))).stage ≡ Refused m
    empty_fault k before zero e q = absurd (part_fault_some n b (suc last) before fields q)
    empty_fault k before (suc m) e q = rw (part_end_is n h t b fields k, (part_says n b fields k (suc last) before e).same (suc m) q)
        (stays k (suc m) (in_part h t b fields k [] true))

    -- the last counted byte, that is not the empty line's LF
    last-refused : (l : List ℕ) (cr : Bool) (x : ℕ) → Line l → ((cr ≡ true) × (x ≡ 10) × (l ≡ []) → ⊥)
        → (count_byte 0 (part_step n (line_step l cr x) (in_part h t b fields 0 l cr))).stage ≡ Refused 15
    last-refused l false x line f = go (open_case l x line)
      where
        go : OpenCase l x → (count_byte 0 (part_step n (line_step l false x) (in_part h t b fields 0 l false))).stage ≡ Refused 15
        go (returns e) = rw e
        go (grows g r) = rw (line_on l x g r)
        go (breaks q) = rw (fault_breaks l x false q)
    last-refused [] true x line f = go (end_case [] x)
      where
        go : EndCase [] x → (count_byte 0 (part_step n (line_step [] true x) (in_part h t b fields 0 [] true))).stage ≡ Refused 15
        go (ends e) = absurd (f (refl, e, refl))
        go (breaks q) = rw (fault_breaks [] x true q)
    last-refused (y ∷ l) true x line f = go (end_case (y ∷ l) x)
      where
        go : EndCase (y ∷ l) x → (count_byte 0 (part_step n (line_step (y ∷ l) true x) (in_part h t b fields 0 (y ∷ l) true))).stage ≡ Refused 15
        go (ends e) = rw e (line-last (y ∷ l) line)
        go (breaks q) = rw (fault_breaks (y ∷ l) x true q)

    -- every byte of it
    line-refused : (l : List ℕ) (cr : Bool) (x k before m : ℕ) → Line l → suc last ≡ before + k → LineRefuses n b (suc last) before fields l cr x m
        → (count_byte k (part_step n (line_step l cr x) (in_part h t b fields k l cr))).stage ≡ Refused m
    line-refused l cr x k before m line e (at_byte q f) = rw (fault_breaks l x cr q, f) (stays k 15 (in_part h t b fields k l cr))
    line-refused [] cr x k before m line e (at_line c f some-line q g) = absurd (some-line refl)
    line-refused (y ∷ l) cr x k before m line e (at_line c f some-line q g) = rw (c, f, g) (line_fault (y ∷ l) k line q)
    line-refused l cr x k before m line e (at_empty c f nil q) = rw (c, f, nil) (empty_fault k before m e q)
    line-refused l cr x zero before m line e (cut_short f c g) = rw g (last-refused l cr x line f)
    line-refused l cr x (suc k) before m line e (cut_short f c g) = absurd (omega arith)

  -- each place
  pub parts-refused : (cells : List Cell) (w : Within n b (suc last) cells) (x k m : ℕ) → last ≡ length cells + k → WithinRefuses n b (suc last) cells w x m
      → (parse tag n (stage_in n b (suc last) cells w) x (partsState tag n h t b (suc last) cells w k)).stage ≡ Refused m
  parts-refused cells (in_lead lead few is) x k m e q = rw q.1 (lead_refused lead x k (suc (length cells)) _ q.0 (omega arith))
  parts-refused cells (in_lead_end lead few is) x k m e q =
      rw q.1 (wanted-refused 10 x (suc last) (suc (length cells)) k (partsState tag n h t b (suc last) cells (in_lead_end lead few is) k) _ q.0
      (omega arith) refl)
  parts-refused cells (in_mark lead seen c more few some-seen mark-is is) x k m e q =
      rw q.1 (mark-refused (13 ∷ 10 ∷ seen) c more (2 + length seen) (FirstDelimiter (2 + length seen)) FirstDelimiter AfterFirstDelimiter x
      (suc (length cells)) k _ (ap (λ (l : List ℕ). 13 ∷ 10 ∷ l) mark-is) (omega arith) q.0 (omega arith) refl refl)
  parts-refused cells (behind_mark parts y) x k m e q =
      rw q.1 (fork_refused parts x k (suc (length cells)) (part_before n b (suc last) parts cells y) q.0 (omega arith))
  parts-refused cells (behind_cr parts marked y is) x k m e q =
      rw q.1 (wanted-refused 10 x (suc last) (suc (length cells)) k (partsState tag n h t b (suc last) cells (behind_cr parts marked y is) k) _ q.0
      (omega arith) refl)
  parts-refused cells (behind_dash marked y is) x k m e q =
      rw (q.1, ne_eqb x 45 q.0) (stays k 15 (partsState tag n h t b (suc last) cells (behind_dash marked y is) k))
  parts-refused cells (in_line parts marked fields l cr y heading line is) x k m e q =
      line-refused fields heading l cr x k (suc (length cells)) m line (omega arith) q
  parts-refused cells (in_data parts marked fields v bytes y a part-way is) x k m e q = absurd q
  parts-refused cells (behind_data parts marked fields v bytes seen c more y a all mark-is is) x k m e q =
      rw q.1 (mark-refused seen c more (length seen) (Delimiter (length seen)) Delimiter AfterDelimiter x (suc (length cells)) k _ mark-is refl q.0
      (omega arith) refl refl)
  parts-refused cells (behind_close marked anything y is) x k m e q = absurd q
