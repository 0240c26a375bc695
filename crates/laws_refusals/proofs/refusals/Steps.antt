-- What comes of the next byte behind a front within a multipart: it is refused, the front goes on, or the answer ends.
use Prim.Native.Nat.{ℕ, zero, suc, ◌+◌, ◌≤◌, ◌<◌}
use mathlib.Core.Path.{◌≡◌, refl, sym, ap, subst, ◌∙◌}
use mathlib.Core.Logic.{◌⊎◌, inl, inr}
use mathlib.Core.Bool.{Bool, true, false, true≢false}
use mathlib.Core.List.{List, [], ◌∷◌, ◌++◌, append_assoc, append-nil}
use native.Mathlib.Omega.{arith}
use lib.Dec.{eqb, ltb}
use lib.ListN.{length, length-append}
use borrow.Author.Tests.{eqb-true, eqb-false, ltb-true, ltb-false}
use Rattle.rules_server.specs.Texts.{crlf, dashes}
use Rattle.rules_server.specs.Answers.{Cell, own, from, own_then, from_then, lines_then, dash_boundary}
use Rattle.rules_tablet.specs.Limits.{max_preamble}
use Rattle.rules_tablet.specs.Fields.{range_field, first_of}
use Rattle.rules_tablet.specs.Heads.{span_of}
use Rattle.rules_tablet.specs.Parsers.{parse}
use Rattle.rules_tablet.specs.declared.Stage.TheVariants.{Finished}
use Rattle.rules_tablet.specs.declared.Head.{Head}
use Rattle.rules_demands.specs.AcceptanceGrammar.{Line, empty_lines, Multipart-body}
use Rattle.laws_reader.proofs.own_answers.Parts.{from-length}
use Rattle.laws_refusals.proofs.acceptance.Lines.{lines-append}
use Rattle.laws_reader.proofs.rules_kept.Lines.{right_span}
use Rattle.laws_refusals.proofs.acceptance.Taking.{cell_at}
use Rattle.rules_demands.specs.RefusalParts.{PartHeading, part_opened, Announced, Marked, first, next, Within, in_lead, in_lead_end, in_mark, behind_mark}
use Rattle.rules_demands.specs.RefusalParts.{behind_cr, behind_dash, in_line, in_data, behind_data, behind_close, position_in, PartFault, at_byte, at_line}
use Rattle.rules_demands.specs.RefusalParts.{at_empty, cut_short, cannot_fit, WithinRefuses}
use Rattle.laws_refusals.proofs.refusals.Lines.{OpenCase, returns, grows, breaks, EndCase, ends, open_case, end_case, line_longer, none_far}
use Rattle.laws_refusals.proofs.refusals.Leads.{own_append, own_before}
use Rattle.laws_refusals.proofs.refusals.Heads.{some-none, lines-last_text}
use Rattle.laws_refusals.proofs.refusals.PartFields.{PartCase, faulty, longer, part_case}
use Rattle.laws_refusals.proofs.refusals.PartJudging.{part_number, part_says, part_fault_some, PartRight, part_right}
use Rattle.laws_refusals.proofs.refusals.Runs.{empty_before}
use Rattle.laws_refusals.proofs.refusals.Closing.{closed_body}
use Rattle.laws_refusals.proofs.refusals.Within.{partsState, stage_in, data_more}

-- the empty lines of a lead, and one more
empty_last : (lead : ℕ) → empty_lines lead (own 13 ∷ own 10 ∷ []) ≡ empty_lines (suc lead) []
empty_last zero = refl
empty_last (suc lead) = ap (λ (c : List Cell). own 13 ∷ own 10 ∷ c) (empty_last lead)

-- data, and one byte more
pub from-last : (p q : ℕ) (l : List ℕ) (x : ℕ) → q ≡ p + length l → from_then p l [] ++ (from q x ∷ []) ≡ from_then p (l ++ (x ∷ [])) []
from-last p q [] x e =
    let same : q ≡ p = omega arith in
    rw same
from-last p q (y ∷ l) x e = ap (λ (c : List Cell). from p y ∷ c) (from-last (suc p) q l x (omega arith))

module _ (tag : List ℕ) (n : ℕ) (h : Head) (t b : List ℕ) (last : ℕ) where
  -- what comes of the byte x, with k bytes of the body after it
  pub data PartsStep (cells : List Cell) (w : Within n b (suc last) cells) (x k : ℕ) : Type 0 where
    refused : (m : ℕ) → WithinRefuses n b (suc last) cells w x m → PartsStep cells w x k
    onward : (j : ℕ) → k ≡ suc j → Within n b (suc last) (cells ++ (cell_at (position_in n b (suc last) cells w) x ∷ [])) → PartsStep cells w x k
    ended : k ≡ 0 → Multipart-body n b (cells ++ (cell_at (position_in n b (suc last) cells w) x ∷ []))
        → (parse tag n (stage_in n b (suc last) cells w) x (partsState tag n h t b (suc last) cells w k)).stage ≡ Finished → PartsStep cells w x k

  -- with no byte after it, it is the last counted one
  counted : (cells : List Cell) → last ≡ length cells + 0 → suc (length cells) ≡ suc last
  counted cells e = omega arith

  -- one byte behind cells that are known
  longer_is : (cells to : List Cell) (x y : ℕ) → cells ≡ to → x ≡ y → cells ++ (own x ∷ []) ≡ to ++ (own y ∷ [])
  longer_is cells to x y e f = rw (e, f)

  -- behind empty lines
  lead_step : (cells : List Cell) (lead : ℕ) (few : lead ≤ max_preamble) (is : cells ≡ empty_lines lead []) (x k : ℕ) → last ≡ length cells + k
      → PartsStep cells (in_lead lead few is) x k
  lead_step cells lead few is x zero e = refused 15 (cut_short (counted cells e), refl)
  lead_step cells lead few is x (suc j) e = go (eqb x 13) (ltb lead max_preamble) (eqb x 45) refl refl refl
    where
      go : (u v w : Bool) → eqb x 13 ≡ u → ltb lead max_preamble ≡ v → eqb x 45 ≡ w → PartsStep cells (in_lead lead few is) x (suc j)
      go true true w p q r = onward j refl (in_lead_end lead (ltb-true lead max_preamble q)
          (longer_is cells (empty_lines lead []) x 13 is (eqb-true x 13 p) ∙ sym (empty_before lead (own 13 ∷ []))))
      go true false w p q r = refused 15 (cannot_fit misfit, refl)
        where
          misfit : (x ≡ 45) ⊎ ((x ≡ 13) × (lead < max_preamble)) → ⊥
          misfit (inl f) = let g = eqb-true x 13 p in omega arith
          misfit (inr f) = let g = ltb-false lead max_preamble q in omega (arith, g, f.1)
      go false v true p q r =
          onward j refl
          (in_mark lead (45 ∷ []) 45 b few some-none refl
          (longer_is cells (empty_lines lead []) x 45 is (eqb-true x 45 r) ∙ sym (empty_before lead (own 45 ∷ []))))
      go false v false p q r = refused 15 (cannot_fit misfit, refl)
        where
          misfit : (x ≡ 45) ⊎ ((x ≡ 13) × (lead < max_preamble)) → ⊥
          misfit (inl f) = eqb-false x 45 r f
          misfit (inr f) = eqb-false x 13 p f.0

  -- behind the CR of an empty line
  lead_end_step : (cells : List Cell) (lead : ℕ) (few : lead < max_preamble) (is : cells ≡ empty_lines lead (own 13 ∷ [])) (x k : ℕ) → last ≡ length cells + k
      → PartsStep cells (in_lead_end lead few is) x k
  lead_end_step cells lead few is x zero e = refused 15 (cut_short (counted cells e), refl)
  lead_end_step cells lead few is x (suc j) e = go (eqb x 10) refl
    where
      go : (u : Bool) → eqb x 10 ≡ u → PartsStep cells (in_lead_end lead few is) x (suc j)
      go true p =
          onward j refl
          (in_lead (suc lead) (omega arith)
          (longer_is cells (empty_lines lead [] ++ (own 13 ∷ [])) x 10 (is ∙ empty_before lead (own 13 ∷ [])) (eqb-true x 10 p)
          ∙ append_assoc (empty_lines lead []) (own 13 ∷ []) (own 10 ∷ [])
          ∙ sym (empty_before lead (own 13 ∷ own 10 ∷ [])) ∙ empty_last lead))
      go false p = refused 15 (cannot_fit (eqb-false x 10 p), refl)

  -- within the first mark
  mark_step : (cells : List Cell) (lead : ℕ) (seen : List ℕ) (c : ℕ) (more : List ℕ) (few : lead ≤ max_preamble) (some-seen : seen ≡ [] → ⊥)
      (mark-is : dash_boundary b ≡ seen ++ (c ∷ more)) (is : cells ≡ empty_lines lead (own_then seen []))
      (x k : ℕ) → last ≡ length cells + k → PartsStep cells (in_mark lead seen c more few some-seen mark-is is) x k
  mark_step cells lead seen c more few some-seen mark-is is x zero e = refused 15 (cut_short (counted cells e), refl)
  mark_step cells lead seen c more few some-seen mark-is is x (suc j) e = go (eqb x c) refl
    where
      one_more : x ≡ c → cells ++ (own x ∷ []) ≡ empty_lines lead (own_then (seen ++ (c ∷ [])) [])
      one_more f =
          longer_is cells (empty_lines lead [] ++ own_then seen []) x c (is ∙ empty_before lead (own_then seen [])) f
          ∙ append_assoc (empty_lines lead []) (own_then seen []) (own c ∷ [])
          ∙ ap (λ (l : List Cell). empty_lines lead [] ++ l) (sym (own_before seen (own c ∷ [])) ∙ sym (own_append seen (c ∷ []) []))
          ∙ sym (empty_before lead (own_then (seen ++ (c ∷ [])) []))

      longer_some : seen ++ (c ∷ []) ≡ [] → ⊥
      longer_some f = let q = ap length f in let r = length-append seen (c ∷ []) in absurd (omega arith)

      to : (more : List ℕ) → dash_boundary b ≡ seen ++ (c ∷ more) → x ≡ c → Within n b (suc last) (cells ++ (own x ∷ []))
      to [] m f = behind_mark false (first lead few refl (one_more f ∙ ap (λ (l : List ℕ). empty_lines lead (own_then l [])) (sym m)))
      to (d ∷ more) m f = in_mark lead (seen ++ (c ∷ [])) d more few longer_some (m ∙ sym (append_assoc seen (c ∷ []) (d ∷ more))) (one_more f)

      go : (u : Bool) → eqb x c ≡ u → PartsStep cells (in_mark lead seen c more few some-seen mark-is is) x (suc j)
      go true p = onward j refl (to more mark-is (eqb-true x c p))
      go false p = refused 15 (cannot_fit (eqb-false x c p), refl)

  -- behind a mark
  behind_step : (cells : List Cell) (parts : Bool) (m : Marked n b (suc last) parts cells) (x k : ℕ) → last ≡ length cells + k
      → PartsStep cells (behind_mark parts m) x k
  behind_step cells parts m x zero e = refused 15 (cut_short (counted cells e), refl)
  behind_step cells parts m x (suc j) e = go (eqb x 13) (eqb x 45) refl refl
    where
      dash : (p : Bool) (m : Marked n b (suc last) p cells) → x ≡ 45 → (x ≡ 13 → ⊥) → PartsStep cells (behind_mark p m) x (suc j)
      dash true m f g = onward j refl (behind_dash cells m (longer_is cells cells x 45 refl f))
      dash false m f g = refused 15 (cannot_fit misfit, refl)
        where
          misfit : (x ≡ 13) ⊎ ((x ≡ 45) × (false ≡ true)) → ⊥
          misfit (inl q) = g q
          misfit (inr q) = true≢false (sym q.1)

      go : (u v : Bool) → eqb x 13 ≡ u → eqb x 45 ≡ v → PartsStep cells (behind_mark parts m) x (suc j)
      go true v p q = onward j refl (behind_cr parts cells m (longer_is cells cells x 13 refl (eqb-true x 13 p)))
      go false true p q = dash parts m (eqb-true x 45 q) (eqb-false x 13 p)
      go false false p q = refused 15 (cannot_fit misfit, refl)
        where
          misfit : (x ≡ 13) ⊎ ((x ≡ 45) × (parts ≡ true)) → ⊥
          misfit (inl f) = eqb-false x 13 p f
          misfit (inr f) = eqb-false x 45 q f.0

  -- behind its CR
  cr_step : (cells : List Cell) (parts : Bool) (marked : List Cell) (m : Marked n b (suc last) parts marked) (is : cells ≡ marked ++ (own 13 ∷ [])) (x k : ℕ)
      → last ≡ length cells + k → PartsStep cells (behind_cr parts marked m is) x k
  cr_step cells parts marked m is x zero e = refused 15 (cut_short (counted cells e), refl)
  cr_step cells parts marked m is x (suc j) e = go (eqb x 10) refl
    where
      go : (u : Bool) → eqb x 10 ≡ u → PartsStep cells (behind_cr parts marked m is) x (suc j)
      go true p =
          onward j refl
          (in_line parts marked [] [] false m (record { lines = tt; few = omega arith; one_range = omega arith }) none_far
          (longer_is cells (marked ++ (own 13 ∷ [])) x 10 is (eqb-true x 10 p) ∙ append_assoc marked (own 13 ∷ []) (own 10 ∷ [])))
      go false p = refused 15 (cannot_fit (eqb-false x 10 p), refl)

  -- behind the first `-` of the closing mark
  dash_step : (cells marked : List Cell) (m : Marked n b (suc last) true marked) (is : cells ≡ marked ++ (own 45 ∷ [])) (x k : ℕ) → last ≡ length cells + k
      → PartsStep cells (behind_dash marked m is) x k
  dash_step cells marked m is x k e = go (eqb x 45) k refl
    where
      there : x ≡ 45 → cells ++ (own x ∷ []) ≡ marked ++ own_then (dashes ++ []) []
      there p = longer_is cells (marked ++ (own 45 ∷ [])) x 45 is p ∙ append_assoc marked (own 45 ∷ []) (own 45 ∷ [])

      go : (u : Bool) (k : ℕ) → eqb x 45 ≡ u → PartsStep cells (behind_dash marked m is) x k
      go true zero p = ended refl (subst (Multipart-body n b) (sym (there (eqb-true x 45 p))) (closed_body n b (suc last) marked m [])) (rw p)
      go true (suc j) p = onward j refl (behind_close marked [] m (there (eqb-true x 45 p)))
      go false k p = refused 15 (eqb-false x 45 p, refl)

  -- behind the closing mark
  close_step : (cells marked : List Cell) (anything : List ℕ) (m : Marked n b (suc last) true marked) (is : cells ≡ marked ++ own_then (dashes ++ anything) [])
      (x k : ℕ) → PartsStep cells (behind_close marked anything m is) x k
  close_step cells marked anything m is x k = go k
    where
      there : cells ++ (own x ∷ []) ≡ marked ++ own_then (dashes ++ (anything ++ (x ∷ []))) []
      there =
          longer_is cells (marked ++ own_then (dashes ++ anything) []) x x is refl ∙ append_assoc marked (own_then (dashes ++ anything) []) (own x ∷ [])
          ∙ ap (λ (c : List Cell). marked ++ (own 45 ∷ own 45 ∷ c)) (sym (own_before anything (own x ∷ [])) ∙ sym (own_append anything (x ∷ []) []))

      go : (k : ℕ) → PartsStep cells (behind_close marked anything m is) x k
      go zero = ended refl (subst (Multipart-body n b) (sym there) (closed_body n b (suc last) marked m (anything ++ (x ∷ [])))) refl
      go (suc j) = onward j refl (behind_close marked (anything ++ (x ∷ [])) m there)

  -- a line of a part
  module _ (cells : List Cell) (parts : Bool) (marked : List Cell) (fields : List (List ℕ)) (m : Marked n b (suc last) parts marked)
      (heading : PartHeading fields) where
    -- the body with more behind its last line
    more_cells : (l : List ℕ) (x : ℕ) → cells ≡ marked ++ own_then (crlf ++ lines_then fields l) []
        → cells ++ (own x ∷ []) ≡ marked ++ own_then (crlf ++ lines_then fields (l ++ (x ∷ []))) []
    more_cells l x is =
        longer_is cells (marked ++ own_then (crlf ++ lines_then fields l) []) x x is refl
        ∙ append_assoc marked (own_then (crlf ++ lines_then fields l) []) (own x ∷ [])
        ∙ ap (λ (c : List Cell). marked ++ (own 13 ∷ own 10 ∷ c))
        (sym (own_before (lines_then fields l) (own x ∷ [])) ∙ sym (own_append (lines_then fields l) (x ∷ []) [])
        ∙ ap (λ (y : List ℕ). own_then y []) (lines-append fields l (x ∷ [])))

    -- a byte before the line's CR
    line_open : (l : List ℕ) (line : Line l) (is : cells ≡ marked ++ own_then (crlf ++ lines_then fields l) []) (x k : ℕ) → last ≡ length cells + k
        → PartsStep cells (in_line parts marked fields l false m heading line is) x k
    line_open l line is x zero e = refused 15 (cut_short (λ q. absurd (true≢false (sym q.0))) (counted cells e) refl)
    line_open l line is x (suc j) e = go (open_case l x line)
      where
        go : OpenCase l x → PartsStep cells (in_line parts marked fields l false m heading line is) x (suc j)
        go (returns f) = onward j refl (in_line parts marked fields l true m heading line
            (more_cells l x is ∙ ap (λ (c : ℕ). marked ++ own_then (crlf ++ lines_then fields (l ++ (c ∷ []))) []) f))
        go (grows g r) = onward j refl (in_line parts marked fields (l ++ (x ∷ [])) false m heading (line_longer l x line g r) (more_cells l x is))
        go (breaks q) = refused 15 (at_byte q refl)

    -- the body behind a whole line
    whole_cells : (l : List ℕ) (x : ℕ) → x ≡ 10 → cells ≡ marked ++ own_then (crlf ++ lines_then fields (l ++ (13 ∷ []))) []
        → cells ++ (own x ∷ []) ≡ marked ++ own_then (crlf ++ lines_then fields (l ++ crlf)) []
    whole_cells l x f is =
        more_cells (l ++ (13 ∷ [])) x is ∙ ap (λ (y : List ℕ). marked ++ own_then (crlf ++ lines_then fields y) [])
        (append_assoc l (13 ∷ []) (x ∷ []) ∙ ap (λ (c : ℕ). l ++ (13 ∷ c ∷ [])) f)

    -- the LF of a line that is not empty
    line_end_lem : (y : ℕ) (l : List ℕ) (line : Line (y ∷ l)) (is : cells ≡ marked ++ own_then (crlf ++ lines_then fields ((y ∷ l) ++ (13 ∷ []))) []) (x k : ℕ)
        → x ≡ 10 → last ≡ length cells + k
        → PartsStep cells (in_line parts marked fields (y ∷ l) true m heading line is) x k
    line_end_lem y l line is x zero f e = refused 15 (cut_short (λ q. some-none q.2) (counted cells e) refl)
    line_end_lem y l line is x (suc j) f e = go (part_case h t b fields (y ∷ l) j heading line)
      where
        go : PartCase h t b fields (y ∷ l) j → PartsStep cells (in_line parts marked fields (y ∷ l) true m heading line is) x (suc j)
        go (faulty q g) = refused 15 (at_line refl f some-none q refl)
        go (longer g i) =
            onward j refl
            (in_line parts marked (fields ++ ((y ∷ l) ∷ [])) [] false m g none_far
            (whole_cells (y ∷ l) x f is ∙ ap (λ (z : List ℕ). marked ++ own_then (crlf ++ z) []) (sym (lines-last_text fields (y ∷ l) []))))

    -- the LF of the empty line
    empty_end : (line : Line []) (is : cells ≡ marked ++ own_then (crlf ++ lines_then fields (13 ∷ [])) []) (x k : ℕ) → x ≡ 10 → last ≡ length cells + k
        → PartsStep cells (in_line parts marked fields [] true m heading line is) x k
    empty_end line is x k f e = go k e (part_number n b fields k) refl
      where
        there : cells ++ (own x ∷ []) ≡ part_opened marked fields
        there = whole_cells [] x f is

        count : length (part_opened marked fields) ≡ suc (length cells)
        count = let q = ap length there in let r = length-append cells (own x ∷ []) in omega arith

        right : (k : ℕ) → last ≡ length cells + k → PartRight n b (suc last) (suc (length cells)) fields
            → PartsStep cells (in_line parts marked fields [] true m heading line is) x k
        right zero e r = absurd (omega (arith, e, r.fit))
        right (suc j) e r =
            let some_data = (right_span n (range_field r.value) r.lines.right).0 in
            onward j refl
            (in_data parts marked fields r.value [] m (record { lines = r.lines; fit = omega (arith, count, r.fit) }) (omega arith)
            (there ∙ sym (append-nil (part_opened marked fields))))

        go : (k : ℕ) → last ≡ length cells + k → (r : ℕ) → part_number n b fields k ≡ r
            → PartsStep cells (in_line parts marked fields [] true m heading line is) x k
        go k e zero z =
            right k e (part_right n b (suc last) (suc (length cells)) fields heading (λ i q. part_fault_some n b (suc last) (suc (length cells)) fields
            (subst (PartFault n b (suc last) (suc (length cells)) fields)
            (sym ((part_says n b fields k (suc last) (suc (length cells)) (omega arith)).same i q) ∙ z) q)))
        go k e (suc i) z =
            refused (suc i) (at_empty refl f refl (subst (PartFault n b (suc last) (suc (length cells)) fields) z
            ((part_says n b fields k (suc last) (suc (length cells)) (omega arith)).some_fault (λ q. absurd (omega arith)))))

    -- a byte behind the line's CR
    line_close : (l : List ℕ) (line : Line l) (is : cells ≡ marked ++ own_then (crlf ++ lines_then fields (l ++ (13 ∷ []))) []) (x k : ℕ)
        → last ≡ length cells + k → PartsStep cells (in_line parts marked fields l true m heading line is) x k
    line_close l line is x k e = go (end_case l x)
      where
        whole-line : (l : List ℕ) (line : Line l) (is : cells ≡ marked ++ own_then (crlf ++ lines_then fields (l ++ (13 ∷ []))) []) → x ≡ 10
            → PartsStep cells (in_line parts marked fields l true m heading line is) x k
        whole-line [] line is f = empty_end line is x k f e
        whole-line (y ∷ l) line is f = line_end_lem y l line is x k f e

        go : EndCase l x → PartsStep cells (in_line parts marked fields l true m heading line is) x k
        go (ends f) = whole-line l line is f
        go (breaks q) = refused 15 (at_byte q refl)

  -- a part's data
  module _ (cells : List Cell) (parts : Bool) (marked : List Cell) (fields : List (List ℕ)) (v bytes : List ℕ) (m : Marked n b (suc last) parts marked)
      (a : Announced n b (suc last) marked fields v) where
    -- a byte of it
    data_step_lem : (part-way : length bytes < span_of (range_field v)) (is : cells ≡ part_opened marked fields ++ from_then (first_of (range_field v)) bytes [])
        (x k : ℕ) → last ≡ length cells + k
        → PartsStep cells (in_data parts marked fields v bytes m a part-way is) x k
    data_step_lem part-way is x zero e =
        let q = ap length is ∙ length-append (part_opened marked fields) (from_then (first_of (range_field v)) bytes []) in
        let r = from-length (first_of (range_field v)) bytes [] in
        absurd (omega (arith, q, r, e, a.fit, part-way))
    data_step_lem part-way is x (suc j) e = go (ltb (suc (length bytes)) (span_of (range_field v))) refl
      where
        there : cells ++ (from (first_of (range_field v) + length bytes) x ∷ []) ≡ part_opened marked fields
            ++ from_then (first_of (range_field v)) (bytes ++ (x ∷ [])) []
        there =
            ap (λ (c : List Cell). c ++ (from (first_of (range_field v) + length bytes) x ∷ [])) is
            ∙ append_assoc (part_opened marked fields) (from_then (first_of (range_field v)) bytes []) (from (first_of (range_field v) + length bytes) x ∷ [])
            ∙ ap (λ (c : List Cell). part_opened marked fields ++ c) (from-last (first_of (range_field v)) (first_of (range_field v) + length bytes) bytes x refl)

        go : (u : Bool) → ltb (suc (length bytes)) (span_of (range_field v)) ≡ u → PartsStep cells (in_data parts marked fields v bytes m a part-way is) x (suc j)
        go true p =
            let less = ltb-true (suc (length bytes)) (span_of (range_field v)) p in
            let count = length-append bytes (x ∷ []) in
            onward j refl (in_data parts marked fields v (bytes ++ (x ∷ [])) m a (omega arith) there)
        go false p =
            let less = ltb-false (suc (length bytes)) (span_of (range_field v)) p in
            let count = length-append bytes (x ∷ []) in
            onward j refl (behind_data parts marked fields v (bytes ++ (x ∷ [])) [] 13 (10 ∷ dash_boundary b) m a (omega arith) refl there)

    -- a byte of CR LF and the mark behind it
    delimiter_step_lem : (seen : List ℕ) (c : ℕ) (more : List ℕ) (all : length bytes ≡ span_of (range_field v))
        (mark-is : crlf ++ dash_boundary b ≡ seen ++ (c ∷ more))
        (is : cells ≡ part_opened marked fields ++ from_then (first_of (range_field v)) bytes (own_then seen [])) (x k : ℕ) → last ≡ length cells + k
        → PartsStep cells (behind_data parts marked fields v bytes seen c more m a all mark-is is) x k
    delimiter_step_lem seen c more all mark-is is x zero e = refused 15 (cut_short (counted cells e), refl)
    delimiter_step_lem seen c more all mark-is is x (suc j) e = go (eqb x c) refl
      where
        data_before : (l : List ℕ) → part_opened marked fields
            ++ from_then (first_of (range_field v)) bytes (own_then l []) ≡ (part_opened marked fields ++ from_then (first_of (range_field v)) bytes []) ++ own_then l []
        data_before l = data_more tag n h t b last marked fields v bytes l

        one_more : x ≡ c → cells ++ (own x ∷ []) ≡ part_opened marked fields ++ from_then (first_of (range_field v)) bytes (own_then (seen ++ (c ∷ [])) [])
        one_more f =
            let front = part_opened marked fields ++ from_then (first_of (range_field v)) bytes [] in
            longer_is cells (front ++ own_then seen []) x c (is ∙ data_before seen) f ∙ append_assoc front (own_then seen []) (own c ∷ [])
            ∙ ap (λ (l : List Cell). front ++ l) (sym (own_before seen (own c ∷ [])) ∙ sym (own_append seen (c ∷ []) [])) ∙ sym (data_before (seen ++ (c ∷ [])))

        to : (more : List ℕ) → crlf ++ dash_boundary b ≡ seen ++ (c ∷ more) → x ≡ c → Within n b (suc last) (cells ++ (own x ∷ []))
        to [] q f = behind_mark true (next parts marked fields v bytes m a all refl
            (one_more f ∙ ap (λ (l : List ℕ). part_opened marked fields ++ from_then (first_of (range_field v)) bytes (own_then l [])) (sym q)))
        to (d ∷ more) q f = behind_data parts marked fields v bytes (seen ++ (c ∷ [])) d more m a all (q ∙ sym (append_assoc seen (c ∷ []) (d ∷ more)))
            (one_more f)

        go : (u : Bool) → eqb x c ≡ u → PartsStep cells (behind_data parts marked fields v bytes seen c more m a all mark-is is) x (suc j)
        go true p = onward j refl (to more mark-is (eqb-true x c p))
        go false p = refused 15 (cannot_fit (eqb-false x c p), refl)

  -- every byte behind a front within a multipart
  pub parts_step : (cells : List Cell) (w : Within n b (suc last) cells) (x k : ℕ) → last ≡ length cells + k → PartsStep cells w x k
  parts_step cells (in_lead lead few is) x k e = lead_step cells lead few is x k e
  parts_step cells (in_lead_end lead few is) x k e = lead_end_step cells lead few is x k e
  parts_step cells (in_mark lead seen c more few some-seen mark-is is) x k e = mark_step cells lead seen c more few some-seen mark-is is x k e
  parts_step cells (behind_mark parts m) x k e = behind_step cells parts m x k e
  parts_step cells (behind_cr parts marked m is) x k e = cr_step cells parts marked m is x k e
  parts_step cells (behind_dash marked m is) x k e = dash_step cells marked m is x k e
  parts_step cells (in_line parts marked fields l false m heading line is) x k e = line_open cells parts marked fields m heading l line is x k e
  parts_step cells (in_line parts marked fields l true m heading line is) x k e = line_close cells parts marked fields m heading l line is x k e
  parts_step cells (in_data parts marked fields v bytes m a part-way is) x k e = data_step_lem cells parts marked fields v bytes m a part-way is x k e
  parts_step cells (behind_data parts marked fields v bytes seen c more m a all mark-is is) x k e =
      delimiter_step_lem cells parts marked fields v bytes m a seen c more all mark-is is x k e
  parts_step cells (behind_close marked anything m is) x k e = close_step cells marked anything m is x k
