-- Where the parser stands behind a front within a multipart.
use Prim.Native.Nat.{ℕ, zero, suc, ◌+◌, ◌-◌, ◌≤◌, ◌<◌}
use mathlib.Core.Path.{◌≡◌, refl, sym, ap, subst, ◌∙◌}
use mathlib.Core.Bool.{Bool, true, false}
use mathlib.Core.List.{List, [], ◌∷◌, ◌++◌, append_assoc}
use native.Mathlib.Omega.{arith}
use lib.Dec.{eqb}
use lib.ListN.{length, length-append}
use borrow.Author.Tests.{le-leb, lt-ltb, ne_eqb}
use Rattle.rules_server.specs.Texts.{crlf}
use Rattle.rules_server.specs.Answers.{Cell, own, own_then, from_then, lines_then, dash_boundary}
use Rattle.rules_tablet.specs.Limits.{max_preamble}
use Rattle.rules_tablet.specs.Fields.{range_field, first_of}
use Rattle.rules_tablet.specs.Heads.{span_of}
use Rattle.rules_tablet.specs.Parsers.{Parser, with_line, part_end, event}
use Rattle.rules_tablet.specs.Feeding.{is_over}
use Rattle.rules_tablet.specs.declared.Stage.{Stage}
use Rattle.rules_tablet.specs.declared.Stage.TheVariants.{Preamble, PreambleEnd, FirstDelimiter, Delimiter, AfterFirstDelimiter, AfterDelimiter, PartBegin}
use Rattle.rules_tablet.specs.declared.Stage.TheVariants.{Closing, PartLine, Data, Epilogue}
use Rattle.rules_tablet.specs.declared.RangeField.TheVariants.{Absent}
use Rattle.rules_tablet.specs.declared.Head.{Head}
use Rattle.rules_tablet.specs.declared.PartHead.{PartHead}
use Rattle.rules_demands.specs.AcceptanceGrammar.{Line, PartLines, empty_lines}
use Rattle.rules_demands.specs.FeedingFollowed.{next}
use Rattle.laws_reader.proofs.own_answers.Multipart.{part_of, in_body}
use Rattle.laws_refusals.proofs.acceptance.Lines.{lines-append}
use Rattle.laws_refusals.proofs.acceptance.Heads.{right_has}
use Rattle.laws_reader.proofs.rules_kept.Lines.{right_span}
use Rattle.rules_demands.specs.RefusalLines.{so_far}
use Rattle.rules_demands.specs.RefusalParts.{PartHeading, part_opened, needed, Announced, Marked, first, next as next-part, Within, in_lead, in_lead_end}
use Rattle.rules_demands.specs.RefusalParts.{in_mark, behind_mark, behind_cr, behind_dash, in_line, in_data, behind_data, behind_close, position_in}
use Rattle.laws_refusals.proofs.refusals.Leads.{Leads, lead_none, lead_then, lead_step, own_append, own_before}
use Rattle.laws_refusals.proofs.refusals.PartFields.{part_said, in_part}
use Rattle.laws_refusals.proofs.refusals.Runs.{Runs, empty_before, from-before, runs_then, runs_one, place, lead_runs, some-mark, rest_mark, some_data}
use Rattle.laws_refusals.proofs.refusals.Runs.{all_data, rest_runs, far_runs, lines-run}

-- behind a whole mark
abbrev pub fork : Bool → Stage
fork false = AfterFirstDelimiter
fork true = AfterDelimiter

-- the part before a mark, as the parser has it
abbrev pub part_before : (n : ℕ) (b : List ℕ) (z : ℕ) (parts : Bool) (cells : List Cell) → Marked n b z parts cells → PartHead
part_before n b z parts cells (first lead few none_yet is) = part_of 0 Absent
part_before n b z parts cells (next-part before marked fields v bytes m a all some-yet is) = part_said fields

-- the stage behind a front
abbrev pub stage_in : (n : ℕ) (b : List ℕ) (z : ℕ) (cells : List Cell) → Within n b z cells → Stage
stage_in n b z cells (in_lead lead few is) = Preamble lead
stage_in n b z cells (in_lead_end lead few is) = PreambleEnd lead
stage_in n b z cells (in_mark lead seen c more few some-seen mark-is is) = FirstDelimiter (2 + length seen)
stage_in n b z cells (behind_mark parts m) = fork parts
stage_in n b z cells (behind_cr parts marked m is) = PartBegin
stage_in n b z cells (behind_dash marked m is) = Closing
stage_in n b z cells (in_line parts marked fields l cr m heading line is) = PartLine
stage_in n b z cells (in_data parts marked fields v bytes m a part-way is) = Data (first_of (range_field v) + length bytes) (span_of (range_field v) - length bytes)
stage_in n b z cells (behind_data parts marked fields v bytes seen c more m a all mark-is is) = Delimiter (length seen)
stage_in n b z cells (behind_close marked anything m is) = Epilogue

-- the part
abbrev pub part_in : (n : ℕ) (b : List ℕ) (z : ℕ) (cells : List Cell) → Within n b z cells → PartHead
part_in n b z cells (in_lead lead few is) = part_of 0 Absent
part_in n b z cells (in_lead_end lead few is) = part_of 0 Absent
part_in n b z cells (in_mark lead seen c more few some-seen mark-is is) = part_of 0 Absent
part_in n b z cells (behind_mark parts m) = part_before n b z parts cells m
part_in n b z cells (behind_cr parts marked m is) = part_before n b z parts marked m
part_in n b z cells (behind_dash marked m is) = part_before n b z true marked m
part_in n b z cells (in_line parts marked fields l cr m heading line is) = part_said fields
part_in n b z cells (in_data parts marked fields v bytes m a part-way is) = part_said fields
part_in n b z cells (behind_data parts marked fields v bytes seen c more m a all mark-is is) = part_said fields
part_in n b z cells (behind_close marked anything m is) = part_before n b z true marked m

-- the line
abbrev pub line_in : (n : ℕ) (b : List ℕ) (z : ℕ) (cells : List Cell) → Within n b z cells → List ℕ
line_in n b z cells (in_lead lead few is) = []
line_in n b z cells (in_lead_end lead few is) = []
line_in n b z cells (in_mark lead seen c more few some-seen mark-is is) = []
line_in n b z cells (behind_mark parts m) = []
line_in n b z cells (behind_cr parts marked m is) = []
line_in n b z cells (behind_dash marked m is) = []
line_in n b z cells (in_line parts marked fields l cr m heading line is) = l
line_in n b z cells (in_data parts marked fields v bytes m a part-way is) = []
line_in n b z cells (behind_data parts marked fields v bytes seen c more m a all mark-is is) = []
line_in n b z cells (behind_close marked anything m is) = []

-- and whether its CR was seen
abbrev pub cr_in : (n : ℕ) (b : List ℕ) (z : ℕ) (cells : List Cell) → Within n b z cells → Bool
cr_in n b z cells (in_lead lead few is) = false
cr_in n b z cells (in_lead_end lead few is) = false
cr_in n b z cells (in_mark lead seen c more few some-seen mark-is is) = false
cr_in n b z cells (behind_mark parts m) = false
cr_in n b z cells (behind_cr parts marked m is) = false
cr_in n b z cells (behind_dash marked m is) = false
cr_in n b z cells (in_line parts marked fields l cr m heading line is) = cr
cr_in n b z cells (in_data parts marked fields v bytes m a part-way is) = false
cr_in n b z cells (behind_data parts marked fields v bytes seen c more m a all mark-is is) = false
cr_in n b z cells (behind_close marked anything m is) = false

-- the parser is not over there
pub open_in : (n : ℕ) (b : List ℕ) (z : ℕ) (cells : List Cell) (w : Within n b z cells) → is_over (stage_in n b z cells w) ≡ false
open_in n b z cells (in_lead lead few is) = refl
open_in n b z cells (in_lead_end lead few is) = refl
open_in n b z cells (in_mark lead seen c more few some-seen mark-is is) = refl
open_in n b z cells (behind_mark false m) = refl
open_in n b z cells (behind_mark true m) = refl
open_in n b z cells (behind_cr parts marked m is) = refl
open_in n b z cells (behind_dash marked m is) = refl
open_in n b z cells (in_line parts marked fields l cr m heading line is) = refl
open_in n b z cells (in_data parts marked fields v bytes m a part-way is) = refl
open_in n b z cells (behind_data parts marked fields v bytes seen c more m a all mark-is is) = refl
open_in n b z cells (behind_close marked anything m is) = refl

-- its event is the position there
pub event_in : (n : ℕ) (b : List ℕ) (z : ℕ) (cells : List Cell) (w : Within n b z cells) → event (stage_in n b z cells w) ≡ position_in n b z cells w
event_in n b z cells (in_lead lead few is) = refl
event_in n b z cells (in_lead_end lead few is) = refl
event_in n b z cells (in_mark lead seen c more few some-seen mark-is is) = refl
event_in n b z cells (behind_mark false m) = refl
event_in n b z cells (behind_mark true m) = refl
event_in n b z cells (behind_cr parts marked m is) = refl
event_in n b z cells (behind_dash marked m is) = refl
event_in n b z cells (in_line parts marked fields l cr m heading line is) = refl
event_in n b z cells (in_data parts marked fields v bytes m a part-way is) = refl
event_in n b z cells (behind_data parts marked fields v bytes seen c more m a all mark-is is) = refl
event_in n b z cells (behind_close marked anything m is) = refl

-- a part's lines with the empty line, up to its LF
opened_is : (marked : List Cell) (fields : List (List ℕ))
    → part_opened marked fields ≡ (marked ++ own_then (crlf ++ lines_then fields (13 ∷ [])) []) ++ (own 10 ∷ [])
opened_is marked fields =
    let cut : own_then (lines_then fields crlf) [] ≡ own_then (lines_then fields (13 ∷ [])) [] ++ (own 10 ∷ []) =
    ap (λ (l : List ℕ). own_then l []) (sym (lines-append fields (13 ∷ []) (10 ∷ []))) ∙ own_append (lines_then fields (13 ∷ [])) (10 ∷ []) []
    ∙ own_before (lines_then fields (13 ∷ [])) (own 10 ∷ []) in
    ap (λ (c : List Cell). marked ++ (own 13 ∷ own 10 ∷ c)) cut ∙ sym (append_assoc marked (own_then (crlf ++ lines_then fields (13 ∷ [])) []) (own 10 ∷ []))

module _ (tag : List ℕ) (n : ℕ) (h : Head) (t b : List ℕ) where
  -- CR behind a mark
  cr_runs : (parts : Bool) (x : PartHead) → Runs tag n (own 13 ∷ []) (place tag n h t b (fork parts) x) (place tag n h t b PartBegin x)
  cr_runs false x = runs_one tag n (own 13) (place tag n h t b AfterFirstDelimiter x) (place tag n h t b PartBegin x) (λ k. refl) (λ k. refl) (λ k. refl)
      (λ k. refl)
  cr_runs true x = runs_one tag n (own 13) (place tag n h t b AfterDelimiter x) (place tag n h t b PartBegin x) (λ k. refl) (λ k. refl) (λ k. refl) (λ k. refl)

  -- the parser there, with k bytes of the body after the next one
  abbrev pub partsState : (z : ℕ) (cells : List Cell) → Within n b z cells → ℕ → Parser
  partsState z cells w k = with_line (line_in n b z cells w) (cr_in n b z cells w) (in_body (stage_in n b z cells w) k (part_in n b z cells w) h t b)

  module _ (last : ℕ) where
    -- these bytes lead from the body's first byte to g, in a body of `suc last` bytes
    abbrev pub Reach : List Cell → (ℕ → Parser) → Type 0
    Reach cells g = (k : ℕ) → last ≡ length cells + k → Leads tag n (in_body (Preamble 0) last (part_of 0 Absent) h t b) cells (g k)

    -- more bytes, for which it is known how many came before
    reach_more : (a c : List Cell) (f g : ℕ → Parser) → Reach a f → ((j k : ℕ) → last ≡ length a + j → j ≡ length c + k → Leads tag n (f j) c (g k))
        → Reach (a ++ c) g
    reach_more a c f g r s k e =
        let all = length-append a c in
        let i : last ≡ length a + (length c + k) = omega arith in
        lead_then tag n a c (in_body (Preamble 0) last (part_of 0 Absent) h t b) (f (length c + k)) (g k) (r (length c + k) i) (s (length c + k) k i refl)

    -- more bytes
    reach_runs : (a c : List Cell) (f g : ℕ → Parser) → Reach a f → Runs tag n c f g → Reach (a ++ c) g
    reach_runs a c f g r s = reach_more a c f g r (λ j k e. s j k)

    -- the first bytes
    reach_first : (c : List Cell) (g : ℕ → Parser) → Runs tag n c (place tag n h t b (Preamble 0) (part_of 0 Absent)) g → Reach c g
    reach_first c g r k e = r last k e

    -- empty lines
    reach_lead : (lead : ℕ) → lead ≤ max_preamble → Reach (empty_lines lead []) (place tag n h t b (Preamble lead) (part_of 0 Absent))
    reach_lead lead few = reach_first (empty_lines lead []) (place tag n h t b (Preamble lead) (part_of 0 Absent))
        (lead_runs tag n h t b (part_of 0 Absent) lead 0 lead (omega arith) (omega arith))

    -- the first byte of the first mark
    reach_dash : (lead : ℕ) → lead ≤ max_preamble → Reach (empty_lines lead [] ++ (own 45 ∷ [])) (place tag n h t b (FirstDelimiter 3) (part_of 0 Absent))
    reach_dash lead few =
        reach_runs (empty_lines lead []) (own 45 ∷ []) (place tag n h t b (Preamble lead) (part_of 0 Absent))
        (place tag n h t b (FirstDelimiter 3) (part_of 0 Absent)) (reach_lead lead few)
        (runs_one tag n (own 45) (place tag n h t b (Preamble lead) (part_of 0 Absent)) (place tag n h t b (FirstDelimiter 3) (part_of 0 Absent)) (λ k. refl)
        (λ k. refl) (λ k. refl) (λ k. refl))

    -- a part's empty line, behind lines that are announced
    opens : (marked : List Cell) (fields : List (List ℕ)) (v : List ℕ) (k : ℕ) → Announced n b (suc last) marked fields v
        → suc last ≡ length (part_opened marked fields) + suc k
        → next tag n (in_part h t b fields (suc k) [] true) (own 10) ≡ place tag n h t b (Data (first_of (range_field v)) (span_of (range_field v)))
        (part_said fields) k
    unfolding part_end
    opens marked fields v k a e =
        let need : needed b v ≤ suc k = omega (arith, e, a.fit) in
        let q = a.lines in
        rw (q.has_range_line, some-lines fields v q, right_has n (range_field v) q.right, q.right, q.ours, le-leb (needed b v) (suc k) need)
      where
        some-lines : (fields : List (List ℕ)) (v : List ℕ) → PartLines n fields v → eqb (length fields) 0 ≡ false
        some-lines [] v q = absurd (omega (arith, q.one_range))
        some-lines (f ∷ fields) v q = ne_eqb (length (f ∷ fields)) 0 (λ z. omega arith)

    -- CR LF behind a mark
    begin_runs : (parts : Bool) (x : PartHead) → Runs tag n (own 13 ∷ own 10 ∷ []) (place tag n h t b (fork parts) x) (λ k. in_part h t b [] k [] false)
    begin_runs parts x =
        runs_then tag n (own 13 ∷ []) (own 10 ∷ []) (place tag n h t b (fork parts) x) (place tag n h t b PartBegin x) (λ k. in_part h t b [] k [] false)
        (cr_runs parts x)
        (runs_one tag n (own 10) (place tag n h t b PartBegin x) (λ k. in_part h t b [] k [] false) (λ k. refl) (λ k. refl) (λ k. refl) (λ k. refl))

    -- the lines of a part so far
    lines_far : (parts : Bool) (x : PartHead) (fields : List (List ℕ)) (l : List ℕ) (cr : Bool) → PartHeading fields → Line l
        → Runs tag n (own_then (crlf ++ lines_then fields (so_far l cr)) []) (place tag n h t b (fork parts) x) (λ k. in_part h t b fields k l cr)
    lines_far parts x fields l cr heading line =
        runs_then tag n (own 13 ∷ own 10 ∷ []) (own_then (lines_then fields (so_far l cr)) []) (place tag n h t b (fork parts) x)
        (λ k. in_part h t b [] k [] false) (λ k. in_part h t b fields k l cr) (begin_runs parts x)
        (lines-run tag n h t b fields [] (so_far l cr) (λ k. in_part h t b fields k l cr) heading (far_runs tag n h t b fields l cr line))

    -- the lines of a part that are announced
    reach_opened : (parts : Bool) (x : PartHead) (marked : List Cell) (fields : List (List ℕ)) (v : List ℕ) → Reach marked (place tag n h t b (fork parts) x)
        → Announced n b (suc last) marked fields v
        → Reach (part_opened marked fields) (place tag n h t b (Data (first_of (range_field v)) (span_of (range_field v))) (part_said fields))
    reach_opened parts x marked fields v r a =
        let before = marked ++ own_then (crlf ++ lines_then fields (13 ∷ [])) [] in
        let q = a.lines in
        let lines = reach_runs marked (own_then (crlf ++ lines_then fields (13 ∷ [])) []) (place tag n h t b (fork parts) x)
        (λ k. in_part h t b fields k [] true) r
        (lines_far parts x fields [] true (record { lines = q.lines; few = q.few; one_range = omega (arith, q.one_range) })
        (record { bytes = refl; short = omega arith })) in
        subst (λ (c : List Cell). Reach c (place tag n h t b (Data (first_of (range_field v)) (span_of (range_field v))) (part_said fields)))
        (sym (opened_is marked fields))
        (reach_more before (own 10 ∷ []) (λ k. in_part h t b fields k [] true)
        (place tag n h t b (Data (first_of (range_field v)) (span_of (range_field v))) (part_said fields)) lines (ends before (opened_is marked fields) a))
      where
        ends : (before : List Cell) → part_opened marked fields ≡ before ++ (own 10 ∷ []) → Announced n b (suc last) marked fields v → (j k : ℕ)
            → last ≡ length before + j → j ≡ length {A = Cell} (own 10 ∷ []) + k
            → Leads tag n (in_part h t b fields j [] true) (own 10 ∷ [])
            (place tag n h t b (Data (first_of (range_field v)) (span_of (range_field v))) (part_said fields) k)
        ends before is a zero k e f = absurd (omega arith)
        ends before is a (suc j) k e f =
            let same : j ≡ k = omega arith in
            let all = ap length is ∙ length-append before (own 10 ∷ []) in
            lead_step tag n (in_part h t b fields (suc j) [] true)
            (place tag n h t b (Data (first_of (range_field v)) (span_of (range_field v))) (part_said fields) k)
            (place tag n h t b (Data (first_of (range_field v)) (span_of (range_field v))) (part_said fields) k) (own 10) []
            (opens marked fields v j a (omega arith) ∙ rw same) refl refl refl
            (lead_none tag n (place tag n h t b (Data (first_of (range_field v)) (span_of (range_field v))) (part_said fields) k))

    -- a part's data that is announced has a byte
    some_span : (marked : List Cell) (fields : List (List ℕ)) (v : List ℕ) → Announced n b (suc last) marked fields v → 1 ≤ span_of (range_field v)
    some_span marked fields v a = let r = right_span n (range_field v) a.lines.right in omega (arith, r.0)

    -- all of a part's data
    reach_data : (parts : Bool) (x : PartHead) (marked : List Cell) (fields : List (List ℕ)) (v bytes : List ℕ)
        → Reach marked (place tag n h t b (fork parts) x) → Announced n b (suc last) marked fields v
        → length bytes ≡ span_of (range_field v) → Reach (part_opened marked fields ++ from_then (first_of (range_field v)) bytes [])
        (place tag n h t b (Delimiter 0) (part_said fields))
    reach_data parts x marked fields v bytes r a all =
        reach_runs (part_opened marked fields) (from_then (first_of (range_field v)) bytes [])
        (place tag n h t b (Data (first_of (range_field v)) (span_of (range_field v))) (part_said fields)) (place tag n h t b (Delimiter 0) (part_said fields))
        (reach_opened parts x marked fields v r a)
        (all_data tag n h t b (part_said fields) bytes (first_of (range_field v)) (span_of (range_field v)) (some_span marked fields v a) all)

    -- all of a part's data, and more behind it
    pub data_more : (marked : List Cell) (fields : List (List ℕ)) (v bytes m : List ℕ)
        → part_opened marked fields ++ from_then (first_of (range_field v)) bytes (own_then m []) ≡
        (part_opened marked fields ++ from_then (first_of (range_field v)) bytes []) ++ own_then m []
    data_more marked fields v bytes m =
        ap (λ (c : List Cell). part_opened marked fields ++ c) (from-before (first_of (range_field v)) bytes (own_then m []))
        ∙ sym (append_assoc (part_opened marked fields) (from_then (first_of (range_field v)) bytes []) (own_then m []))

    -- up to and with a mark
    reach_marked : (parts : Bool) (cells : List Cell) (m : Marked n b (suc last) parts cells)
        → Reach cells (place tag n h t b (fork parts) (part_before n b (suc last) parts cells m))
    reach_marked parts cells (first lead few none_yet is) =
        rw (is, none_yet, empty_before lead (own_then (dash_boundary b) []), sym (append_assoc (empty_lines lead []) (own 45 ∷ []) (own 45 ∷ own_then b [])))
        (reach_runs (empty_lines lead [] ++ (own 45 ∷ [])) (own 45 ∷ own_then b []) (place tag n h t b (FirstDelimiter 3) (part_of 0 Absent))
        (place tag n h t b AfterFirstDelimiter (part_of 0 Absent)) (reach_dash lead few)
        (rest_mark tag n h t b (part_of 0 Absent) FirstDelimiter AfterFirstDelimiter (λ i. refl) (λ i. refl) (λ i. refl) refl (λ i k c. refl) b
        (13 ∷ 10 ∷ 45 ∷ []) 45 3 refl refl))
    reach_marked parts cells (next-part before marked fields v bytes m a all some-yet is) =
        rw (is, some-yet, data_more marked fields v bytes (crlf ++ dash_boundary b))
        (reach_runs (part_opened marked fields ++ from_then (first_of (range_field v)) bytes []) (own_then (crlf ++ dash_boundary b) [])
        (place tag n h t b (Delimiter 0) (part_said fields)) (place tag n h t b AfterDelimiter (part_said fields))
        (reach_data before (part_before n b (suc last) before marked m) marked fields v bytes (reach_marked before marked m) a all)
        (rest_mark tag n h t b (part_said fields) Delimiter AfterDelimiter (λ i. refl) (λ i. refl) (λ i. refl) refl (λ i k c. refl)
        (10 ∷ dash_boundary b) [] 13 0 refl refl))

    -- the bytes of the first mark behind its first one
    reach_seen : (lead : ℕ) (seen : List ℕ) (c : ℕ) (more : List ℕ) → lead ≤ max_preamble → (seen ≡ [] → ⊥) → dash_boundary b ≡ seen ++ (c ∷ more)
        → Reach (empty_lines lead (own_then seen [])) (place tag n h t b (FirstDelimiter (2 + length seen)) (part_of 0 Absent))
    reach_seen lead [] c more few some-seen is = absurd (some-seen refl)
    reach_seen lead (d ∷ seen) c more few some-seen is =
        let dash : 45 ≡ d = ap head_or is in
        let behind : 45 ∷ b ≡ seen ++ (c ∷ more) = ap tail_of is in
        rw (sym dash, empty_before lead (own 45 ∷ own_then seen []), sym (append_assoc (empty_lines lead []) (own 45 ∷ []) (own_then seen [])))
        (reach_runs (empty_lines lead [] ++ (own 45 ∷ [])) (own_then seen []) (place tag n h t b (FirstDelimiter 3) (part_of 0 Absent))
        (place tag n h t b (FirstDelimiter (2 + length (d ∷ seen))) (part_of 0 Absent)) (reach_dash lead few)
        (some-mark tag n h t b (part_of 0 Absent) FirstDelimiter AfterFirstDelimiter (λ i. refl) (λ i. refl) (λ i. refl) refl (λ i k c. refl) seen
        (13 ∷ 10 ∷ 45 ∷ []) c more 3 (2 + length (d ∷ seen))
        (ap (λ (l : List ℕ). 13 ∷ 10 ∷ 45 ∷ l) behind) refl (omega arith)))
      where
        head_or : List ℕ → ℕ
        head_or [] = 0
        head_or (x ∷ l) = x

        tail_of : List ℕ → List ℕ
        tail_of [] = []
        tail_of (x ∷ l) = l

    -- some bytes of a part's data
    reach_some_data : (parts : Bool) (x : PartHead) (marked : List Cell) (fields : List (List ℕ)) (v bytes : List ℕ)
        → Reach marked (place tag n h t b (fork parts) x) → Announced n b (suc last) marked fields v
        → length bytes < span_of (range_field v)
        → Reach (part_opened marked fields ++ from_then (first_of (range_field v)) bytes [])
        (place tag n h t b (Data (first_of (range_field v) + length bytes) (span_of (range_field v) - length bytes)) (part_said fields))
    reach_some_data parts x marked fields v bytes r a part-way =
        let m = span_of (range_field v) - suc (length bytes) in
        let left : span_of (range_field v) - length bytes ≡ suc m = omega arith in
        rw left
        (reach_runs (part_opened marked fields) (from_then (first_of (range_field v)) bytes [])
        (place tag n h t b (Data (first_of (range_field v)) (span_of (range_field v))) (part_said fields))
        (place tag n h t b (Data (first_of (range_field v) + length bytes) (suc m)) (part_said fields)) (reach_opened parts x marked fields v r a)
        (some_data tag n h t b (part_said fields) bytes (first_of (range_field v)) (first_of (range_field v) + length bytes) (span_of (range_field v)) m refl
        (omega arith)))

    -- the first `-` of the closing mark
    reach_close : (marked : List Cell) (m : Marked n b (suc last) true marked)
        → Reach (marked ++ (own 45 ∷ [])) (place tag n h t b Closing (part_before n b (suc last) true marked m))
    reach_close marked m =
        let x = part_before n b (suc last) true marked m in
        reach_runs marked (own 45 ∷ []) (place tag n h t b AfterDelimiter x) (place tag n h t b Closing x) (reach_marked true marked m)
        (runs_one tag n (own 45) (place tag n h t b AfterDelimiter x) (place tag n h t b Closing x) (λ k. refl) (λ k. refl) (λ k. refl) (λ k. refl))

    -- a front within a multipart leads to where the parser stands behind it
    pub parts_reach : (cells : List Cell) (w : Within n b (suc last) cells) → Reach cells (partsState (suc last) cells w)
    parts_reach cells (in_lead lead few is) = rw is (reach_lead lead few)
    parts_reach cells (in_lead_end lead few is) =
        rw (is, empty_before lead (own 13 ∷ []))
        (reach_runs (empty_lines lead []) (own 13 ∷ []) (place tag n h t b (Preamble lead) (part_of 0 Absent))
        (place tag n h t b (PreambleEnd lead) (part_of 0 Absent)) (reach_lead lead (omega arith))
        (runs_one tag n (own 13) (place tag n h t b (Preamble lead) (part_of 0 Absent)) (place tag n h t b (PreambleEnd lead) (part_of 0 Absent))
        (λ k. rw (lt-ltb lead max_preamble few)) (λ k. refl) (λ k. refl) (λ k. refl)))
    parts_reach cells (in_mark lead seen c more few some-seen mark-is is) = rw is (reach_seen lead seen c more few some-seen mark-is)
    parts_reach cells (behind_mark parts m) = reach_marked parts cells m
    parts_reach cells (behind_cr parts marked m is) =
        rw is
        (reach_runs marked (own 13 ∷ []) (place tag n h t b (fork parts) (part_before n b (suc last) parts marked m))
        (place tag n h t b PartBegin (part_before n b (suc last) parts marked m)) (reach_marked parts marked m)
        (cr_runs parts (part_before n b (suc last) parts marked m)))
    parts_reach cells (behind_dash marked m is) = rw is (reach_close marked m)
    parts_reach cells (in_line parts marked fields l cr m heading line is) =
        rw is
        (reach_runs marked (own_then (crlf ++ lines_then fields (so_far l cr)) []) (place tag n h t b (fork parts) (part_before n b (suc last) parts marked m))
        (λ k. in_part h t b fields k l cr) (reach_marked parts marked m)
        (lines_far parts (part_before n b (suc last) parts marked m) fields l cr heading line))
    parts_reach cells (in_data parts marked fields v bytes m a part-way is) =
        rw is (reach_some_data parts (part_before n b (suc last) parts marked m) marked fields v bytes (reach_marked parts marked m) a part-way)
    parts_reach cells (behind_data parts marked fields v bytes seen c more m a all mark-is is) =
        rw (is, data_more marked fields v bytes seen)
        (reach_runs (part_opened marked fields ++ from_then (first_of (range_field v)) bytes []) (own_then seen [])
        (place tag n h t b (Delimiter 0) (part_said fields)) (place tag n h t b (Delimiter (length seen)) (part_said fields))
        (reach_data parts (part_before n b (suc last) parts marked m) marked fields v bytes (reach_marked parts marked m) a all)
        (some-mark tag n h t b (part_said fields) Delimiter AfterDelimiter (λ i. refl) (λ i. refl) (λ i. refl) refl (λ i k c. refl) seen [] c more 0
        (length seen) mark-is refl (omega arith)))
    parts_reach cells (behind_close marked anything m is) =
        let x = part_before n b (suc last) true marked m in
        rw (is, sym (append_assoc marked (own 45 ∷ []) (own 45 ∷ own_then anything [])))
        (reach_runs (marked ++ (own 45 ∷ [])) (own 45 ∷ own_then anything []) (place tag n h t b Closing x) (place tag n h t b Epilogue x) (reach_close marked m)
        (runs_then tag n (own 45 ∷ []) (own_then anything []) (place tag n h t b Closing x) (place tag n h t b Epilogue x) (place tag n h t b Epilogue x)
        (runs_one tag n (own 45) (place tag n h t b Closing x) (place tag n h t b Epilogue x) (λ k. refl) (λ k. refl) (λ k. refl) (λ k. refl))
        (rest_runs tag n h t b x anything)))
