-- The body's bytes keep the reader's rule, and so does every byte.
-- Assumes nothing.
use Prim.Native.Nat.{ℕ, zero, suc, ◌+◌, ◌≤◌, ◌<◌}
use native.Mathlib.Omega.{arith}
use mathlib.Core.Path.{◌≡◌, refl}
use mathlib.Core.Bool.{true, false, not, ◌||◌}
use mathlib.Core.List.{List, [], ◌∷◌}
use lib.Dec.{leb, ltb, eqb}
use lib.ListN.{length, get_or}
use borrow.Author.Tests.{ltb-true, leb-true, leb-false, eqb-false}
use Rattle.rules_tablet.specs.Limits.{max_part_lines, max_preamble}
use Rattle.rules_tablet.specs.Lines.{LineStep, going, whole, broken, line_step}
use Rattle.rules_tablet.specs.Fields.{is_field, name_of, value_of, Name, etag, type, range, size, transfer, other, kind_of, is_wrong, is_foreign, first_of, last_of}
use Rattle.rules_tablet.specs.Heads.{has_range, span_of}
use Rattle.rules_tablet.specs.Parsers.{Parser, at, refuse, with_line, with_part, delimiter, delimiter_step, part_field, part_line, fits, part_end, part_step, data_step}
use Rattle.rules_tablet.specs.Parsers.{body_step, last_byte, count_byte, parse}
use Rattle.rules_tablet.specs.Calls.{range_ok}
use Rattle.rules_tablet.specs.declared.PartHead.{PartHead}
use Rattle.rules_tablet.specs.declared.Stage.{Stage}
use Rattle.rules_tablet.specs.declared.Stage.TheVariants.{Status, Fields, Plain, Skip, Preamble, PreambleEnd, FirstDelimiter, Delimiter, AfterFirstDelimiter}
use Rattle.rules_tablet.specs.declared.Stage.TheVariants.{AfterDelimiter, PartBegin, Closing, PartLine, Data, Epilogue, Finished, Refused}
use Rattle.laws_reader.proofs.Stages.{each}
use Rattle.laws_reader.proofs.rules_kept.Tests.{by_test}
use Rattle.laws_reader.proofs.rules_kept.Rules.{Frame, Accepted, Parted, known, Room, Reader, relined, recounted, reparted}
use Rattle.laws_reader.proofs.rules_kept.Lines.{LineFits, line-fits, range_small, right_span}
use Rattle.laws_reader.proofs.rules_kept.Heads.{refusing, status_step_lem, fields_step_lem}

-- a reader behind a byte of the body, with a bytes still to come
record Step (t : List ℕ) (n : ℕ) (a : ℕ) (q : Parser) : Type 0 where
  left : q.framing.after ≡ a
  frame : Frame q
  stands : Room t n q.stage a (known q)

module _ (t : List ℕ) (n : ℕ) (p : Parser) (f : Frame p) where
  -- the byte changes only where the reader stands
  moved : (s : Stage) → Room t n s p.framing.after (known p) → Step t n p.framing.after (at s p)
  moved s h = record { left = refl; frame = f; stands = h }

  -- a refusal
  stopped : (k : ℕ) → (11 ≤ k) × (k ≤ 17) → Step t n p.framing.after (refuse k p)
  stopped k h = moved (Refused k) h

  -- by 15, "the first byte that cannot fit"
  unfit : Step t n p.framing.after (refuse 15 p)
  unfit = stopped 15 (omega arith)

  -- of an accepted body one byte more was read
  less : Accepted t n (suc p.framing.after) p.head p.tag → Accepted t n p.framing.after p.head p.tag
  less a = record { judged = a.judged; within = omega (arith, a.within) }

  -- of one of several parts
  fewer : Parted t n (suc p.framing.after) p.head p.tag → Parted t n p.framing.after p.head p.tag
  fewer h = record { accepted = less h.accepted; several = h.several }

  -- a byte of the delimiter
  mark_step : (i : ℕ) (on : ℕ → Stage) (end : Stage) (b : ℕ) (s : Stage)
      → Room t n end p.framing.after (known p)
      → (eqb (suc i) (length (delimiter p)) ≡ false → Room t n (on (suc i)) p.framing.after (known p))
      → Step t n p.framing.after (delimiter_step i on end b (at s p))
  mark_step i on end b s h g =
      by_test (Step t n p.framing.after) (eqb b (get_or (delimiter p) i 0))
      (λ e. by_test (Step t n p.framing.after) (eqb (suc i) (length (delimiter p))) (λ x. moved end h) (λ x. moved (on (suc i)) (g x)))
      (λ e. unfit)

  -- a byte of a part's data
  data_step_lem : (next left : ℕ) → Room t n (Data next left) (suc p.framing.after) (known p)
      → Step t n p.framing.after (data_step next left (at (Data next left) p))
  data_step_lem next zero h = unfit
  data_step_lem next (suc zero) h = moved (Delimiter 0) (fewer h.0, omega arith)
  data_step_lem next (suc (suc k)) h =
      moved (Data (suc next) (suc k)) (
        fewer h.0,
        omega arith,
        omega arith,
        omega arith,
        record { right = h.4.right; own = h.4.own; within = omega (arith, h.4.within); ends = omega (arith, h.4.ends) },
      )

  module _ (h : Parted t n p.framing.after p.head p.tag) where
    -- a part with one line more
    with_range_lem : (x : PartHead) → x.lines ≤ max_part_lines → range_ok x.range ≡ true → Step t n p.framing.after (with_part x (at PartLine p))
    with_range_lem x i r = record { left = refl; frame = reparted p x i r f; stands = h }

    -- a part's field line, with room for one more
    part_field_lem : (k : Name) (v : List ℕ) → p.part.lines < max_part_lines → Step t n p.framing.after (part_field k v (at PartLine p) p.part)
    part_field_lem etag v i = with_range_lem _ i f.part_range
    part_field_lem type v i = with_range_lem _ i f.part_range
    part_field_lem range v i =
        by_test (Step t n p.framing.after) (has_range p.part.range) (λ e. unfit) (λ e. with_range_lem _ i (range_small v))
    part_field_lem size v i = with_range_lem _ i f.part_range
    part_field_lem transfer v i = with_range_lem _ i f.part_range
    part_field_lem other v i = with_range_lem _ i f.part_range

    -- a part's whole line
    part_line_lem : (l : List ℕ) → Step t n p.framing.after (part_line l (at PartLine p))
    unfolding part_line
    part_line_lem l =
        by_test (Step t n p.framing.after) (leb max_part_lines p.part.lines) (λ e. unfit)
        (λ e. by_test (Step t n p.framing.after) (is_field l) (λ i. part_field_lem (kind_of (name_of l)) (value_of l) (leb-false _ _ e)) (λ i. unfit))

    -- a part's empty line
    part_end_lem : Step t n p.framing.after (part_end n (at PartLine p))
    unfolding part_end
    part_end_lem =
        by_test (Step t n p.framing.after) (eqb p.part.lines 0 || not (has_range p.part.range)) (λ e. unfit)
        (λ e. by_test (Step t n p.framing.after) (is_wrong n p.part.range) (λ w. stopped 14 (omega arith))
        (λ w. by_test (Step t n p.framing.after) (is_foreign n p.part.range) (λ x. stopped 13 (omega arith))
        (λ x. by_test (Step t n p.framing.after) (fits p) (λ i. data_next (right_span n p.part.range w) (leb-true _ _ i) w x) (λ i. unfit))))
      where
        data_next : (first_of p.part.range ≤ last_of p.part.range) × (last_of p.part.range < n)
            → span_of p.part.range + 2 + (length p.boundary + 4) ≤ p.framing.after
            → is_wrong n p.part.range ≡ false
            → is_foreign n p.part.range ≡ false
            → Step t n p.framing.after (at (Data (first_of p.part.range) (span_of p.part.range)) (with_line [] false (at PartLine p)))
        data_next r i w x = record {
          left = refl;
          frame = relined p [] false (omega arith) f;
          stands = (h, omega arith, omega arith, i, record { right = w; own = x; within = omega arith; ends = refl });
        }

    -- a byte of a part's line
    part_step_lem : (x : LineStep) → LineFits x → Step t n p.framing.after (part_step n x (at PartLine p))
    part_step_lem (going l cr) i = record { left = refl; frame = relined p l cr i f; stands = h }
    part_step_lem (whole []) i = part_end_lem
    part_step_lem (whole (x ∷ l)) i = part_line_lem (x ∷ l)
    part_step_lem broken i = unfit

  -- a byte of the body
  body_step_lem : (s : Stage) (b : ℕ) → Room t n s (suc p.framing.after) (known p) → Step t n p.framing.after (body_step n s b (at s p))
  body_step_lem Status b h = moved Status tt
  body_step_lem Fields b h = moved Fields tt
  body_step_lem (Plain next) b h = moved (Plain (suc next)) (
    record { accepted = less h.0.accepted; single = h.0.single; ends = omega (arith, h.0.ends) },
    omega arith,
  )
  body_step_lem Skip b h = moved Skip (less h.0, h.1)
  body_step_lem (Preamble k) b h =
      by_test (Step t n p.framing.after) (eqb b 13)
      (λ e. by_test (Step t n p.framing.after) (ltb k max_preamble) (λ i. moved (PreambleEnd k) (fewer h.0, ltb-true _ _ i)) (λ i. unfit))
      (λ e. by_test (Step t n p.framing.after) (eqb b 45) (λ i. moved (FirstDelimiter 3) (fewer h.0, omega arith, omega arith)) (λ i. unfit))
  body_step_lem (PreambleEnd k) b h = by_test (Step t n p.framing.after) (eqb b 10) (λ e. moved (Preamble (suc k)) (fewer h.0, h.1)) (λ e. unfit)
  body_step_lem (FirstDelimiter i) b h = mark_step i FirstDelimiter AfterFirstDelimiter b (FirstDelimiter i) (fewer h.0)
      (λ x. (fewer h.0, omega arith, omega (arith, eqb-false)))
  body_step_lem (Delimiter i) b h = mark_step i Delimiter AfterDelimiter b (Delimiter i) (fewer h.0) (λ x. (fewer h.0, omega (arith, eqb-false)))
  body_step_lem AfterFirstDelimiter b h = by_test (Step t n p.framing.after) (eqb b 13) (λ e. moved PartBegin (fewer h)) (λ e. unfit)
  body_step_lem AfterDelimiter b h =
      by_test (Step t n p.framing.after) (eqb b 13) (λ e. moved PartBegin (fewer h))
      (λ e. by_test (Step t n p.framing.after) (eqb b 45) (λ i. moved Closing (fewer h)) (λ i. unfit))
  body_step_lem PartBegin b h = by_test (Step t n p.framing.after) (eqb b 10) (λ e. with_range_lem (fewer h) _ (omega arith) refl) (λ e. unfit)
  body_step_lem Closing b h = by_test (Step t n p.framing.after) (eqb b 45) (λ e. moved Epilogue (fewer h)) (λ e. unfit)
  body_step_lem PartLine b h = part_step_lem (fewer h) (line_step p.line p.cr b) (line-fits p.line p.cr b f.line)
  body_step_lem (Data next left) b h = data_step_lem next left h
  body_step_lem Epilogue b h = moved Epilogue (fewer h)
  body_step_lem Finished b h = moved Finished tt
  body_step_lem (Refused k) b h = moved (Refused k) h

  -- the last counted byte
  last_byte_lem : (s : Stage) (m : ℕ) → Room t n s m (known p) → Reader t n (last_byte s (at s p))
  last_byte_lem s m =
      each (λ x. Room t n x m (known p) → Reader t n (last_byte x (at x p)))
      (no, no, λ next. end, end, λ k. no, λ k. no, λ i. no, λ i. no, no, no, no, no, no, λ next left. no, end, end, λ k h. record { frame = f; stands = h }) s
    where
      -- 15
      no : {A : Type 0} → A → Reader t n (refuse 15 p)
      no a = refusing t n p f 15 (omega arith)

      -- finished
      end : {A : Type 0} → A → Reader t n (at Finished p)
      end a = record { frame = f; stands = tt }

-- the framing behind a byte of the body
framed_step : (t : List ℕ) (n : ℕ) (a : ℕ) (q : Parser) → Step t n a q → Reader t n (count_byte a q)
framed_step t n zero q r = last_byte_lem t n q r.frame q.stage 0 r.stands
framed_step t n (suc k) q r = record { frame = recounted q k (omega (arith, r.frame.after, r.left)) r.frame; stands = r.stands }

-- a byte wherever the reader stands
parse_step : (t : List ℕ) (n : ℕ) (p : Parser) (f : Frame p) (s : Stage) (b : ℕ) → Room t n s (suc p.framing.after) (known p)
    → Reader t n (parse t n s b (at s p))
parse_step t n p f Status b h = status_step_lem t n p f (line_step p.line p.cr b) (line-fits p.line p.cr b f.line)
parse_step t n p f Fields b h = fields_step_lem t n p f (line_step p.line p.cr b) (line-fits p.line p.cr b f.line)
parse_step t n p f (Plain next) b h = framed_step t n p.framing.after _ (body_step_lem t n p f (Plain next) b h)
parse_step t n p f Skip b h = framed_step t n p.framing.after _ (body_step_lem t n p f Skip b h)
parse_step t n p f (Preamble k) b h = framed_step t n p.framing.after _ (body_step_lem t n p f (Preamble k) b h)
parse_step t n p f (PreambleEnd k) b h = framed_step t n p.framing.after _ (body_step_lem t n p f (PreambleEnd k) b h)
parse_step t n p f (FirstDelimiter i) b h = framed_step t n p.framing.after _ (body_step_lem t n p f (FirstDelimiter i) b h)
parse_step t n p f (Delimiter i) b h = framed_step t n p.framing.after _ (body_step_lem t n p f (Delimiter i) b h)
parse_step t n p f AfterFirstDelimiter b h = framed_step t n p.framing.after _ (body_step_lem t n p f AfterFirstDelimiter b h)
parse_step t n p f AfterDelimiter b h = framed_step t n p.framing.after _ (body_step_lem t n p f AfterDelimiter b h)
parse_step t n p f PartBegin b h = framed_step t n p.framing.after _ (body_step_lem t n p f PartBegin b h)
parse_step t n p f Closing b h = framed_step t n p.framing.after _ (body_step_lem t n p f Closing b h)
parse_step t n p f PartLine b h = framed_step t n p.framing.after _ (body_step_lem t n p f PartLine b h)
parse_step t n p f (Data next left) b h = framed_step t n p.framing.after _ (body_step_lem t n p f (Data next left) b h)
parse_step t n p f Epilogue b h = framed_step t n p.framing.after _ (body_step_lem t n p f Epilogue b h)
parse_step t n p f Finished b h = record { frame = f; stands = tt }
parse_step t n p f (Refused k) b h = record { frame = f; stands = h }

-- every byte keeps the reader's rule
pub parse_keeps : (t : List ℕ) (n : ℕ) (p : Parser) (b : ℕ) → Reader t n p → Reader t n (parse t n p.stage b p)
parse_keeps t n p b r = parse_step t n p r.frame p.stage b r.stands
