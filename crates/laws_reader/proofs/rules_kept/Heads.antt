-- The head's lines keep the reader's rule, and so does the judgement at its empty line.
-- Assumes nothing.
use Prim.Native.Nat.{ℕ, zero, suc, ◌+◌, ◌≤◌, ◌<◌}
use native.Mathlib.Omega.{arith}
use mathlib.Core.Path.{◌≡◌, refl}
use mathlib.Core.Bool.{true, false, ◌||◌}
use mathlib.Core.List.{List, [], ◌∷◌}
use lib.Dec.{leb}
use lib.ListN.{length}
use borrow.Author.Tests.{leb-false}
use Rattle.rules_server.specs.Limits.{max_tag, max_boundary}
use Rattle.rules_tablet.specs.Limits.{max_fields, max_size}
use Rattle.rules_tablet.specs.Lines.{LineStep, going, whole, broken}
use Rattle.rules_tablet.specs.Fields.{is_status_line, is_field, name_of, value_of, Name, etag, type, range, size, transfer, other, kind_of, is_size, first_of}
use Rattle.rules_tablet.specs.Heads.{has_range, has_type, is_multipart, has_size, size_of, is_ok, is_part, is_unsatisfied, other_status}
use Rattle.rules_tablet.specs.Heads.{broken_head, unlike_copy, wrong_range, empty_parts, head_refusal, body_stage}
use Rattle.rules_tablet.specs.Parsers.{Parser, at, refuse, with_line, with_head, with_framing, counted_body}
use Rattle.rules_tablet.specs.Parsers.{head_field, field_line, begin_body, judged, head_end, status_line}
use Rattle.rules_tablet.specs.Parsers.{status_step, fields_step}
use Rattle.rules_tablet.specs.Calls.{range_ok, type_ok}
use Rattle.rules_tablet.specs.declared.Head.{Head}
use Rattle.rules_tablet.specs.declared.Stage.{Stage}
use Rattle.rules_tablet.specs.declared.Stage.TheVariants.{Status, Fields}
use Rattle.laws_reader.proofs.rules_kept.Tests.{by_test}
use Rattle.laws_reader.proofs.rules_kept.Accepted.{ok_first, partial, plain-fits}
use Rattle.laws_reader.proofs.rules_kept.Rules.{Frame, Accepted, Unparted, Reader, relined, recounted}
use Rattle.laws_reader.proofs.rules_kept.Lines.{LineFits, range_small, size_fits, tag-fits, type_fits}

module _ (t : List ℕ) (n : ℕ) (p : Parser) (f : Frame p) where
  -- a refusal keeps the rule
  pub refusing : (k : ℕ) → (11 ≤ k) × (k ≤ 17) → Reader t n (refuse k p)
  refusing k h = record { frame = f; stands = h }

  -- by 11, "any other fault of one line alone"
  faulty : Reader t n (refuse 11 p)
  faulty = refusing 11 (omega arith)

  -- another head, and a field line is next
  with_head_lem : (h : Head) (v b : List ℕ)
      → h.lines ≤ max_fields → length v ≤ max_tag → length b ≤ max_boundary → type_ok h.media b ≡ true → range_ok h.range ≡ true → size_of h.size ≤ max_size
      → Reader t n (with_head h v b (at Fields p))
  with_head_lem h v b fields tag boundary media head_range room = record {
    frame = record {
      line = omega arith;
      fields = fields;
      lines = f.lines;
      tag = tag;
      boundary = boundary;
      media = media;
      head_range = head_range;
      part_range = f.part_range;
      size = room;
      after = f.after;
    };
    stands = tt;
  }

  -- the status line
  status_line_lem : (l : List ℕ) → Reader t n (status_line l (at Status p))
  unfolding status_line
  status_line_lem l =
      by_test (Reader t n) (is_status_line l)
      (λ e. with_head_lem _ _ _ f.fields f.tag f.boundary f.media f.head_range f.size)
      (λ e. faulty)

  -- a byte of the status line
  pub status_step_lem : (x : LineStep) → LineFits x → Reader t n (status_step x (at Status p))
  status_step_lem (going l cr) h = record { frame = relined p l cr h f; stands = tt }
  status_step_lem (whole l) h = status_line_lem l
  status_step_lem broken h = faulty

  -- a field line of the head, with room for one more
  head_field_lem : (k : Name) (v : List ℕ) → p.head.lines < max_fields → Reader t n (head_field k v (at Fields p) p.head)
  head_field_lem etag v h =
      by_test (Reader t n) p.head.has_tag (λ e. faulty)
      (λ e. with_head_lem _ _ _ h (tag-fits v) f.boundary f.media f.head_range f.size)
  head_field_lem type v h =
      by_test (Reader t n) (has_type p.head.media) (λ e. faulty)
      (λ e. with_head_lem _ _ _ h f.tag (type_fits v).0 (type_fits v).1 f.head_range f.size)
  head_field_lem range v h =
      by_test (Reader t n) (has_range p.head.range) (λ e. faulty)
      (λ e. with_head_lem _ _ _ h f.tag f.boundary f.media (range_small v) f.size)
  head_field_lem size v h =
      by_test (Reader t n) (has_size p.head.size) (λ e. faulty)
      (λ e. by_test (Reader t n) (is_size v)
      (λ i. with_head_lem _ _ _ h f.tag f.boundary f.media f.head_range (size_fits v i))
      (λ i. faulty))
  head_field_lem transfer v h = faulty
  head_field_lem other v h =
      with_head_lem _ _ _ h f.tag f.boundary f.media f.head_range f.size

  -- a whole field line
  field_line_lem : (l : List ℕ) → Reader t n (field_line l (at Fields p))
  unfolding field_line
  field_line_lem l =
      by_test (Reader t n) (leb max_fields p.head.lines) (λ e. faulty)
      (λ e. by_test (Reader t n) (is_field l) (λ i. head_field_lem (kind_of (name_of l)) (value_of l) (leb-false _ _ e)) (λ i. faulty))

  -- the body of an accepted head
  begun : head_refusal t n p.head p.tag ≡ 0 → (k : ℕ) → size_of p.head.size ≡ k → Reader t n (begin_body k (with_line [] false (at Fields p)))
  unfolding body_stage
  begun j zero e = record { frame = relined p [] false (omega arith) f; stands = tt }
  begun j (suc k) e =
      let q = with_line [] false (at Fields p) in
      let room = recounted q k (omega (arith, f.size)) (relined p [] false (omega arith) f) in
      let P : Stage → Type 0 = λ s. Reader t n (at s (with_framing (counted_body k) q)) in
      by_test P (is_unsatisfied p.head) (λ u. record { frame = room; stands = (accepted, u) })
      (λ u. by_test P (is_ok p.head)
      (λ o. record { frame = room; stands = plain 0 (rw o) (omega (arith, ok_first t n p.head p.tag j o)) })
      (λ o. by_test P (is_multipart p.head.media)
      (λ m. record { frame = room; stands = (record { accepted = accepted; several = rw (partial t n p.head p.tag j u o, m) }, omega arith) })
      (λ m. record { frame = room; stands = plain (first_of p.head.range) (rw (o, partial t n p.head p.tag j u o, m)) (omega arith) })))
    where
      accepted : Accepted t n (suc k) p.head p.tag
      accepted = record { judged = j; within = omega arith }

      plain : (next : ℕ) → (is_ok p.head || is_part p.head) ≡ true → next ≡ first_of p.head.range
          → Unparted t n (suc k) next p.head p.tag × (next + suc k ≤ n)
      plain next s i = (
        record { accepted = accepted; single = s; ends = omega arith },
        omega (arith, plain-fits t n p.head p.tag j s),
      )

  -- the head's empty line
  head_end_lem : Reader t n (head_end t n (at Fields p))
  unfolding head_end head_refusal
  head_end_lem =
      by_test P (other_status p.head) (λ e. refused 12 (omega arith))
      (λ a. by_test P (broken_head n p.head) (λ e. refused 11 (omega arith))
      (λ b. by_test P (unlike_copy t n p.head p.tag) (λ e. refused 13 (omega arith))
      (λ d. by_test P (wrong_range n p.head) (λ e. refused 14 (omega arith))
      (λ r. by_test P (empty_parts p.head) (λ e. refused 15 (omega arith))
      (λ e. begun (rw (a, b, d, r, e)) (size_of p.head.size) refl)))))
    where
      P : ℕ → Type 0
      P k = Reader t n (judged k (with_line [] false (at Fields p)))

      refused : (k : ℕ) → (11 ≤ k) × (k ≤ 17) → Reader t n (refuse k (with_line [] false p))
      refused k h = record { frame = relined p [] false (omega arith) f; stands = h }

  -- a byte of a field line
  pub fields_step_lem : (x : LineStep) → LineFits x → Reader t n (fields_step t n x (at Fields p))
  fields_step_lem (going l cr) h = record { frame = relined p l cr h f; stands = tt }
  fields_step_lem (whole []) h = head_end_lem
  fields_step_lem (whole (x ∷ l)) h = field_line_lem (x ∷ l)
  fields_step_lem broken h = faulty
