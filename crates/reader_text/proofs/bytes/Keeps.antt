-- A byte that is refused leaves the kept tag and the boundary as they were.
use Prim.Native.Nat.{ℕ, zero, suc, ◌≤◌}
use native.Mathlib.Omega.{arith}
use mathlib.Core.Bool.{true, false, not, ◌||◌, false≢true}
use mathlib.Core.List.{List, [], ◌∷◌}
use mathlib.Core.Path.{◌≡◌, refl, sym, ap, ◌∙◌}
use lib.Dec.{leb, eqb}
use lib.ListN.{length, take}
use lib.Seq.{length-take-le}
use Rattle.rules_tablet.specs.Fields.{is_status_line, is_field, name_of, value_of, Name, etag, type, range, size, transfer, other, kind_of, is_size, is_wrong}
use Rattle.rules_tablet.specs.Fields.{is_foreign}
use Rattle.rules_tablet.specs.Heads.{has_range, has_type, has_size, size_of, head_refusal}
use Rattle.rules_tablet.specs.Limits.{max_fields, max_part_lines}
use Rattle.rules_tablet.specs.Lines.{LineStep, going, whole, broken, line_step}
use Rattle.rules_tablet.specs.Parsers.{Parser, with_line, parse, count_byte, last_byte, fits, status_line, status_step, head_field, field_line, begin_body, judged}
use Rattle.rules_tablet.specs.Parsers.{head_end, fields_step, part_field, part_line, part_end, part_step, is_refused}
use Rattle.rules_tablet.specs.declared.Head.{Head}
use Rattle.rules_tablet.specs.declared.PartHead.{PartHead}
use Rattle.rules_tablet.specs.declared.Stage.TheVariants.{Fields}
use Rattle.rules_tablet.specs.declared.Stage.{Stage}
use Rattle.reader_state.specs.States.{parser_of, ArraysSized, Within}
use Rattle.reader_state.specs.declared.ReaderState.{ReaderState}
use Rattle.laws_reader.proofs.Stages.{each}
use Rattle.laws_runs.proofs.Lies.{on_cond}
use Rattle.reader_text.specs.Lines.{is_line, LineReady}
use Rattle.reader_text.proofs.bytes.Laws.{line_cases}

-- the kept tag and the boundary are p's
abbrev pub Keeps : Parser → Parser → Type 0
Keeps p q = (q.tag ≡ p.tag) × (q.boundary ≡ p.boundary)

-- they are where q is refused
abbrev pub Refuses : Parser → Parser → Type 0
Refuses p q = is_refused q.stage ≡ true → Keeps p q

-- a stage that is none of a refusal
open_stage : {A : Type 0} (s x : Stage) → s ≡ x → is_refused x ≡ false → is_refused s ≡ true → A
open_stage s x e f h = absurd (false≢true (sym f ∙ sym (ap is_refused e) ∙ h))

-- a field line
field_keeps : (k : Name) (v : List ℕ) (p : Parser) (h : Head) → p.stage ≡ Fields → Refuses p (head_field k v p h)
field_keeps etag v p h e = on_cond (Refuses p) h.has_tag _ _ (λ t u. (refl, refl)) (λ t. open_stage p.stage Fields e refl)
field_keeps type v p h e = on_cond (Refuses p) (has_type h.media) _ _ (λ t u. (refl, refl)) (λ t. open_stage p.stage Fields e refl)
field_keeps range v p h e = on_cond (Refuses p) (has_range h.range) _ _ (λ t u. (refl, refl)) (λ t u. (refl, refl))
field_keeps size v p h e =
    on_cond (Refuses p) (has_size h.size) _ _ (λ t u. (refl, refl))
    (λ t. on_cond (Refuses p) (is_size v) _ _ (λ s u. (refl, refl)) (λ s u. (refl, refl)))
field_keeps transfer v p h e = λ u. (refl, refl)
field_keeps other v p h e = λ u. (refl, refl)

line_keeps : (l : List ℕ) (p : Parser) → p.stage ≡ Fields → Refuses p (field_line l p)
unfolding field_line
line_keeps l p e =
    on_cond (Refuses p) (leb max_fields p.head.lines) _ _ (λ t u. (refl, refl))
    (λ t. on_cond (Refuses p) (is_field l) _ _ (λ s. field_keeps (kind_of (name_of l)) (value_of l) p p.head e) (λ s u. (refl, refl)))

-- the body of an accepted head
begin_keeps : (k : ℕ) (p : Parser) → Keeps p (begin_body k p)
begin_keeps zero p = (refl, refl)
begin_keeps (suc k) p = (refl, refl)

-- the head's empty line
judged_keeps : (k : ℕ) (p : Parser) → Keeps p (judged k p)
judged_keeps zero p = begin_keeps (size_of p.head.size) p
judged_keeps (suc k) p = (refl, refl)

end_keeps : (t : List ℕ) (n : ℕ) (p : Parser) → Keeps p (head_end t n p)
unfolding head_end
end_keeps t n p = judged_keeps (head_refusal t n p.head p.tag) (with_line [] false p)

-- a byte of a line behind the status line
pub fields_keeps : (t : List ℕ) (n : ℕ) (l : LineStep) (p : Parser) → p.stage ≡ Fields → Refuses p (fields_step t n l p)
fields_keeps t n (going l cr) p e = λ u. (refl, refl)
fields_keeps t n (whole []) p e = λ u. end_keeps t n p
fields_keeps t n (whole (x ∷ l)) p e = line_keeps (x ∷ l) p e
fields_keeps t n broken p e = λ u. (refl, refl)

-- a byte of the status line
status_keeps : (l : LineStep) (p : Parser) → Keeps p (status_step l p)
unfolding status_line
status_keeps (going l cr) p = (refl, refl)
status_keeps (whole l) p = on_cond (Keeps p) (is_status_line l) _ _ (λ t. (refl, refl)) (λ t. (refl, refl))
status_keeps broken p = (refl, refl)

-- a line of a part
part_field_keeps : (k : Name) (v : List ℕ) (p : Parser) (x : PartHead) → Keeps p (part_field k v p x)
part_field_keeps etag v p x = (refl, refl)
part_field_keeps type v p x = (refl, refl)
part_field_keeps range v p x = on_cond (Keeps p) (has_range x.range) _ _ (λ t. (refl, refl)) (λ t. (refl, refl))
part_field_keeps size v p x = (refl, refl)
part_field_keeps transfer v p x = (refl, refl)
part_field_keeps other v p x = (refl, refl)

part_line_keeps : (l : List ℕ) (p : Parser) → Keeps p (part_line l p)
unfolding part_line
part_line_keeps l p =
    on_cond (Keeps p) (leb max_part_lines p.part.lines) _ _ (λ t. (refl, refl))
    (λ t. on_cond (Keeps p) (is_field l) _ _ (λ s. part_field_keeps (kind_of (name_of l)) (value_of l) p p.part) (λ s. (refl, refl)))

-- a part's empty line
part_end_keeps : (n : ℕ) (p : Parser) → Keeps p (part_end n p)
unfolding part_end
part_end_keeps n p =
    on_cond (Keeps p) (eqb p.part.lines 0 || not (has_range p.part.range)) _ _ (λ t. (refl, refl))
    (λ t. on_cond (Keeps p) (is_wrong n p.part.range) _ _ (λ w. (refl, refl))
    (λ w. on_cond (Keeps p) (is_foreign n p.part.range) _ _ (λ t. (refl, refl))
    (λ t. on_cond (Keeps p) (fits p) _ _ (λ t. (refl, refl)) (λ t. (refl, refl)))))

part_step_keeps : (n : ℕ) (l : LineStep) (p : Parser) → Keeps p (part_step n l p)
part_step_keeps n (going l cr) p = (refl, refl)
part_step_keeps n (whole []) p = part_end_keeps n p
part_step_keeps n (whole (x ∷ l)) p = part_line_keeps (x ∷ l) p
part_step_keeps n broken p = (refl, refl)

-- the last counted byte
last_keeps : (st : Stage) (q : Parser) → Keeps q (last_byte st q)
last_keeps st q = (tag_kept_lem, boundary_kept)
  where
    tag_kept_lem : (last_byte st q).tag ≡ q.tag
    tag_kept_lem =
        each (λ s. (last_byte s q).tag ≡ q.tag)
        (refl, refl, λ next. refl, refl, λ k. refl, λ k. refl, λ i. refl, λ i. refl, refl, refl, refl, refl, refl, λ next left. refl, refl, refl, λ k. refl) st

    boundary_kept : (last_byte st q).boundary ≡ q.boundary
    boundary_kept =
        each (λ s. (last_byte s q).boundary ≡ q.boundary)
        (refl, refl, λ next. refl, refl, λ k. refl, λ k. refl, λ i. refl, λ i. refl, refl, refl, refl, refl, refl, λ next left. refl, refl, refl, λ k. refl) st

-- a counted byte
framed_keeps : (k : ℕ) (p q : Parser) → Keeps p q → Keeps p (count_byte k q)
framed_keeps zero p q h = let l = last_keeps q.stage q in (l.0 ∙ h.0, l.1 ∙ h.1)
framed_keeps (suc k) p q h = h

-- any byte of a line
parse_keeps : (t : List ℕ) (n : ℕ) (st : Stage) (b : ℕ) (p : Parser) → p.stage ≡ st → is_line st ≡ true → Refuses p (parse t n st b p)
parse_keeps t n st b p e l =
    let step = line_step p.line p.cr b in
    line_cases (λ x. p.stage ≡ x → Refuses p (parse t n x b p)) (λ f u. status_keeps step p) (fields_keeps t n step p)
    (λ f u. framed_keeps p.framing.after p (part_step n step p) (part_step_keeps n step p)) st l e

-- two fronts of the same bytes have the same length
pub same-front : (k j : ℕ) (a b : List ℕ) → k ≤ length a → j ≤ length b → take k a ≡ take j b → take j a ≡ take j b
same-front k j a b u v e = let m : k ≡ j = sym (length-take-le k a u) ∙ ap length e ∙ length-take-le j b v in rw m at e

-- where the byte is refused, the arrays mean what they meant
kept : (r s : ReaderState) (line tag boundary line' tag' boundary' t : List ℕ) (n b : ℕ) → LineReady s line tag boundary → ArraysSized r line' tag' boundary'
    → parser_of r line' tag' boundary' ≡ parse t n s.stage b (parser_of s line tag boundary)
    → take s.line_len line' ≡ take s.line_len line
    → is_refused r.stage ≡ true → parser_of s line' tag' boundary' ≡ parser_of s line tag boundary
kept r s line tag boundary line' tag' boundary' t n b z w e f h =
    let k = parse_keeps t n s.stage b (parser_of s line tag boundary) refl z.reads (sym (ap (λ (q : Parser). is_refused q.stage) e) ∙ h) in
    let g = same-front r.tag_len s.tag_len tag' tag (omega arith) (omega arith) (ap (λ (q : Parser). q.tag) e ∙ k.0) in
    let i = same-front r.boundary_len s.boundary_len boundary' boundary (omega arith) (omega arith) (ap (λ (q : Parser). q.boundary) e ∙ k.1) in
    rw (f, g, i)

-- what a byte leaves of a reader that is ready for it, from what the parser makes of it
pub read : (r s : ReaderState) (line tag boundary line' tag' boundary' t : List ℕ) (n b : ℕ) → LineReady s line tag boundary → length line' ≡ length line
    → length tag' ≡ length tag → length boundary' ≡ length boundary
    → take s.line_len line' ≡ take s.line_len line
    → parser_of r line' tag' boundary' ≡ parse t n s.stage b (parser_of s line tag boundary) → Within r
    → ((parser_of r line' tag' boundary' ≡ parse t n s.stage b (parser_of s line tag boundary)) × ArraysSized r line' tag' boundary')
    × (is_refused r.stage ≡ true → parser_of s line' tag' boundary' ≡ parser_of s line tag boundary)
read r s line tag boundary line' tag' boundary' t n b z hl ht hb front step w =
    let y : ArraysSized r line' tag' boundary' =
    record { line_room = hl ∙ z.arrays.line_room; tag_room = ht ∙ z.arrays.tag_room; boundary_room = hb ∙ z.arrays.boundary_room; within = w } in
    ((step, y), λ h. kept r s line tag boundary line' tag' boundary' t n b z y step front h)
