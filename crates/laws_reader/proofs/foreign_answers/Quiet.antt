-- A parser that stores nothing, as long as no line of its head gives the copy's tag.
use Prim.Native.Nat.{ℕ, zero, suc}
use mathlib.Core.Path.{◌≡◌, refl, sym, ◌∙◌, ap, subst⁻¹}
use mathlib.Core.Bool.{Bool, true, false, not, cond, ◌&&◌, ◌||◌, and-eq-true_iff, true≢false}
use mathlib.Core.List.{List, [], ◌∷◌, ◌++◌, tail}
use Rattle.std.specs.Prelude.{None}
use native.Mathlib.Omega.{arith}
use borrow.Author.Tests.{not-true, eqb-true}
use lib.Dec.{leb, ltb, eqb}
use lib.ListN.{length}
use Rattle.rules_server.specs.Limits.{max_tag}
use Rattle.rules_server.specs.Octets.{codes, same, same_fold}
use Rattle.rules_server.specs.Texts.{etag_name, type_name, range_name, length_name}
use Rattle.rules_server.specs.Tags.{is_strong}
use Rattle.rules_tablet.specs.Limits.{max_fields, max_line}
use Rattle.rules_tablet.specs.Lines.{LineStep, going, whole, broken, line_step, is_line_byte}
use Rattle.rules_tablet.specs.Fields.{Name, etag, type, range, size, transfer, other, kind_of, is_field, is_size, is_status_line, name_of, value_of}
use Rattle.rules_tablet.specs.Heads.{has_range, has_type, has_size, size_of, is_unsatisfied, other_status, broken_head, unlike_copy, head_refusal, body_stage, kept_tag}
use Rattle.rules_tablet.specs.Parsers.{Parser, refuse, with_line, head_field, field_line, begin_body, judged, head_end, status_line, status_step, fields_step}
use Rattle.rules_tablet.specs.Parsers.{count_byte, parse, event}
use Rattle.rules_tablet.specs.Feeding.{is_over}
use Rattle.rules_tablet.specs.declared.Stage.{Stage}
use Rattle.rules_tablet.specs.declared.Stage.TheVariants.{Status, Fields, Skip}
use Rattle.rules_tablet.specs.declared.Head.{Head}
use Rattle.rules_demands.specs.Demand3Foreign.{end_line, lines_from, gives_tag, none_gives}

-- the lines before the first empty line, from a line so far, whose CR was seen or not, and the bytes to come
abbrev pub lines-at : List ℕ → Bool → List ℕ → List (List ℕ)
lines-at l true bytes = lines_from l (13 ∷ bytes)
lines-at l false bytes = lines_from l bytes

-- the head has the copy's tag
abbrev pub tagged : List ℕ → Parser → Bool
tagged tag p = p.head.has_tag && same p.tag tag

-- a parser before these bytes: in a head that no line gives the copy's tag, in the body of a 416, or at an end
pub data Quiet (tag : List ℕ) (p : Parser) (bytes : List ℕ) : Type 0 where
  in_status : p.stage ≡ Status → p.head.has_tag ≡ false → none_gives tag (tail (lines-at p.line p.cr bytes)) ≡ true → Quiet tag p bytes
  in_fields : p.stage ≡ Fields → tagged tag p ≡ false → none_gives tag (lines-at p.line p.cr bytes) ≡ true → Quiet tag p bytes
  in_skip : p.stage ≡ Skip → Quiet tag p bytes
  at_end : is_over p.stage ≡ true → Quiet tag p bytes

-- it has no event
pub quiet_event : {tag : List ℕ} {p : Parser} {bytes : List ℕ} → Quiet tag p bytes → is_over p.stage ≡ false → event p.stage ≡ None
quiet_event (in_status s h g) o = rw s
quiet_event (in_fields s h g) o = rw s
quiet_event (in_skip s) o = rw s
quiet_event (at_end s) o = absurd (true≢false (sym s ∙ o))

-- what a byte makes of a line, against the lines from there on
abbrev Stepped : LineStep → List (List ℕ) → List ℕ → Type 0
Stepped (going l cr) ls bytes = ls ≡ lines-at l cr bytes
Stepped (whole l) ls bytes = ls ≡ end_line l (lines_from [] bytes)
Stepped broken ls bytes = Unit {0}

-- a byte that is no CR goes into its line
inner : (l : List ℕ) (b : ℕ) (bytes : List ℕ) → eqb b 13 ≡ false → lines_from l (b ∷ bytes) ≡ lines_from (l ++ (b ∷ [])) bytes
inner l b [] e = refl
inner l b (y ∷ bytes) e = rw e

-- the parser's lines are these lines
stepped : (l : List ℕ) (cr : Bool) (b : ℕ) (bytes : List ℕ) → Stepped (line_step l cr b) (lines-at l cr (b ∷ bytes)) bytes
stepped l true b bytes = go (eqb b 10) refl
  where
    go : (t : Bool) → eqb b 10 ≡ t → Stepped (cond t (whole l) broken) (lines_from l (13 ∷ b ∷ bytes)) bytes
    go true e = rw e
    go false e = tt
stepped l false b bytes = go (eqb b 13) refl
  where
    long : (t : Bool) → eqb b 13 ≡ false → Stepped (cond t (going (l ++ (b ∷ [])) false) broken) (lines_from l (b ∷ bytes)) bytes
    long true e = inner l b bytes e
    long false e = tt

    allowed : (t : Bool) → eqb b 13 ≡ false
        → Stepped (cond t (cond (ltb (length l) max_line) (going (l ++ (b ∷ [])) false) broken) broken) (lines_from l (b ∷ bytes)) bytes
    allowed true e = long (ltb (length l) max_line) e
    allowed false e = tt

    go : (t : Bool) → eqb b 13 ≡ t
        → Stepped (cond t (going l true) (cond (is_line_byte b) (cond (ltb (length l) max_line) (going (l ++ (b ∷ [])) false) broken) broken))
        (lines_from l (b ∷ bytes)) bytes
    go true e = ap (λ (x : ℕ). lines_from l (x ∷ bytes)) (eqb-true b 13 e)
    go false e = allowed (is_line_byte b) e

-- a parser that a test may refuse
refused_if : {tag bytes : List ℕ} (t : Bool) (k : ℕ) (p q : Parser) → Quiet tag q bytes → Quiet tag (cond t (refuse k p) q) bytes
refused_if true k p q h = at_end refl
refused_if false k p q h = h

-- a parser that a test has to allow
allowed_if : {tag bytes : List ℕ} (t : Bool) (k : ℕ) (p q : Parser) → (t ≡ true → Quiet tag q bytes) → Quiet tag (cond t q (refuse k p)) bytes
allowed_if true k p q h = h refl
allowed_if false k p q h = at_end refl

-- a status line; an empty line is none
status_line_lem : (tag l bytes : List ℕ) (p : Parser) → p.head.has_tag ≡ false → none_gives tag (tail (end_line l (lines_from [] bytes))) ≡ true
    → Quiet tag (status_line l p) bytes
unfolding status_line
status_line_lem tag [] bytes p h g = unfold is_status_line in at_end refl
status_line_lem tag (x ∷ l) bytes p h g = allowed_if (is_status_line (x ∷ l)) 11 p _ (λ e. in_fields refl (ap (λ (t : Bool). t && same p.tag tag) h) g)

-- a byte in the status line
status_step_lem : (tag bytes : List ℕ) (s : LineStep) (ls : List (List ℕ)) (p : Parser) → p.stage ≡ Status → p.head.has_tag ≡ false
    → none_gives tag (tail ls) ≡ true → Stepped s ls bytes → Quiet tag (status_step s p) bytes
status_step_lem tag bytes (going l cr) ls p s h g e = in_status s h (rw e at g)
status_step_lem tag bytes (whole l) ls p s h g e = status_line_lem tag l bytes p h (rw e at g)
status_step_lem tag bytes broken ls p s h g e = at_end refl

-- the name is ETag's
abbrev is_etag : Name → Bool
is_etag etag = true
is_etag type = false
is_etag range = false
is_etag size = false
is_etag transfer = false
is_etag other = false

-- the name is ETag's exactly when it reads so in any case
etag_named : (name : List ℕ) → is_etag (kind_of name) ≡ same_fold name etag_name
unfolding kind_of
etag_named name = go (same_fold name etag_name) (same_fold name type_name) (same_fold name range_name) (same_fold name length_name)
    (same_fold name (codes "Transfer-Encoding"))
  where
    go : (a b c d e : Bool) → is_etag (cond a etag (cond b type (cond c range (cond d size (cond e transfer other))))) ≡ a
    go true b c d e = refl
    go false true c d e = refl
    go false false true d e = refl
    go false false false true e = refl
    go false false false false true = refl
    go false false false false false = refl

-- a value that is not the strong tag is not kept as it
not_kept : (tag v : List ℕ) → is_strong tag ≡ true → same v tag ≡ false → same (kept_tag v) tag ≡ false
not_kept tag v s e = go (leb (length v) max_tag) tag s e
  where
    go : (t : Bool) (tag : List ℕ) → is_strong tag ≡ true → same v tag ≡ false → same (cond t v []) tag ≡ false
    go true tag s e = e
    go false [] s e = absurd (true≢false (sym s))
    go false (x ∷ tag) s e = refl

-- a field of a known name
head_field_lem : (tag bytes : List ℕ) (k : Name) (v : List ℕ) (p : Parser) → is_strong tag ≡ true → p.stage ≡ Fields → tagged tag p ≡ false
    → none_gives tag (lines_from [] bytes) ≡ true → (is_etag k && same v tag) ≡ false → Quiet tag (head_field k v p p.head) bytes
head_field_lem tag bytes etag v p s f h g e = refused_if p.head.has_tag 11 p _ (in_fields f (not_kept tag v s e) g)
head_field_lem tag bytes type v p s f h g e = refused_if (has_type p.head.media) 11 p _ (in_fields f h g)
head_field_lem tag bytes range v p s f h g e = refused_if (has_range p.head.range) 11 p _ (in_fields f h g)
head_field_lem tag bytes size v p s f h g e = refused_if (has_size p.head.size) 11 p _ (allowed_if (is_size v) 11 p _ (λ d. in_fields f h g))
head_field_lem tag bytes transfer v p s f h g e = at_end refl
head_field_lem tag bytes other v p s f h g e = in_fields f h g

-- a field line that does not give the tag
field_line_lem : (tag bytes l : List ℕ) (p : Parser) → is_strong tag ≡ true → p.stage ≡ Fields → tagged tag p ≡ false
    → none_gives tag (lines_from [] bytes) ≡ true → gives_tag tag l ≡ false → Quiet tag (field_line l p) bytes
unfolding field_line gives_tag
field_line_lem tag bytes l p s f h g e =
    refused_if (leb max_fields p.head.lines) 11 p _
    (allowed_if (is_field l) 11 p _ (λ d. head_field_lem tag bytes (kind_of (name_of l)) (value_of l) p s f h g (rw etag_named (rw d at e))))

-- an accepted head is like the copy
like_copy : (tag : List ℕ) (n : ℕ) (h : Head) (v : List ℕ) → head_refusal tag n h v ≡ 0 → unlike_copy tag n h v ≡ false
unfolding head_refusal
like_copy tag n h v e = go (other_status h) (broken_head n h) (unlike_copy tag n h v) _ e
  where
    go : (a b c : Bool) (k : ℕ) → cond a 12 (cond b 11 (cond c 13 k)) ≡ 0 → c ≡ false
    go true b c k e = absurd (omega (arith, e))
    go false true c k e = absurd (omega (arith, e))
    go false false true k e = absurd (omega (arith, e))
    go false false false k e = refl

-- without the copy's tag it is a 416
unsatisfied : (tag : List ℕ) (n : ℕ) (h : Head) (v : List ℕ) → (h.has_tag && same v tag) ≡ false → unlike_copy tag n h v ≡ false → is_unsatisfied h ≡ true
unfolding unlike_copy
unsatisfied tag n h v e u = go (is_unsatisfied h) _ _ (rw e at u)
  where
    go : (t a b : Bool) → ((not t && true) || a || b) ≡ false → t ≡ true
    go true a b e = refl
    go false a b e = absurd (true≢false e)

-- the head's empty line
head_end_lem : (tag bytes : List ℕ) (n : ℕ) (p : Parser) → tagged tag p ≡ false → Quiet tag (head_end tag n p) bytes
unfolding head_end
head_end_lem tag bytes n p h = go (head_refusal tag n p.head p.tag) refl
  where
    body : (k : ℕ) → is_unsatisfied p.head ≡ true → Quiet tag (begin_body k (with_line [] false p)) bytes
    body zero u = at_end refl
    body (suc k) u = in_skip (unfold body_stage in rw u)

    go : (k : ℕ) → head_refusal tag n p.head p.tag ≡ k → Quiet tag (judged k (with_line [] false p)) bytes
    go zero e = body (size_of p.head.size) (unsatisfied tag n p.head p.tag h (like_copy tag n p.head p.tag e))
    go (suc k) e = at_end refl

-- a byte in a field line
fields_step_lem : (tag bytes : List ℕ) (n : ℕ) (s : LineStep) (ls : List (List ℕ)) (p : Parser) → is_strong tag ≡ true → p.stage ≡ Fields → tagged tag p ≡ false
    → none_gives tag ls ≡ true → Stepped s ls bytes → Quiet tag (fields_step tag n s p) bytes
fields_step_lem tag bytes n (going l cr) ls p s f h g e = in_fields f h (rw e at g)
fields_step_lem tag bytes n (whole []) ls p s f h g e = head_end_lem tag bytes n p h
fields_step_lem tag bytes n (whole (x ∷ l)) ls p s f h g e =
    let both = (and-eq-true_iff (not (gives_tag tag (x ∷ l))) (none_gives tag (lines_from [] bytes))).0 (rw e at g) in
    field_line_lem tag bytes (x ∷ l) p s f h both.1 (not-true (gives_tag tag (x ∷ l)) both.0)
fields_step_lem tag bytes n broken ls p s f h g e = at_end refl

-- a byte of the body of a 416
skip_step : (tag bytes : List ℕ) (k : ℕ) (p : Parser) → p.stage ≡ Skip → Quiet tag (count_byte k p) bytes
skip_step tag bytes zero p s = at_end (rw s)
skip_step tag bytes (suc k) p s = in_skip s

-- a byte leaves it so
pub quiet_step : (tag bytes : List ℕ) (n b : ℕ) (p : Parser) → is_strong tag ≡ true → is_over p.stage ≡ false → Quiet tag p (b ∷ bytes)
    → Quiet tag (parse tag n p.stage b p) bytes
quiet_step tag bytes n b p t o q = go q
  where
    from : (s : Stage) → p.stage ≡ s → Quiet tag (parse tag n s b p) bytes → Quiet tag (parse tag n p.stage b p) bytes
    from s e h = subst⁻¹ (λ (x : Stage). Quiet tag (parse tag n x b p) bytes) e h

    go : Quiet tag p (b ∷ bytes) → Quiet tag (parse tag n p.stage b p) bytes
    go (in_status s h g) = from Status s (status_step_lem tag bytes (line_step p.line p.cr b) _ p s h g (stepped p.line p.cr b bytes))
    go (in_fields s h g) = from Fields s (fields_step_lem tag bytes n (line_step p.line p.cr b) _ p t s h g (stepped p.line p.cr b bytes))
    go (in_skip s) = from Skip s (skip_step tag bytes p.framing.after p s)
    go (at_end s) = absurd (true≢false (sym s ∙ o))
