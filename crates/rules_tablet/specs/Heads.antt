-- A head as its lines come, and the judgement at its empty line (document 01, "Head", rows 11 to 15, and their order).
use Rattle.std.specs.Prelude.{ℕ, suc, ◌-◌, Bool, true, false, not, cond, ◌&&◌, ◌||◌, List, [], leb, eqb, length, Option, None, Some}
use Rattle.rules_server.specs.Limits.{max_tag}
use Rattle.rules_server.specs.Octets.{same}
use Rattle.rules_tablet.specs.Fields.{is_wrong, is_foreign, first_of, last_of}
use Rattle.rules_tablet.specs.declared.RangeField.{RangeField}
use Rattle.rules_tablet.specs.declared.RangeField.TheVariants.{Absent, Wrong, Span, Of}
use Rattle.rules_tablet.specs.declared.TypeField.{TypeField}
use Rattle.rules_tablet.specs.declared.TypeField.TheVariants.{Absent as NoType, Other, Multipart, Broken}
use Rattle.rules_tablet.specs.declared.Head.{Head}
use Rattle.rules_tablet.specs.declared.Stage.{Stage}
use Rattle.rules_tablet.specs.declared.Stage.TheVariants.{Plain, Skip, Preamble}

-- a head with another status, so many field lines, its tag seen, another type, range or size
abbrev pub with_status : ℕ → Head → Head
with_status k h = record { status = k; lines = h.lines; has_tag = h.has_tag; media = h.media; range = h.range; size = h.size }

abbrev pub with_field_lines : ℕ → Head → Head
with_field_lines k h = record { status = h.status; lines = k; has_tag = h.has_tag; media = h.media; range = h.range; size = h.size }

abbrev pub with_tag_seen : Head → Head
with_tag_seen h = record { status = h.status; lines = h.lines; has_tag = true; media = h.media; range = h.range; size = h.size }

abbrev pub with_type : TypeField → Head → Head
with_type x h = record { status = h.status; lines = h.lines; has_tag = h.has_tag; media = x; range = h.range; size = h.size }

abbrev pub with_range : RangeField → Head → Head
with_range x h = record { status = h.status; lines = h.lines; has_tag = h.has_tag; media = h.media; range = x; size = h.size }

abbrev pub with_size : Option ℕ → Head → Head
with_size x h = record { status = h.status; lines = h.lines; has_tag = h.has_tag; media = h.media; range = h.range; size = x }

-- with one field line more
abbrev pub another_line : Head → Head
another_line h = with_field_lines (suc h.lines) h

abbrev pub has_range : RangeField → Bool
has_range Absent = false
has_range Wrong = true
has_range (Span a b) = true
has_range (Of a b s) = true

abbrev pub has_type : TypeField → Bool
has_type NoType = false
has_type Other = true
has_type Multipart = true
has_type Broken = true

-- the type is multipart/byteranges
abbrev pub is_multipart : TypeField → Bool
is_multipart NoType = false
is_multipart Other = false
is_multipart Multipart = true
is_multipart Broken = true

abbrev pub is_broken : TypeField → Bool
is_broken NoType = false
is_broken Other = false
is_broken Multipart = false
is_broken Broken = true

abbrev pub has_size : Option ℕ → Bool
has_size None = false
has_size (Some k) = true

abbrev pub size_of : Option ℕ → ℕ
size_of None = 0
size_of (Some k) = k

-- how many positions first to last are
abbrev pub span_of : RangeField → ℕ
span_of x = suc (last_of x) - first_of x

-- the kinds of head that are read: a 200, a 206 of several parts, a 206 of one, a 416
abbrev pub is_ok : Head → Bool
is_ok h = eqb h.status 200

abbrev pub is_parts : Head → Bool
is_parts h = eqb h.status 206 && is_multipart h.media

abbrev pub is_part : Head → Bool
is_part h = eqb h.status 206 && not (is_multipart h.media)

abbrev pub is_unsatisfied : Head → Bool
is_unsatisfied h = eqb h.status 416

-- 12: "status not 200, 206 or 416"
unfoldable pub other_status : Head → Bool
other_status h = not (is_ok h) && not (eqb h.status 206) && not (is_unsatisfied h)

-- 11, what the lines together break: "Content-Length is required"; "200 has no Content-Range"; a multipart "has one `;`, .. and no Content-Range";
-- "any other 206 has one Content-Range, whose span, unless it is wrong, equals Content-Length"
unfoldable pub broken_head : ℕ → Head → Bool
broken_head n h =
    not (has_size h.size)
    || (is_ok h && has_range h.range)
    || (is_parts h && (is_broken h.media || has_range h.range))
    || (is_part h && (not (has_range h.range) || (not (is_wrong n h.range) && not (eqb (span_of h.range) (size_of h.size)))))

-- 13: "200 or 206 without the copy's tag, or a 200's Content-Length or a stated length unlike the copy's length"; t is the copy's tag, v the ETag's value,
-- empty where there is none
unfoldable pub unlike_copy : List ℕ → ℕ → Head → List ℕ → Bool
unlike_copy t n h v =
    (not (is_unsatisfied h) && not (h.has_tag && same v t))
    || (is_ok h && not (eqb (size_of h.size) n))
    || (is_part h && is_foreign n h.range)

-- 14: "Content-Range wrong"
unfoldable pub wrong_range : ℕ → Head → Bool
wrong_range n h = is_part h && is_wrong n h.range

-- "then 15 for a multipart of Content-Length 0"
unfoldable pub empty_parts : Head → Bool
empty_parts h = is_parts h && eqb (size_of h.size) 0

-- "Head, at its empty line: 12, 11, 13, 14, then 15"; 0 where the head is accepted
unfoldable pub head_refusal : List ℕ → ℕ → Head → List ℕ → ℕ
head_refusal t n h v =
    cond (other_status h) 12
    (cond (broken_head n h) 11
    (cond (unlike_copy t n h v) 13
    (cond (wrong_range n h) 14
    (cond (empty_parts h) 15
    0))))

-- where an accepted head's body begins
unfoldable pub body_stage : Head → Stage
body_stage h = cond (is_unsatisfied h) Skip (cond (is_ok h) (Plain 0) (cond (is_multipart h.media) (Preamble 0) (Plain (first_of h.range))))

-- an ETag's value, as far as a reader keeps it: one longer than a tag may be is no copy's tag
abbrev pub kept_tag : List ℕ → List ℕ
kept_tag v = cond (leb (length v) max_tag) v []
