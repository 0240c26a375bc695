-- What an accepted head says, and the judgement at its empty line.
use Prim.Native.Nat.{ℕ, zero, suc, ◌≤◌}
use mathlib.Core.Path.{◌≡◌, refl, sym}
use mathlib.Core.Bool.{Bool, true, false, cond, not, ◌&&◌}
use mathlib.Core.List.{List, []}
use Rattle.std.specs.Prelude.{Option, None, Some}
use native.Mathlib.Omega.{arith}
use lib.ListN.{length, take}
use borrow.Author.Tests.{le-leb, eq-eqb, ne_eqb}
use Rattle.rules_server.specs.Limits.{max_tag}
use Rattle.rules_server.specs.Octets.{codes, same_fold}
use Rattle.rules_server.specs.Tags.{is_multipart_type, bad_boundary}
use Rattle.rules_demands.specs.AcceptanceGrammar.{lookup, says_parts, Kind, data_from, no_data, parts_under, Accepted, ok, part, many, unsatisfied}
use Rattle.rules_tablet.specs.Fields.{etag, type, range, type_field, parameter, boundary_of, range_field, is_wrong}
use Rattle.rules_tablet.specs.Heads.{has_range, is_multipart, kept_tag, span_of, other_status, broken_head, unlike_copy, wrong_range, empty_parts, head_refusal}
use Rattle.rules_tablet.specs.Heads.{body_stage}
use Rattle.rules_tablet.specs.Parsers.{Parser, kept_boundary, begin_body, is_refused}
use Rattle.rules_tablet.specs.declared.RangeField.{RangeField}
use Rattle.rules_tablet.specs.declared.RangeField.TheVariants.{Absent, Wrong, Span, Of}
use Rattle.rules_tablet.specs.declared.TypeField.TheVariants.{Absent as NoType, Other, Multipart, Broken}
use Rattle.rules_tablet.specs.declared.Head.{Head}
use Rattle.rules_tablet.specs.declared.Stage.{Stage}
use Rattle.rules_tablet.specs.declared.Stage.TheVariants.{Plain, Skip, Preamble, Finished}
use Rattle.laws_reader.proofs.own_answers.Bytes.{same_self}
use Rattle.laws_reader.proofs.own_answers.Heads.{head_of, parser_at, in_head}
use Rattle.laws_refusals.proofs.acceptance.Fields.{said_or}

-- where a body of this kind begins
abbrev pub stage_of : Kind → Stage
stage_of (data_from p) = Plain p
stage_of no_data = Skip
stage_of (parts_under b) = Preamble 0

-- the boundary that the parser keeps for a body of this kind
abbrev pub Keeps : Kind → List ℕ → Type 0
Keeps (data_from p) c = Unit {0}
Keeps no_data c = Unit {0}
Keeps (parts_under b) c = c ≡ b

-- what a head with these field lines says, with the Content-Length z
abbrev pub head-said : ℕ → List (List ℕ) → ℕ → Head
head-said s fs z =
    head_of s (length fs) (said_or false (λ v. true) (lookup etag fs)) (said_or NoType type_field (lookup type fs)) (said_or Absent range_field (lookup range fs))
    (Some z)

-- the tag that it says, and the boundary
abbrev pub tag-said : List (List ℕ) → List ℕ
tag-said fs = said_or [] kept_tag (lookup etag fs)

-- the boundary that its type says
abbrev pub boundary_said : List (List ℕ) → List ℕ
boundary_said fs = said_or [] (λ v. kept_boundary (type_field v) (boundary_of v)) (lookup type fs)

-- a type is multipart/byteranges where its value is
type_parts : (v : List ℕ) → is_multipart (type_field v) ≡ is_multipart_type v
unfolding type_field
type_parts v = go (is_multipart_type v) (same_fold (take 9 (parameter v)) (codes "boundary=") && not (bad_boundary (boundary_of v)))
  where
    go : (a b : Bool) → is_multipart (cond a (cond b Multipart Broken) Other) ≡ a
    go true true = refl
    go true false = refl
    go false b = refl

-- so too where there may be no type
pub parts-said : (o : Option (List ℕ)) → is_multipart (said_or NoType type_field o) ≡ says_parts o
parts-said None = refl
parts-said (Some v) = type_parts v

-- a range that is not wrong is there
pub right_has : (n : ℕ) (r : RangeField) → is_wrong n r ≡ false → has_range r ≡ true
right_has n Absent e = sym e
right_has n Wrong e = refl
right_has n (Span a b) e = refl
right_has n (Of a b s) e = refl

-- a tag that is not too long is kept
pub kept_short : (tag : List ℕ) → length tag ≤ max_tag → kept_tag tag ≡ tag
kept_short tag h = rw (le-leb (length tag) max_tag h)

-- at the empty line an accepted head is not refused, and its body begins as it says
pub record Judged (tag : List ℕ) (n s : ℕ) (fs : List (List ℕ)) (z : ℕ) (k : Kind) : Type 0 where
  pub allowed : head_refusal tag n (head-said s fs z) (tag-said fs) ≡ 0
  pub stage : body_stage (head-said s fs z) ≡ stage_of k
  pub boundary : Keeps k (boundary_said fs)

-- an accepted head passes the judgement
pub judge : (tag : List ℕ) (n s : ℕ) (fs : List (List ℕ)) (z : ℕ) (k : Kind) → length tag ≤ max_tag → Accepted tag n s fs z k → Judged tag n s fs z k
unfolding head_refusal other_status broken_head unlike_copy wrong_range empty_parts body_stage
judge tag n s fs z k h (ok es er et ez ek) =
    record { allowed = rw (es, er, et, kept_short tag h, same_self tag, ez, eq-eqb n n refl); stage = rw (es, ek); boundary = rw ek tt }
judge tag n s fs z k h (part v es em er ew ef ez et ek) =
    record {
      allowed = rw (
        es,
        er,
        et,
        kept_short tag h,
        same_self tag,
        parts-said (lookup type fs),
        em,
        ew,
        ef,
        right_has n (range_field v) ew,
        eq-eqb (span_of (range_field v)) z ez,
      );
      stage = rw (es, ek, er, parts-said (lookup type fs), em);
      boundary = rw ek tt;
    }
judge tag n s fs z k h (many v es em ev er et ez ek) =
    record {
      allowed = rw (es, er, em, et, ev, kept_short tag h, same_self tag, ne_eqb z 0 (λ e. omega arith));
      stage = rw (es, ek, em, ev);
      boundary = rw (ek, em, ev);
    }
judge tag n s fs z k h (unsatisfied es ek) = record { allowed = rw es; stage = rw (es, ek); boundary = rw ek tt }

-- a parser before a body of z bytes: finished where it is empty
abbrev pub begun : ℕ → Stage → Head → List ℕ → List ℕ → Parser
begun zero s h t b = parser_at Finished 0 h t b
begun (suc k) s h t b = parser_at s k h t b

-- a body's beginning behind its head
pub begin_is : (z : ℕ) (s : Stage) (h : Head) (t b : List ℕ) → body_stage h ≡ s → begin_body z (in_head h t b) ≡ begun z s h t b
begin_is zero s h t b e = refl
begin_is (suc k) s h t b e = rw e

-- it is not refused
pub begun_open : (z : ℕ) (k : Kind) (h : Head) (t b : List ℕ) → is_refused (begun z (stage_of k) h t b).stage ≡ false
begun_open zero k h t b = refl
begun_open (suc z) (data_from p) h t b = refl
begun_open (suc z) no_data h t b = refl
begun_open (suc z) (parts_under c) h t b = refl
