-- The lines of an answer's head, one after the other, up to the body.
use Rattle.std.specs.Prelude.{Option, None, Some}
use Prim.Native.Nat.{ℕ, suc, ◌≤◌, ◌<◌}
use mathlib.Core.Path.{◌≡◌, refl}
use mathlib.Core.Bool.{Bool, true, false, true≢false}
use mathlib.Core.List.{List, [], ◌∷◌, ◌++◌}
use lib.ListN.{length}
use borrow.Author.Tests.{lt-leb, le-leb}
use Rattle.rules_server.specs.Limits.{max_tag}
use Rattle.rules_server.specs.Octets.{is_nil, all}
use Rattle.rules_server.specs.Texts.{crlf, etag_name, modified_name, type_name, range_name, length_name}
use Rattle.rules_server.specs.Numerals.{print}
use Rattle.rules_server.specs.Answers.{Cell, own, own_then, field}
use Rattle.laws_numerals.proofs.Laws.{print-decimal}
use Rattle.rules_tablet.specs.Limits.{max_line, max_fields, max_size}
use Rattle.rules_tablet.specs.Lines.{is_line_byte}
use Rattle.rules_tablet.specs.Fields.{is_status_line, status_number, name_of, value_of, is_field, Name, etag, type, range, size, other, kind_of, boundary_of}
use Rattle.rules_tablet.specs.Fields.{type_field, range_field}
use Rattle.rules_tablet.specs.Heads.{size_of, head_refusal}
use Rattle.rules_tablet.specs.Parsers.{kept_boundary, Parser, at, with_line, counted_body, head_field, field_line, status_line, begin_body, head_end, is_refused}
use Rattle.rules_tablet.specs.Calls.{fresh}
use Rattle.rules_tablet.specs.declared.RangeField.{RangeField}
use Rattle.rules_tablet.specs.declared.RangeField.TheVariants.{Absent}
use Rattle.rules_tablet.specs.declared.TypeField.{TypeField}
use Rattle.rules_tablet.specs.declared.TypeField.TheVariants.{Absent as NoType}
use Rattle.rules_tablet.specs.declared.Head.{Head}
use Rattle.rules_tablet.specs.declared.Stage.{Stage}
use Rattle.rules_tablet.specs.declared.Stage.TheVariants.{Fields}
use Rattle.rules_demands.specs.FeedingFollowed.{next}
use Rattle.laws_reader.proofs.own_answers.Segments.{Passes, step}
use Rattle.laws_reader.proofs.own_answers.Lines.{status_bytes, field_bytes}
use Rattle.laws_reader.proofs.own_answers.Names.{IsValue, IsLine, etag_line, modified_line, type_field_lem, range_field_lem, size_field_lem, size_read}

-- what the head's lines said so far: status, lines, whether a tag, type, range, size
abbrev pub head_of : ℕ → ℕ → Bool → TypeField → RangeField → Option ℕ → Head
head_of s k g m r z = record { status = s; lines = k; has_tag = g; media = m; range = r; size = z }

-- a parser at stage s with `left` bytes of the body after the next one, behind a head that said h, with the tag t and the boundary b
abbrev pub parser_at : Stage → ℕ → Head → List ℕ → List ℕ → Parser
parser_at s left h t b = record {
  stage = s;
  framing = counted_body left;
  line = [];
  cr = false;
  head = h;
  part = record { lines = 0; range = Absent };
  tag = t;
  boundary = b;
}

-- between two lines of the head
abbrev pub in_head : Head → List ℕ → List ℕ → Parser
in_head h t b = parser_at Fields 0 h t b

module _ (tag : List ℕ) (n : ℕ) (more : List ℕ) (rest : List Cell) where
  -- the status line
  pub status_passes : (l : List ℕ) (s : ℕ) → all is_line_byte l ≡ true → length l ≤ max_line → is_status_line l ≡ true → status_number l ≡ s
      → Passes tag n (in_head (head_of s 0 false NoType Absent None) [] []) (own_then more rest) → Passes tag n fresh (own_then (l ++ (crlf ++ more)) rest)
  unfolding fresh status_line
  status_passes l s a f e k h =
      status_bytes tag n fresh l (10 ∷ more) rest a f
      (step tag n (with_line l true fresh) (in_head (head_of s 0 false NoType Absent None) [] []) (own 10) (own_then more rest) (rw (e, k)) refl refl refl h)

  -- a field line that leads to the parser q
  field_passes : (p q : Parser) (l : List ℕ) (k : Name) (v : List ℕ) → IsLine l k v → p.head.lines < max_fields
      → head_field k v (with_line l true (at Fields p)) p.head ≡ q → is_refused q.stage ≡ false
      → Passes tag n q (own_then more rest) → Passes tag n (with_line [] false (at Fields p)) (own_then (l ++ (crlf ++ more)) rest)
  unfolding field_line
  field_passes p q l k v i f e r h =
      field_bytes tag n p l (10 ∷ more) rest i.bytes i.short
      (step tag n (with_line l true (at Fields p)) q (own 10) (own_then more rest) (go l i.some i.formed i.kind i.value e) refl refl r h)
    where
      go : (l : List ℕ) → is_nil l ≡ false → is_field l ≡ true → kind_of (name_of l) ≡ k → value_of l ≡ v
          → head_field k v (with_line l true (at Fields p)) p.head ≡ q
          → next tag n (with_line l true (at Fields p)) (own 10) ≡ q
      go [] s g o w e = absurd (true≢false s)
      go (x ∷ l) s g o w e = rw (lt-leb max_fields p.head.lines f, g, o, w) e

  -- the tag, one of the five fields that a head of ours has
  pub etag_passes : (s k : ℕ) (m : TypeField) (r : RangeField) (z : Option ℕ) (t b v : List ℕ) → k < max_fields → IsValue v → length v ≤ max_tag
      → Passes tag n (in_head (head_of s (suc k) true m r z) v b) (own_then more rest)
      → Passes tag n (in_head (head_of s k false m r z) t b) (own_then (field etag_name v ++ (crlf ++ more)) rest)
  etag_passes s k m r z t b v f i w h =
      field_passes (in_head (head_of s k false m r z) t b) (in_head (head_of s (suc k) true m r z) v b) (field etag_name v) etag v (etag_line v i) f
      (rw (le-leb (length v) max_tag w)) refl h

  -- Last-Modified, which leads to one line more
  pub modified_passes : (s k : ℕ) (g : Bool) (m : TypeField) (r : RangeField) (z : Option ℕ) (t b v : List ℕ) → k < max_fields → IsValue v
      → Passes tag n (in_head (head_of s (suc k) g m r z) t b) (own_then more rest)
      → Passes tag n (in_head (head_of s k g m r z) t b) (own_then (field modified_name v ++ (crlf ++ more)) rest)
  modified_passes s k g m r z t b v f i h =
      field_passes (in_head (head_of s k g m r z) t b) (in_head (head_of s (suc k) g m r z) t b) (field modified_name v) other v (modified_line v i) f refl refl h

  -- the type, with the boundary c of a multipart
  pub type_passes : (s k : ℕ) (g : Bool) (r : RangeField) (z : Option ℕ) (t b v c : List ℕ) (m : TypeField) → k < max_fields → IsValue v → type_field v ≡ m
      → kept_boundary m (boundary_of v) ≡ c
      → Passes tag n (in_head (head_of s (suc k) g m r z) t c) (own_then more rest)
      → Passes tag n (in_head (head_of s k g NoType r z) t b) (own_then (field type_name v ++ (crlf ++ more)) rest)
  type_passes s k g r z t b v c m f i w x h =
      field_passes (in_head (head_of s k g NoType r z) t b) (in_head (head_of s (suc k) g m r z) t c) (field type_name v) type v (type_field_lem v i) f
      (rw (w, x)) refl h

  -- the range
  pub range_passes : (s k : ℕ) (g : Bool) (m : TypeField) (z : Option ℕ) (t b v : List ℕ) (r : RangeField) → k < max_fields → IsValue v → range_field v ≡ r
      → Passes tag n (in_head (head_of s (suc k) g m r z) t b) (own_then more rest)
      → Passes tag n (in_head (head_of s k g m Absent z) t b) (own_then (field range_name v ++ (crlf ++ more)) rest)
  range_passes s k g m z t b v r f i w h =
      field_passes (in_head (head_of s k g m Absent z) t b) (in_head (head_of s (suc k) g m r z) t b) (field range_name v) range v (range_field_lem v i) f (rw w) refl h

  -- the size
  pub size_passes : (s k : ℕ) (g : Bool) (m : TypeField) (r : RangeField) (t b : List ℕ) (x : ℕ) → k < max_fields → IsValue (print x) → x ≤ max_size
      → Passes tag n (in_head (head_of s (suc k) g m r (Some x)) t b) (own_then more rest)
      → Passes tag n (in_head (head_of s k g m r None) t b) (own_then (field length_name (print x) ++ (crlf ++ more)) rest)
  size_passes s k g m r t b x f i w h =
      field_passes (in_head (head_of s k g m r None) t b) (in_head (head_of s (suc k) g m r (Some x)) t b) (field length_name (print x)) size (print x)
      (size_field_lem (print x) i) f (rw (size_read x w, print-decimal x)) refl h

-- the head's empty line, of a head that is accepted
pub end_passes : (tag : List ℕ) (n : ℕ) (body : List Cell) (h : Head) (t b : List ℕ) (q : Parser) → head_refusal tag n h t ≡ 0
    → begin_body (size_of h.size) (in_head h t b) ≡ q → is_refused q.stage ≡ false
    → Passes tag n q body → Passes tag n (in_head h t b) (own 13 ∷ own 10 ∷ body)
unfolding head_end
end_passes tag n body h t b q e f r g =
    step tag n (in_head h t b) (with_line [] true (in_head h t b)) (own 13) (own 10 ∷ body) refl refl refl refl
    (step tag n (with_line [] true (in_head h t b)) q (own 10) body (rw e f) refl refl r g)
