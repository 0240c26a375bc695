-- Answers with one body or none: 200, 416 and a 206 of one part.
use Prim.Native.Nat.{ℕ, zero, suc, ◌-◌, ◌≤◌, ◌<◌}
use mathlib.Core.Path.{◌≡◌, refl, sym}
use mathlib.Core.Bool.{Bool, true, false, true≢false}
use mathlib.Core.List.{List, [], ◌∷◌, ◌++◌, append_assoc}
use Rattle.std.specs.Prelude.{Option, None, Some}
use native.Mathlib.Omega.{arith}
use lib.ListN.{length}
use borrow.Author.Tests.{le-ltb, lt-leb, eq-eqb}
use Rattle.rules_server.specs.Limits.{max_file, max_tag}
use Rattle.rules_server.specs.Octets.{is_nil, all}
use Rattle.rules_server.specs.Texts.{crlf, status200, status206, status416}
use Rattle.rules_server.specs.Tags.{is_strong}
use Rattle.rules_server.specs.Status.{LastModified, Resource}
use Rattle.rules_server.specs.Answers.{Cell, from, lines_then, head_then, own_then, from_then, data_of, etag_lines, modified_lines, type_lines, range_line, length_line}
use Rattle.rules_server.specs.Answers.{modified_text, validator_lines, unsatisfied_line, ok_answer, unsatisfied_answer, plain_answer}
use Rattle.rules_server.specs.declared.Run.{Run}
use Rattle.rules_demands.specs.Positions.{RunIn}
use Rattle.laws_server.proofs.Cells.{length_data}
use Rattle.rules_tablet.specs.Limits.{max_line, max_fields, max_size}
use Rattle.rules_tablet.specs.Lines.{is_line_byte}
use Rattle.rules_tablet.specs.Fields.{is_status_line, status_number, range_field}
use Rattle.rules_tablet.specs.Heads.{is_multipart, other_status, broken_head, unlike_copy, wrong_range, empty_parts, head_refusal, body_stage}
use Rattle.rules_tablet.specs.Parsers.{begin_body, is_refused}
use Rattle.rules_tablet.specs.Calls.{fresh}
use Rattle.rules_tablet.specs.declared.RangeField.{RangeField}
use Rattle.rules_tablet.specs.declared.RangeField.TheVariants.{Absent, Of}
use Rattle.rules_tablet.specs.declared.TypeField.{TypeField}
use Rattle.rules_tablet.specs.declared.TypeField.TheVariants.{Absent as NoType, Other}
use Rattle.rules_tablet.specs.declared.Head.{Head}
use Rattle.rules_tablet.specs.declared.Stage.TheVariants.{Plain, Finished}
use Rattle.rules_demands.specs.Demand3Arrivals.{flat}
use Rattle.laws_reader.proofs.own_answers.Segments.{Passes, step}
use Rattle.laws_reader.proofs.own_answers.Bytes.{same_self}
use Rattle.laws_reader.proofs.own_answers.Names.{IsValue, tag_value, number_value, IsMedia, media_value, media_other, range_value_of, range_read}
use Rattle.laws_reader.proofs.own_answers.Names.{range_value, unsatisfied_value, unsatisfied_value_lem}
use Rattle.laws_reader.proofs.own_answers.Modified.{modified_value}
use Rattle.laws_reader.proofs.own_answers.Heads.{head_of, parser_at, in_head, status_passes, etag_passes, modified_passes, type_passes, range_passes}
use Rattle.laws_reader.proofs.own_answers.Heads.{size_passes, end_passes}

-- bytes of the file from position p on, to the answer's end
pub plain_bytes : (tag : List ℕ) (n : ℕ) (h : Head) (t b : List ℕ) (p k : ℕ) (l : List ℕ) → length l ≡ suc k
    → Passes tag n (parser_at (Plain p) k h t b) (from_then p l [])
plain_bytes tag n h t b p k [] e = absurd (omega arith)
plain_bytes tag n h t b p zero (x ∷ []) e =
    step tag n (parser_at (Plain p) 0 h t b) (parser_at Finished 0 h t b) (from p x) [] refl refl refl refl (tt, refl)
plain_bytes tag n h t b p (suc k) (x ∷ []) e = absurd (omega arith)
plain_bytes tag n h t b p zero (x ∷ y ∷ l) e = absurd (omega arith)
plain_bytes tag n h t b p (suc k) (x ∷ y ∷ l) e =
    step tag n (parser_at (Plain p) (suc k) h t b) (parser_at (Plain (suc p)) k h t b) (from p x) (from_then (suc p) (y ∷ l) []) refl refl refl refl
    (plain_bytes tag n h t b (suc p) k (y ∷ l) (omega arith))

-- a 200 of a file of n bytes under the copy's tag is accepted
ok_accepted : (tag : List ℕ) (n k : ℕ) (m : TypeField) → head_refusal tag n (head_of 200 k true m Absent (Some n)) tag ≡ 0
unfolding head_refusal other_status broken_head unlike_copy wrong_range empty_parts
ok_accepted tag n k m = rw (same_self tag, eq-eqb n n refl)

-- so is a 416
unsatisfied_accepted : (tag : List ℕ) (n k : ℕ) (r : RangeField) → head_refusal tag n (head_of 416 k false NoType r (Some 0)) [] ≡ 0
unfolding head_refusal other_status broken_head unlike_copy wrong_range empty_parts
unsatisfied_accepted tag n k r = refl

-- so is a 206 of the positions a to c
part_accepted : (tag : List ℕ) (n k : ℕ) (m : TypeField) (a c z : ℕ) → is_multipart m ≡ false → a ≤ c → c < n → suc c - a ≡ z
    → head_refusal tag n (head_of 206 k true m (Of a c n) (Some z)) tag ≡ 0
unfolding head_refusal other_status broken_head unlike_copy wrong_range empty_parts
part_accepted tag n k m a c z e f g i =
    rw (e, le-ltb c a f, lt-leb n c g, eq-eqb (suc c - a) z i, same_self tag, eq-eqb n n refl)

-- a plain body of z bytes behind its head
begin_plain : (tag : List ℕ) (n : ℕ) (h : Head) (t b : List ℕ) (p : ℕ) → body_stage h ≡ Plain p → (z : ℕ) (l : List ℕ) → length l ≡ z
    → Passes tag n (begin_body z (in_head h t b)) (from_then p l [])
begin_plain tag n h t b p e zero [] f = (tt, refl)
begin_plain tag n h t b p e zero (x ∷ l) f = absurd (omega arith)
begin_plain tag n h t b p e (suc k) l f = rw e (plain_bytes tag n h t b p k l f)

-- such a head is not refused
begin_open : (h : Head) (t b : List ℕ) (p : ℕ) → body_stage h ≡ Plain p → (z : ℕ) → is_refused (begin_body z (in_head h t b)).stage ≡ false
begin_open h t b p e zero = refl
begin_open h t b p e (suc k) = rw e

-- the last lines of a head: the size's and the empty one
pub size_end : (tag : List ℕ) (n s k : ℕ) (g : Bool) (m : TypeField) (r : RangeField) (t b : List ℕ) (z : ℕ) (body : List Cell) → k < max_fields → z ≤ max_size
    → head_refusal tag n (head_of s (suc k) g m r (Some z)) t ≡ 0 → is_refused (begin_body z (in_head (head_of s (suc k) g m r (Some z)) t b)).stage ≡ false
    → Passes tag n (begin_body z (in_head (head_of s (suc k) g m r (Some z)) t b)) body
    → Passes tag n (in_head (head_of s k g m r None) t b) (own_then (lines_then (length_line z ∷ []) crlf) body)
unfolding length_line
size_end tag n s k g m r t b z body f w e o h =
    size_passes tag n crlf body s k g m r t b z f (number_value z (omega arith)) w
    (end_passes tag n body (head_of s (suc k) g m r (Some z)) t b (begin_body z (in_head (head_of s (suc k) g m r (Some z)) t b)) e refl o h)

-- a strong tag is not empty
strong_some : (tag : List ℕ) → is_strong tag ≡ true → is_nil tag ≡ false
strong_some [] e = absurd (true≢false (sym e))
strong_some (x ∷ l) e = refl

module _ (tag : List ℕ) (n : ℕ) (strong : is_strong tag ≡ true) (short : length tag ≤ max_tag) where
  -- a status line and the tag's line, and then others
  tag_passes : (s : ℕ) (l : List ℕ) (fs : List (List ℕ)) (rest : List Cell) → all is_line_byte l ≡ true → length l ≤ max_line → is_status_line l ≡ true
      → status_number l ≡ s
      → Passes tag n (in_head (head_of s 1 true NoType Absent None) tag []) (own_then (lines_then fs crlf) rest)
      → Passes tag n fresh (own_then (l ++ (crlf ++ lines_then (etag_lines tag ++ fs) crlf)) rest)
  tag_passes s l fs rest a f e k h =
      status_passes tag n (lines_then (etag_lines tag ++ fs) crlf) rest l s a f e k
      (rw (strong_some tag strong) (etag_passes tag n (lines_then fs crlf) rest s 0 NoType Absent None [] [] tag (omega arith)
      (tag_value tag strong short) short h))

  -- the line of Last-Modified, if it is given, and then others
  modified_given : (s : ℕ) (v : List ℕ) (fs : List (List ℕ)) (rest : List Cell) → IsValue v
      → ((k : ℕ) → k < 3 → Passes tag n (in_head (head_of s k true NoType Absent None) tag []) (own_then (lines_then fs crlf) rest))
      → Passes tag n (in_head (head_of s 1 true NoType Absent None) tag []) (own_then (lines_then (modified_lines v ++ fs) crlf) rest)
  modified_given s [] fs rest i h = h 1 (omega arith)
  modified_given s (x ∷ l) fs rest i h =
      modified_passes tag n (lines_then fs crlf) rest s 1 true NoType Absent None tag [] (x ∷ l) (omega arith) i (h 2 (omega arith))

  -- a status line, the lines that tell which file it is, and then others
  pub validators_pass : (s : ℕ) (l : List ℕ) (m : Option LastModified) (fs : List (List ℕ)) (rest : List Cell) → all is_line_byte l ≡ true
      → length l ≤ max_line → is_status_line l ≡ true → status_number l ≡ s
      → ((k : ℕ) → k < 3 → Passes tag n (in_head (head_of s k true NoType Absent None) tag []) (own_then (lines_then fs crlf) rest))
      → Passes tag n fresh (own_then (l ++ (crlf ++ lines_then (validator_lines tag (modified_text m) ++ fs) crlf)) rest)
  validators_pass s l m fs rest a f e k h =
      rw (append_assoc (etag_lines tag) (modified_lines (modified_text m)) fs)
      (tag_passes s l (modified_lines (modified_text m) ++ fs) rest a f e k (modified_given s (modified_text m) fs rest (modified_value m) h))

  -- the type's line, if there is a type, and then others
  pub media_passes : (s k : ℕ) (media : List ℕ) (fs : List (List ℕ)) (rest : List Cell) → k < 3 → IsMedia media
      → ((j : ℕ) (m : TypeField) → j < 4 → is_multipart m ≡ false
      → Passes tag n (in_head (head_of s j true m Absent None) tag []) (own_then (lines_then fs crlf) rest))
      → Passes tag n (in_head (head_of s k true NoType Absent None) tag []) (own_then (lines_then (type_lines media ++ fs) crlf) rest)
  media_passes s k [] fs rest f i h = h k NoType (omega arith) refl
  media_passes s k (x ∷ l) fs rest f i h =
      type_passes tag n (lines_then fs crlf) rest s k true Absent None tag [] (x ∷ l) [] Other (omega arith) (media_value x l i)
      (media_other (x ∷ l) i.single) refl
      (h (suc k) Other (omega arith) refl)

-- a 416 is followed, whatever its range
pub unsatisfied_passes : (tag : List ℕ) (n m : ℕ) → m ≤ max_file → Passes tag n fresh (flat (unsatisfied_answer m))
unfolding flat head_then unsatisfied_answer unsatisfied_line is_status_line
unsatisfied_passes tag n m small =
    status_passes tag n (lines_then (unsatisfied_line m ∷ length_line 0 ∷ []) crlf) [] status416 416 refl (omega arith) refl refl
    (range_passes tag n (lines_then (length_line 0 ∷ []) crlf) [] 416 0 false NoType None [] [] (unsatisfied_value m) (range_field (unsatisfied_value m))
    (omega arith) (unsatisfied_value_lem m (omega arith)) refl
    (size_end tag n 416 1 false NoType (range_field (unsatisfied_value m)) [] [] 0 [] (omega arith) (omega arith)
    (unsatisfied_accepted tag n 2 (range_field (unsatisfied_value m))) refl (tt, refl)))

module _ (f : Resource) (strong : is_strong f.tag ≡ true) (short : length f.tag ≤ max_tag) (small : length f.file ≤ max_file)
    (media : IsMedia f.media) where
  -- a 200 with the file
  pub ok_passes : Passes f.tag (length f.file) fresh (flat (ok_answer f (from_then 0 f.file [])))
  unfolding flat head_then ok_answer is_status_line body_stage
  ok_passes =
      let n = length f.file in
      let body = from_then 0 f.file [] in
      validators_pass f.tag n strong short 200 status200 f.modified (type_lines f.media ++ (length_line n ∷ [])) body refl (omega arith) refl refl
      (λ j w. media_passes f.tag n strong short 200 j f.media (length_line n ∷ []) body w media
      (λ k m l e.
      size_end f.tag n 200 k true m Absent f.tag [] n body (omega arith) (omega arith) (ok_accepted f.tag n (suc k) m)
      (begin_open (head_of 200 (suc k) true m Absent (Some n)) f.tag [] 0 refl n)
      (begin_plain f.tag n (head_of 200 (suc k) true m Absent (Some n)) f.tag [] 0 refl n f.file refl)))

  -- a 206 of one part
  pub plain_passes : (r : Run) → RunIn (length f.file) r → Passes f.tag (length f.file) fresh (flat (plain_answer f r))
  unfolding flat head_then plain_answer range_line is_status_line body_stage
  plain_passes r o =
      let n = length f.file in
      let text = data_of f.file r in
      let z = length text in
      let body = from_then r.first text [] in
      let count = length_data f.file r o in
      let i = o.ordered in
      let j = o.inside in
      validators_pass f.tag n strong short 206 status206 f.modified (type_lines f.media ++ (range_line r n ∷ length_line z ∷ [])) body refl
      (omega arith) refl refl
      (λ q w. media_passes f.tag n strong short 206 q f.media (range_line r n ∷ length_line z ∷ []) body w media
      (λ k m l e.
      range_passes f.tag n (lines_then (length_line z ∷ []) crlf) body 206 k true m None f.tag [] (range_value_of r.first r.last n)
      (Of r.first r.last n) (omega arith)
      (range_value r.first r.last n (omega arith) (omega arith) (omega arith)) (range_read r.first r.last n (omega arith) (omega arith) small)
      (size_end f.tag n 206 (suc k) true m (Of r.first r.last n) f.tag [] z body (omega arith) (omega arith)
      (part_accepted f.tag n (suc (suc k)) m r.first r.last z e i j (omega arith))
      (begin_open (head_of 206 (suc (suc k)) true m (Of r.first r.last n) (Some z)) f.tag [] r.first (rw e) z)
      (begin_plain f.tag n (head_of 206 (suc (suc k)) true m (Of r.first r.last n) (Some z)) f.tag [] r.first (rw e) z text refl))))
