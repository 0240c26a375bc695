-- The parts of a multipart one after the other, and the answer.
use Prim.Native.Nat.{ℕ, zero, suc, ◌+◌, ◌-◌, ◌≤◌, ◌<◌}
use mathlib.Core.Path.{◌≡◌, refl}
use mathlib.Core.List.{List, [], ◌∷◌, ◌++◌}
use native.Mathlib.Omega.{arith}
use lib.ListN.{length, length-append}
use Rattle.rules_server.specs.Limits.{max_file}
use Rattle.rules_server.specs.Texts.{crlf, dashes, type_name, range_name}
use Rattle.rules_server.specs.Status.{Resource}
use Rattle.rules_server.specs.Answers.{Cell, lines_then, own_then, from_then, field, data_of, dash_boundary, type_lines, range_line, part_head, closing, multipart_body}
use Rattle.rules_server.specs.declared.Run.{Run}
use Rattle.rules_demands.specs.Positions.{Each, RunIn}
use Rattle.laws_server.proofs.Cells.{length_data}
use Rattle.rules_tablet.specs.declared.RangeField.TheVariants.{Absent, Of}
use Rattle.rules_tablet.specs.declared.Head.{Head}
use Rattle.rules_tablet.specs.declared.PartHead.{PartHead}
use Rattle.rules_tablet.specs.declared.Stage.TheVariants.{Preamble, Delimiter, PartBegin, PartLine}
use Rattle.laws_reader.proofs.own_answers.Segments.{Passes}
use Rattle.laws_reader.proofs.own_answers.Names.{IsMedia, media_value, range_value_of, range_read, range_value}
use Rattle.laws_reader.proofs.own_answers.Multipart.{part_of, in_body, first_mark, next-mark, data_end, data_bytes, part_type, part_range_lem, part_end_lem}
use Rattle.laws_reader.proofs.own_answers.Multipart.{part_begin, first_fork, next_fork, last_fork}

-- how many cells the framing's bytes are
pub own_length : (l : List ℕ) (rest : List Cell) → length (own_then l rest) ≡ length l + length rest
own_length [] rest = omega arith
own_length (b ∷ l) rest = let h = own_length l rest in omega arith

-- how many cells the file's bytes are
pub from-length : (p : ℕ) (l : List ℕ) (rest : List Cell) → length (from_then p l rest) ≡ length l + length rest
from-length p [] rest = omega arith
from-length p (b ∷ l) rest = let h = from-length (suc p) l rest in omega arith

-- a part's data and what follows its lines
abbrev pub data_then : Resource → Run → List Run → List Cell
data_then f r rs = from_then r.first (data_of f.file r) (own_then crlf (multipart_body f rs))

-- the closing line
pub closing-length : (b : List ℕ) → length (closing b) ≡ length b + 6
unfolding closing
closing-length b = let a = length-append b (13 ∷ 10 ∷ 45 ∷ 45 ∷ []) in let c = length-append b (45 ∷ 45 ∷ 13 ∷ 10 ∷ []) in omega arith

-- what is left of the parts holds the closing mark
pub body_least : (f : Resource) (rs : List Run) → length f.boundary + 6 ≤ length (multipart_body f rs)
body_least f [] = let a = own_length (closing f.boundary) [] in let c = closing-length f.boundary in omega arith
body_least f (r ∷ rs) =
    let ih = body_least f rs in
    let a = own_length (part_head f.boundary f.media (length f.file) r) (data_then f r rs) in
    let c = from-length r.first (data_of f.file r) (own_then crlf (multipart_body f rs)) in
    omega arith

module _ (tag : List ℕ) (f : Resource) (h : Head) (t : List ℕ) (small : length f.file ≤ max_file) (media : IsMedia f.media) where
  -- where the rest of the body is followed from the mark behind a part
  abbrev Followed : List Run → Type 0
  Followed rs = (k : ℕ) (x : PartHead) → suc k ≡ length (multipart_body f rs)
      → Passes tag (length f.file) (in_body (Delimiter 2) k x h t f.boundary) (multipart_body f rs)

  -- a part from its range on, behind m lines
  range_tail : (r : Run) (rs : List Run) (m j : ℕ) → RunIn (length f.file) r → m < 2
      → suc j ≡ length (own_then (range_line r (length f.file) ++ (crlf ++ crlf)) (data_then f r rs)) → Followed rs
      → Passes tag (length f.file) (in_body PartLine j (part_of m Absent) h t f.boundary)
      (own_then (range_line r (length f.file) ++ (crlf ++ crlf)) (data_then f r rs))
  unfolding range_line
  range_tail r rs m j o l e ih =
      let n = length f.file in
      let b = f.boundary in
      let v = range_value_of r.first r.last n in
      let text = data_of f.file r in
      let i = o.ordered in
      let g = o.inside in
      let count = length_data f.file r o in
      let least = body_least f rs in
      let z = r.last - r.first in
      let k = length (multipart_body f rs) - 1 in
      let d = suc z + (2 + k) in
      let a = own_length (field range_name v ++ (crlf ++ crlf)) (data_then f r rs) in
      let c = from-length r.first text (own_then crlf (multipart_body f rs)) in
      let q = length-append v (crlf ++ crlf) in
      part_range_lem tag n h t b m (Of r.first r.last n) v crlf (data_then f r rs) j (suc (suc d))
      (range_value r.first r.last n (omega arith) (omega arith) (omega arith)) (range_read r.first r.last n (omega arith) (omega arith) small)
      (omega arith) (omega arith)
      (part_end_lem tag n h t b m r.first r.last (suc z) d (data_then f r rs) i g (omega arith) (omega arith)
      (data_bytes tag n h t b (part_of (suc m) (Of r.first r.last n)) text (own_then crlf (multipart_body f rs)) r.first z d (suc (suc k)) (omega arith)
      (omega arith)
      (data_end tag n h t b (part_of (suc m) (Of r.first r.last n)) (multipart_body f rs) k
      (ih k (part_of (suc m) (Of r.first r.last n)) (omega arith)))))

  -- a part's lines, with its type if there is one
  lines_tail : (w : List ℕ) → IsMedia w → (r : Run) (rs : List Run) (j : ℕ) → RunIn (length f.file) r
      → suc j ≡ length (own_then (lines_then (type_lines w) (range_line r (length f.file) ++ (crlf ++ crlf))) (data_then f r rs)) → Followed rs
      → Passes tag (length f.file) (in_body PartLine j (part_of 0 Absent) h t f.boundary)
      (own_then (lines_then (type_lines w) (range_line r (length f.file) ++ (crlf ++ crlf))) (data_then f r rs))
  lines_tail [] i r rs j o e ih = range_tail r rs 0 j o (omega arith) e ih
  lines_tail (c ∷ w) i r rs j o e ih =
      let n = length f.file in
      let b = f.boundary in
      let more = range_line r n ++ (crlf ++ crlf) in
      let k = length (own_then more (data_then f r rs)) - 1 in
      let a = own_length (field type_name (c ∷ w) ++ (crlf ++ more)) (data_then f r rs) in
      let d = own_length more (data_then f r rs) in
      let q = length-append (c ∷ w) (crlf ++ more) in
      let g = length-append (range_line r n) (crlf ++ crlf) in
      part_type tag n h t b 0 Absent (c ∷ w) more (data_then f r rs) j k (media_value c w i) (omega arith) (omega arith)
      (range_tail r rs 1 k o (omega arith) (omega arith) ih)

  -- a part from the LF of its mark's line on
  pub part_passes : (r : Run) (rs : List Run) (x : PartHead) (j : ℕ) → RunIn (length f.file) r
      → suc j ≡ length (own_then (10 ∷ lines_then (type_lines f.media) (range_line r (length f.file) ++ (crlf ++ crlf))) (data_then f r rs)) → Followed rs
      → Passes tag (length f.file) (in_body PartBegin j x h t f.boundary)
      (own_then (10 ∷ lines_then (type_lines f.media) (range_line r (length f.file) ++ (crlf ++ crlf))) (data_then f r rs))
  part_passes r rs x zero o e ih =
      let least = body_least f rs in
      let a = own_length (lines_then (type_lines f.media) (range_line r (length f.file) ++ (crlf ++ crlf))) (data_then f r rs) in
      let c = from-length r.first (data_of f.file r) (own_then crlf (multipart_body f rs)) in
      absurd (omega arith)
  part_passes r rs x (suc j) o e ih =
      let n = length f.file in
      part_begin tag n h t f.boundary x (own_then (lines_then (type_lines f.media) (range_line r n ++ (crlf ++ crlf))) (data_then f r rs)) j
      (lines_tail f.media media r rs j o (omega arith) ih)

  -- the lines of a part behind its mark, and their count with the mark
  part_count : (r : Run) (rs : List Run) (k : ℕ) → suc k ≡ length (multipart_body f (r ∷ rs))
      → k ≡ length f.boundary + 2 + suc (length
      (own_then (lines_then (type_lines f.media) (range_line r (length f.file) ++ (crlf ++ crlf))) (data_then f r rs)))
  unfolding part_head
  part_count r rs k e =
      let b = f.boundary in
      let lines = lines_then (type_lines f.media) (range_line r (length f.file) ++ (crlf ++ crlf)) in
      let a = own_length (dash_boundary b ++ (crlf ++ lines)) (data_then f r rs) in
      let c = own_length lines (data_then f r rs) in
      let d = length-append b (crlf ++ lines) in
      omega arith

  -- the parts from the mark behind a part on
  pub tail_passes : (rs : List Run) → Each (RunIn (length f.file)) rs → Followed rs
  unfolding closing part_head
  tail_passes [] o k x e =
      let b = f.boundary in
      let a = own_length (dash_boundary b ++ (dashes ++ crlf)) [] in
      let c = length-append b (dashes ++ crlf) in
      next-mark tag (length f.file) h t b x (dashes ++ crlf) [] k 3 (omega arith) (last_fork tag (length f.file) h t b x)
  tail_passes (r ∷ rs) o k x e =
      let n = length f.file in
      let b = f.boundary in
      let lines = lines_then (type_lines f.media) (range_line r n ++ (crlf ++ crlf)) in
      let j = length (own_then lines (data_then f r rs)) in
      next-mark tag n h t b x (crlf ++ lines) (data_then f r rs) k (suc j) (part_count r rs k e)
      (next_fork tag n h t b x (own_then (10 ∷ lines) (data_then f r rs)) j (part_passes r rs x j o.0 refl (tail_passes rs o.1)))

  -- a body of one part or more, from its beginning on
  pub body_passes : (r : Run) (rs : List Run) (k : ℕ) (x : PartHead) → Each (RunIn (length f.file)) (r ∷ rs) → suc k ≡ length (multipart_body f (r ∷ rs))
      → Passes tag (length f.file) (in_body (Preamble 0) k x h t f.boundary) (multipart_body f (r ∷ rs))
  unfolding part_head
  body_passes r rs k x o e =
      let n = length f.file in
      let b = f.boundary in
      let lines = lines_then (type_lines f.media) (range_line r n ++ (crlf ++ crlf)) in
      let j = length (own_then lines (data_then f r rs)) in
      first_mark tag n h t b x (crlf ++ lines) (data_then f r rs) k (suc j) (part_count r rs k e)
      (first_fork tag n h t b x (own_then (10 ∷ lines) (data_then f r rs)) j (part_passes r rs x j o.0 refl (tail_passes rs o.1)))
