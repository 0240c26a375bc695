-- A 206 of several parts is followed.
use Rattle.std.specs.Prelude.{None, Some}
use Prim.Native.Nat.{ℕ, zero, suc, ◌≤◌, ◌<◌}
use mathlib.Core.Path.{◌≡◌, refl}
use mathlib.Core.Bool.{true, false}
use mathlib.Core.List.{List, [], ◌∷◌}
use native.Mathlib.Omega.{arith}
use lib.ListN.{length}
use borrow.Author.Tests.{ne_eqb}
use Rattle.rules_server.specs.Limits.{max_file, max_tag}
use Rattle.rules_server.specs.Texts.{crlf, status206}
use Rattle.rules_server.specs.Tags.{is_strong, bad_boundary}
use Rattle.rules_server.specs.Status.{Resource}
use Rattle.rules_server.specs.Answers.{lines_then, head_then, length_line, multipart_line, multipart_body, multipart_answer}
use Rattle.rules_server.specs.declared.Run.{Run}
use Rattle.rules_demands.specs.Positions.{Each, RunIn}
use Rattle.rules_tablet.specs.Limits.{max_size}
use Rattle.rules_tablet.specs.Fields.{is_status_line}
use Rattle.rules_tablet.specs.Heads.{other_status, broken_head, unlike_copy, wrong_range, empty_parts, head_refusal, body_stage}
use Rattle.rules_tablet.specs.Parsers.{begin_body, is_refused}
use Rattle.rules_tablet.specs.Calls.{fresh}
use Rattle.rules_tablet.specs.declared.RangeField.TheVariants.{Absent}
use Rattle.rules_tablet.specs.declared.TypeField.TheVariants.{Multipart}
use Rattle.rules_demands.specs.Demand3Arrivals.{flat}
use Rattle.laws_reader.proofs.own_answers.Segments.{Passes}
use Rattle.laws_reader.proofs.own_answers.Bytes.{same_self}
use Rattle.laws_reader.proofs.own_answers.Names.{IsMedia, boundary_allowed, multipart_value, multipart_value_lem, multipart_type_lem}
use Rattle.laws_reader.proofs.own_answers.Heads.{head_of, in_head, type_passes}
use Rattle.laws_reader.proofs.own_answers.Plain.{size_end, validators_pass}
use Rattle.laws_reader.proofs.own_answers.Multipart.{part_of}
use Rattle.laws_reader.proofs.own_answers.Parts.{body_least, body_passes}

-- a multipart under the copy's tag is accepted
many_accepted : (tag : List ℕ) (n k z : ℕ) → 0 < z → head_refusal tag n (head_of 206 k true Multipart Absent (Some z)) tag ≡ 0
unfolding head_refusal other_status broken_head unlike_copy wrong_range empty_parts
many_accepted tag n k z l = rw (same_self tag, ne_eqb z 0 (λ e. omega arith))

module _ (f : Resource) (strong : is_strong f.tag ≡ true) (short : length f.tag ≤ max_tag) (small : length f.file ≤ max_file)
    (media : IsMedia f.media) (framed : bad_boundary f.boundary ≡ false)
    (r : Run) (rs : List Run) (o : Each (RunIn (length f.file)) (r ∷ rs)) where
  -- the body behind its head
  begin_many : (k z : ℕ) → z ≡ length (multipart_body f (r ∷ rs))
      → Passes f.tag (length f.file) (begin_body z (in_head (head_of 206 k true Multipart Absent (Some z)) f.tag f.boundary))
      (multipart_body f (r ∷ rs))
  unfolding body_stage
  begin_many k zero e = absurd (omega (arith, body_least f (r ∷ rs)))
  begin_many k (suc z) e = body_passes f.tag f (head_of 206 k true Multipart Absent (Some (suc z))) f.tag small media r rs z (part_of 0 Absent) o e

  -- its head is not refused
  many_open : (k z : ℕ) → is_refused (begin_body z (in_head (head_of 206 k true Multipart Absent (Some z)) f.tag f.boundary)).stage ≡ false
  unfolding body_stage
  many_open k zero = refl
  many_open k (suc z) = refl

  -- the whole answer, if it is not longer than a Content-Length may say
  pub many_passes : length (multipart_body f (r ∷ rs)) ≤ max_size → Passes f.tag (length f.file) fresh (flat (multipart_answer f (r ∷ rs)))
  unfolding flat head_then multipart_answer multipart_line is_status_line
  many_passes w =
      let n = length f.file in
      let b = f.boundary in
      let body = multipart_body f (r ∷ rs) in
      let z = length body in
      let least = body_least f (r ∷ rs) in
      validators_pass f.tag n strong short 206 status206 f.modified (multipart_line b ∷ length_line z ∷ []) body refl (omega arith) refl refl
      (λ k l. type_passes f.tag n (lines_then (length_line z ∷ []) crlf) body 206 k true Absent None f.tag [] (multipart_value b) b Multipart
      (omega arith) (multipart_value_lem b (boundary_allowed b framed)) (multipart_type_lem b framed) refl
      (size_end f.tag n 206 (suc k) true Multipart Absent f.tag b z body (omega arith) w (many_accepted f.tag n (suc (suc k)) z (omega arith))
      (many_open (suc (suc k)) z) (begin_many (suc (suc k)) z refl)))
