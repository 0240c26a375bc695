-- The texts that the writers write are the bytes of document 01's answers. Assumes nothing.
use Prim.Native.Nat.{ℕ, ◌-◌, ◌<◌, ◌≤◌}
use mathlib.Core.Path.{◌≡◌, refl, sym, ◌∙◌, ap}
use mathlib.Core.Bool.{Bool, true, false, cond}
use mathlib.Core.List.{List, [], ◌∷◌, ◌++◌, map, append_assoc, append-nil}
use mathlib.Core.Logic.{◌⊎◌, inl, inr}
use native.Mathlib.Omega.{arith}
use lib.Dec.{eqb}
use Rattle.std.proofs.lemmas.Bool.{eqb-true}
use lib.ListN.{length, get_or}
use Rattle.rules_server.specs.Texts.{crlf, status200, status206}
use Rattle.rules_server.specs.Answers.{Answer, Cell, byte_of, lines_then, head_then, bytes_of, data_of, from_then, modified_text, validator_lines, type_lines}
use Rattle.rules_server.specs.Answers.{multipart_line, range_line, length_line, multipart_body, ok_answer, unsatisfied_answer, plain_answer, multipart_answer}
use Rattle.rules_server.specs.Answers.{partial_answer}
use Rattle.rules_server.specs.Status.{Resource, status_of}
use Rattle.rules_server.specs.declared.Reason.{Reason}
use Rattle.rules_server.specs.declared.Reason.TheVariants.{Head, None, Long, Unit as OtherUnit, Malformed, Many, ChangedFile, Invalid, Unsatisfiable, Empty, Partial}
use Rattle.rules_server.specs.declared.Run.{Run}
use Rattle.laws_server.proofs.Bytes.{from_bytes}
use Rattle.server_answers.specs.Starts.{start_text}
use Rattle.writing.specs.Measures.{enormous}
use Rattle.server_answers.specs.Bodies.{body_text, multipart_head, multipart_text}
use Rattle.server_answers.proofs.Multiparts.{body_bytes, body_length, zeros}
use Rattle.server_answers.specs.Heads.{ok_head, plain_head}
use Rattle.server_answers.specs.Responses.{is_head, plain_text, partial_text, response_text}

-- lines behind lines
pub lines-behind : (fs gs : List (List ℕ)) (rest : List ℕ) → lines_then (fs ++ gs) rest ≡ lines_then fs [] ++ lines_then gs rest
lines-behind [] gs rest = refl
lines-behind (f ∷ fs) gs rest = rw (lines-behind fs gs rest) (simp append_assoc)

-- two groups of lines, then others
lines_groups : (a b c : List (List ℕ)) (rest : List ℕ) → lines_then (a ++ (b ++ c)) rest ≡ lines_then a [] ++ (lines_then b [] ++ lines_then c rest)
lines_groups a b c rest = lines-behind a (b ++ c) rest ∙ ap (λ (t : List ℕ). lines_then a [] ++ t) (lines-behind b c rest)

-- the regroupings of a head's texts, over any texts
regroup_ok : (s e t l c body : List ℕ) → s ++ (c ++ (e ++ (t ++ (l ++ (c ++ (c ++ body)))))) ≡ ((s ++ (c ++ e)) ++ (t ++ ((l ++ c) ++ c))) ++ body
regroup_ok s e t l c body = simp append_assoc

regroup_plain : (s e t r l c body : List ℕ)
    → s ++ (c ++ (e ++ (t ++ (r ++ (c ++ (l ++ (c ++ (c ++ body)))))))) ≡ ((s ++ (c ++ e)) ++ (t ++ ((r ++ c) ++ ((l ++ c) ++ c)))) ++ body
regroup_plain s e t r l c body = simp append_assoc

regroup_multipart : (s e m l c body : List ℕ)
    → s ++ (c ++ (e ++ (m ++ (c ++ (l ++ (c ++ (c ++ body))))))) ≡ ((s ++ (c ++ e)) ++ ((m ++ c) ++ ((l ++ c) ++ c))) ++ body
regroup_multipart s e m l c body = simp append_assoc

-- a 200
pub ok_bytes : (f : Resource) (body : List Cell)
    → bytes_of (ok_answer f body) ≡ ok_head f.tag (modified_text f.modified) f.media (length f.file) ++ map byte_of body
unfolding bytes_of head_then ok_answer ok_head start_text
ok_bytes f body =
    let v = validator_lines f.tag (modified_text f.modified) in
    ap (λ (t : List ℕ). status200 ++ (crlf ++ t))
    (lines_groups v (type_lines f.media) (length_line (length f.file) ∷ []) (crlf ++ map byte_of body))
    ∙ regroup_ok status200 (lines_then v []) (lines_then (type_lines f.media) []) (length_line (length f.file)) crlf (map byte_of body)

-- a plain 206
pub plain_bytes : (f : Resource) (r : Run)
    → bytes_of (plain_answer f r)
    ≡ plain_head f.tag (modified_text f.modified) f.media r (length f.file) (length (data_of f.file r)) ++ data_of f.file r
unfolding bytes_of head_then plain_answer plain_head start_text
plain_bytes f r =
    let n = length f.file in
    let d = data_of f.file r in
    let v = validator_lines f.tag (modified_text f.modified) in
    ap (λ (t : List ℕ). status206 ++ (crlf ++ lines_then (v ++ (type_lines f.media ++ (range_line r n ∷ length_line (length d) ∷ []))) (crlf ++ t)))
    (from_bytes r.first d [] ∙ append-nil d)
    ∙ ap (λ (t : List ℕ). status206 ++ (crlf ++ t))
    (lines_groups v (type_lines f.media) (range_line r n ∷ length_line (length d) ∷ []) (crlf ++ d))
    ∙ regroup_plain status206 (lines_then v []) (lines_then (type_lines f.media) []) (range_line r n) (length_line (length d)) crlf d

-- a multipart 206
pub multipart_bytes : (f : Resource) (rs : List Run)
    → bytes_of (multipart_answer f rs)
    ≡ multipart_head f.tag (modified_text f.modified) f.boundary (length (multipart_body f rs)) ++ body_text f.boundary f.media f.file rs
unfolding bytes_of head_then multipart_answer multipart_head start_text
multipart_bytes f rs =
    let v = validator_lines f.tag (modified_text f.modified) in
    let m = multipart_line f.boundary in
    let l = length_line (length (multipart_body f rs)) in
    ap (λ (t : List ℕ). status206 ++ (crlf ++ lines_then (v ++ (m ∷ l ∷ [])) (crlf ++ t))) (body_bytes f rs)
    ∙ ap (λ (t : List ℕ). status206 ++ (crlf ++ t)) (lines-behind v (m ∷ l ∷ []) (crlf ++ body_text f.boundary f.media f.file rs))
    ∙ regroup_multipart status206 (lines_then v []) m l crlf (body_text f.boundary f.media f.file rs)

-- ---- one part and several

-- the text of one part is a plain 206's
pub single_text : (boundary media file tag modified : List ℕ) (rs : List Run) → 1 ≤ length rs → length rs < 2
    → partial_text boundary media file tag modified rs ≡ plain_text media file tag modified (get_or rs 0 zeros)
single_text boundary media file tag modified [] some few = absurd (omega arith)
single_text boundary media file tag modified (r ∷ []) some few = refl
single_text boundary media file tag modified (r ∷ s ∷ rs) some few = absurd (omega arith)

-- a multipart whose length can be measured
multipart_text_lem : (f : Resource) (rs : List Run) → length (body_text f.boundary f.media f.file rs) ≤ enormous
    → multipart_text f.boundary f.media f.file f.tag (modified_text f.modified) rs ≡ bytes_of (multipart_answer f rs)
multipart_text_lem f rs h =
    let n = length (body_text f.boundary f.media f.file rs) in
    let exact : enormous - (enormous - n) ≡ length (multipart_body f rs) = omega (arith, h, body_length f rs) in
    ap (λ (k : ℕ). multipart_head f.tag (modified_text f.modified) f.boundary k ++ body_text f.boundary f.media f.file rs) exact
    ∙ sym (multipart_bytes f rs)

partial_text_lem : (f : Resource) (rs : List Run) → length (body_text f.boundary f.media f.file rs) ≤ enormous
    → partial_text f.boundary f.media f.file f.tag (modified_text f.modified) rs ≡ bytes_of (partial_answer f rs)
partial_text_lem f [] h = multipart_text_lem f [] h
partial_text_lem f (r ∷ []) h = sym (plain_bytes f r)
partial_text_lem f (r ∷ s ∷ rs) h = multipart_text_lem f (r ∷ s ∷ rs) h

-- ---- an answer by its status

-- the answer of a status, with or without a body
abbrev pub answer_of : ℕ → Bool → Resource → List Run → Answer
answer_of status head_only f rs =
    cond (eqb status 416) (unsatisfied_answer (length f.file))
    (cond (eqb status 206) (partial_answer f rs)
    (ok_answer f (cond head_only [] (from_then 0 f.file []))))

-- two numbers that are not the same
eqb-other : (a b : ℕ) → (a ≡ b → ⊥) → eqb a b ≡ false
eqb-other a b h = go (eqb a b) refl
  where
    go : (t : Bool) → eqb a b ≡ t → eqb a b ≡ false
    go true e = absurd (h (eqb-true a b e))
    go false e = e

module _ (boundary media file tag modified : List ℕ) (rs : List Run) where
  -- a 416
  pub text_416 : (s : ℕ) (h : Bool) → s ≡ 416 → response_text s h boundary media file tag modified rs ≡ bytes_of (unsatisfied_answer (length file))
  unfolding response_text
  text_416 s h e = rw e

  -- a 206
  pub text_206 : (s : ℕ) (h : Bool) → s ≡ 206 → response_text s h boundary media file tag modified rs ≡ partial_text boundary media file tag modified rs
  unfolding response_text
  text_206 s h e = rw e

  -- the head of a 200
  pub text_head : (s : ℕ) (h : Bool) → (s ≡ 416 → ⊥) → (s ≡ 206 → ⊥) → h ≡ true
      → response_text s h boundary media file tag modified rs ≡ ok_head tag modified media (length file)
  unfolding response_text
  text_head s h u p e = rw (eqb-other s 416 u, eqb-other s 206 p, e) (append-nil (ok_head tag modified media (length file)))

  -- a 200 with the file
  pub text_file : (s : ℕ) (h : Bool) → (s ≡ 416 → ⊥) → (s ≡ 206 → ⊥) → h ≡ false
      → response_text s h boundary media file tag modified rs ≡ ok_head tag modified media (length file) ++ file
  unfolding response_text
  text_file s h u p e = rw (eqb-other s 416 u, eqb-other s 206 p, e)

-- the text of a status is the bytes of its answer, where a multipart's length can be measured
pub response_bytes : (status : ℕ) (head_only : Bool) (f : Resource) (rs : List Run)
    → (eqb status 206 ≡ true → length (body_text f.boundary f.media f.file rs) ≤ enormous)
    → response_text status head_only f.boundary f.media f.file f.tag (modified_text f.modified) rs ≡ bytes_of (answer_of status head_only f rs)
unfolding response_text
response_bytes status head_only f rs h = go (eqb status 416) (eqb status 206) head_only refl
  where
    go : (a b k : Bool) → eqb status 206 ≡ b
        → cond a (bytes_of (unsatisfied_answer (length f.file)))
        (cond b (partial_text f.boundary f.media f.file f.tag (modified_text f.modified) rs)
        (ok_head f.tag (modified_text f.modified) f.media (length f.file) ++ cond k [] f.file))
        ≡ bytes_of (cond a (unsatisfied_answer (length f.file)) (cond b (partial_answer f rs) (ok_answer f (cond k [] (from_then 0 f.file [])))))
    go true b k e = refl
    go false true k e = partial_text_lem f rs (h e)
    go false false true e = sym (ok_bytes f [])
    go false false false e = sym (ok_bytes f (from_then 0 f.file []) ∙ rw (from_bytes 0 f.file [], append-nil))
