-- The cells of our answers: their bytes are the answer's, and each that has a position carries the file's byte there.
use Prim.Native.Nat.{ℕ, suc, ◌-◌, ◌<◌}
use mathlib.Core.Path.{◌≡◌, sym, ◌∙◌, ap}
use mathlib.Core.List.{List, [], ◌∷◌, ◌++◌, map, append-nil, append_assoc}
use native.Mathlib.Omega.{arith}
use lib.ListN.{length, get_or, drop, length-drop, take-append-drop}
use lib.Seq.{drop-cons}
use Rattle.rules_server.specs.Reasons.{Carried, no_body, whole_file, length_only, asked_parts, reason_row}
use Rattle.rules_server.specs.Status.{Request, Resource, decide}
use Rattle.rules_server.specs.Texts.{crlf}
use Rattle.rules_server.specs.Answers.{Cell, byte_of, Answer, head_then, lines_then, bytes_of, own_then, from_then, data_of, part_head, closing}
use Rattle.rules_server.specs.Answers.{multipart_body, ok_answer, unsatisfied_answer, plain_answer, multipart_answer, partial_answer, parts_for, answer}
use Rattle.rules_server.specs.Answers.{answer_carrying}
use Rattle.rules_server.specs.declared.Run.{Run}
use Rattle.laws_server.proofs.Bytes.{own_bytes_lem, lines-append}
use Rattle.rules_demands.specs.Demand3Arrivals.{flat}
use Rattle.rules_demands.specs.FeedingStored.{RightCells}

-- framing of its own carries no position
right_own : (file l : List ℕ) (rest : List Cell) → RightCells file rest → RightCells file (own_then l rest)
right_own file [] rest h = h
right_own file (b ∷ l) rest h = (tt, right_own file l rest h)

-- bytes from the file, from their position on
right_from : (file : List ℕ) (p : ℕ) (l r : List ℕ) (rest : List Cell) → l ++ r ≡ drop p file → RightCells file rest → RightCells file (from_then p l rest)
right_from file p [] r rest e h = h
right_from file p (x ∷ l) r rest e h =
    let long : suc (length (l ++ r)) ≡ length file - p = ap length e ∙ length-drop p file in
    let below : p < length file = omega arith in
    let cut : x ∷ (l ++ r) ≡ get_or file p 0 ∷ drop (suc p) file = e ∙ drop-cons file p 0 below in
    let byte : x ≡ get_or file p 0 = cc in
    let behind : l ++ r ≡ drop (suc p) file = cc in
    ((below, byte), right_from file (suc p) l r rest behind h)

-- a part's data
right_data : (file : List ℕ) (r : Run) (rest : List Cell) → RightCells file rest → RightCells file (from_then r.first (data_of file r) rest)
right_data file r rest h =
    right_from file r.first (data_of file r) (drop (suc r.last - r.first) (drop r.first file)) rest
    (take-append-drop (suc r.last - r.first) (drop r.first file)) h

-- a multipart body
right_body : (f : Resource) (rs : List Run) → RightCells f.file (multipart_body f rs)
right_body f [] = right_own f.file (closing f.boundary) [] tt
right_body f (r ∷ rs) =
    right_own f.file (part_head f.boundary f.media (length f.file) r) _
    (right_data f.file r (own_then crlf (multipart_body f rs)) (right_own f.file crlf (multipart_body f rs) (right_body f rs)))

-- the whole file
right_file : (file : List ℕ) → RightCells file (from_then 0 file [])
right_file file = right_from file 0 file [] [] (append-nil file) tt

right_partial : (f : Resource) (rs : List Run) → RightCells f.file (partial_answer f rs).body
unfolding plain_answer multipart_answer
right_partial f [] = right_body f []
right_partial f (r ∷ []) = right_data f.file r [] tt
right_partial f (r ∷ s ∷ rs) = right_body f (r ∷ s ∷ rs)

right_answer : (c : Carried) (f : Resource) (rs : List Run) → RightCells f.file (answer_carrying c f rs).body
unfolding ok_answer unsatisfied_answer
right_answer no_body f rs = tt
right_answer whole_file f rs = right_file f.file
right_answer length_only f rs = tt
right_answer asked_parts f rs = right_partial f rs

-- the cells of an answer carry the file's bytes
pub right_flat : (q : Request) (f : Resource) → RightCells f.file (flat (answer q f))
unfolding flat answer
right_flat q f = right_own f.file (head_then (answer q f) []) (answer q f).body (right_answer (reason_row (decide q f)).carries f (parts_for q f))

-- a head, and then what follows it
head_then_lem : (a : Answer) (r : List ℕ) → head_then a r ≡ head_then a [] ++ r
unfolding head_then
head_then_lem a r =
    sym
    (append_assoc a.status (crlf ++ lines_then a.fields (crlf ++ [])) r
    ∙ ap (λ (t : List ℕ). a.status ++ (crlf ++ t)) (lines-append a.fields (crlf ++ []) r))

-- and are its bytes
pub flat_bytes : (a : Answer) → map byte_of (flat a) ≡ bytes_of a
unfolding flat bytes_of
flat_bytes a = own_bytes_lem (head_then a []) a.body ∙ sym (head_then_lem a (map byte_of a.body))
