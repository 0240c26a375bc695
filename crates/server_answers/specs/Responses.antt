-- The texts that an answer is written from, by its status. proofs/Laws.antt shows that they are the bytes of document 01's answers.
use Rattle.std.specs.Prelude.{ℕ, Bool, cond, List, [], ◌∷◌, ◌++◌, eqb, length}
use Rattle.rules_server.specs.Answers.{bytes_of, data_of, unsatisfied_answer}
use Rattle.rules_server.specs.Reasons.{is_no_body, reason_row}
use Rattle.rules_server.specs.declared.Reason.{Reason}
use Rattle.rules_server.specs.declared.Run.{Run}
use Rattle.server_answers.specs.Bodies.{multipart_text}
use Rattle.server_answers.specs.Heads.{ok_head, plain_head}

-- the reason of an answer without a body
abbrev pub is_head : Reason → Bool
is_head x = is_no_body (reason_row x).carries

-- a plain 206
abbrev pub plain_text : List ℕ → List ℕ → List ℕ → List ℕ → Run → List ℕ
plain_text media file tag modified r = plain_head tag modified media r (length file) (length (data_of file r)) ++ data_of file r

-- a 206, plain for one part
abbrev pub partial_text : List ℕ → List ℕ → List ℕ → List ℕ → List ℕ → List Run → List ℕ
partial_text boundary media file tag modified [] = multipart_text boundary media file tag modified []
partial_text boundary media file tag modified (r ∷ []) = plain_text media file tag modified r
partial_text boundary media file tag modified (r ∷ s ∷ rs) = multipart_text boundary media file tag modified (r ∷ s ∷ rs)

-- the answer of a status, with or without a body where it is neither 416 nor 206
unfoldable pub response_text : ℕ → Bool → List ℕ → List ℕ → List ℕ → List ℕ → List ℕ → List Run → List ℕ
response_text status head_only boundary media file tag modified rs =
    cond (eqb status 416) (bytes_of (unsatisfied_answer (length file)))
    (cond (eqb status 206) (partial_text boundary media file tag modified rs)
    (ok_head tag modified media (length file) ++ cond head_only [] file))
