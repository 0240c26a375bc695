-- The texts that a multipart 206 is written from, one after the other. proofs/Laws.antt shows that they are the bytes of document 01's answer.
use Rattle.std.specs.Prelude.{ℕ, ◌-◌, List, [], ◌∷◌, ◌++◌, length}
use Rattle.rules_server.specs.Texts.{crlf, status206}
use Rattle.rules_server.specs.Answers.{part_head, closing, data_of, multipart_line, length_line}
use Rattle.rules_server.specs.declared.Run.{Run}
use Rattle.writing.specs.Measures.{enormous}
use Rattle.server_answers.specs.Starts.{start_text}

-- the parts of a multipart one after the other, without the closing line
abbrev pub parts_text : List ℕ → List ℕ → List ℕ → List Run → List ℕ
parts_text boundary media file [] = []
parts_text boundary media file (r ∷ rs) = (part_head boundary media (length file) r ++ (data_of file r ++ crlf)) ++ parts_text boundary media file rs

-- the bytes of a multipart body
abbrev pub body_text : List ℕ → List ℕ → List ℕ → List Run → List ℕ
body_text boundary media file [] = closing boundary
body_text boundary media file (r ∷ rs) = part_head boundary media (length file) r ++ (data_of file r ++ (crlf ++ body_text boundary media file rs))

-- the head of a multipart 206 whose body has count bytes
unfoldable pub multipart_head : List ℕ → List ℕ → List ℕ → ℕ → List ℕ
unfolding start_text
multipart_head tag modified boundary count = start_text status206 tag modified ++ ((multipart_line boundary ++ crlf) ++ ((length_line count ++ crlf) ++ crlf))

-- a multipart 206, whose head tells the length of its body up to an enormous number
abbrev pub multipart_text : List ℕ → List ℕ → List ℕ → List ℕ → List ℕ → List Run → List ℕ
multipart_text boundary media file tag modified rs =
    multipart_head tag modified boundary (enormous - (enormous - length (body_text boundary media file rs))) ++ body_text boundary media file rs
