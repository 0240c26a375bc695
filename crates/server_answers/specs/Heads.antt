-- The texts that the heads of answers are written from, one after the other. proofs/Laws.antt shows that they are the bytes of document 01's answers.
use Rattle.std.specs.Prelude.{ℕ, List, [], ◌++◌}
use Rattle.rules_server.specs.Texts.{crlf, status200, status206}
use Rattle.rules_server.specs.Answers.{lines_then, type_lines, range_line, length_line}
use Rattle.rules_server.specs.declared.Run.{Run}
use Rattle.server_answers.specs.Starts.{start_text}

-- the head of a 200 of n bytes, with its empty line
unfoldable pub ok_head : List ℕ → List ℕ → List ℕ → ℕ → List ℕ
unfolding start_text
ok_head tag modified media n = start_text status200 tag modified ++ (lines_then (type_lines media) [] ++ ((length_line n ++ crlf) ++ crlf))

-- the head of a plain 206: the run r of n bytes, count of them sent
unfoldable pub plain_head : List ℕ → List ℕ → List ℕ → Run → ℕ → ℕ → List ℕ
unfolding start_text
plain_head tag modified media r n count = start_text status206 tag modified
    ++ (lines_then (type_lines media) [] ++ ((range_line r n ++ crlf) ++ ((length_line count ++ crlf) ++ crlf)))
