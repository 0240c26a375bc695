-- The tablet's request: "`Range: bytes=a-b` for the first 16 holes in ascending order, comma without space, then `If-Range: ` and its tag, each a line ending
-- in CR LF", 64 holes since 2026-04.
use Rattle.std.specs.Prelude.{ℕ, cond, List, [], ◌∷◌, ◌++◌, ltb, length, take, drop}
use Rattle.std.specs.Prelude.{Option, None, Some}
use Rattle.rules_server.specs.Octets.{codes}
use Rattle.rules_server.specs.Texts.{crlf, bytes_unit}
use Rattle.rules_server.specs.Numerals.{print}
use Rattle.rules_server.specs.declared.Run.{Run}
use Rattle.rules_tablet.specs.Limits.{max_holes}
use Rattle.rules_tablet.specs.Runs.{holes}

-- a range of a request
unfoldable pub range_text : Run → List ℕ
range_text r = print r.first ++ (codes "-" ++ print r.last)

-- ranges with a comma before each
abbrev pub more_ranges : List Run → List ℕ
more_ranges [] = []
more_ranges (r ∷ rs) = codes "," ++ (range_text r ++ more_ranges rs)

-- ranges with a comma between them
abbrev pub ranges_text : List Run → List ℕ
ranges_text [] = []
ranges_text (r ∷ rs) = range_text r ++ more_ranges rs

-- the two lines, for a list of ranges
unfoldable pub request_text : List Run → List ℕ → List ℕ
request_text rs tag = codes "Range: " ++ (bytes_unit ++ (ranges_text rs ++ (crlf ++ (codes "If-Range: " ++ (tag ++ crlf)))))

-- the holes that a request asks for
abbrev pub wanted : ℕ → List Run → List Run
wanted n rs = take max_holes (holes n rs)

-- refusals of a request, after 19: "18: request wanted, nothing missing"; "20: request longer than its buffer"
abbrev pub request_of : List Run → List ℕ → ℕ → Option ℕ
request_of [] tag room = Some 18
request_of (r ∷ rs) tag room = cond (ltb room (length (request_text (r ∷ rs) tag))) (Some 20) None

abbrev pub request_output : Option ℕ → List ℕ → List ℕ → List ℕ
request_output None text out = text ++ drop (length text) out
request_output (Some k) text out = out
