-- What the tablet end says and leaves at both sides of each rule: opening, the request, complete, and a fresh reader fed whole answers and their fronts (the
-- report, the bytes taken, and what is held then).
use Rattle.std.specs.Prelude.{ℕ, Bool, true, false, List, [], ◌∷◌, ◌++◌, None, Some}
use Prim.Native.String.{String}
use Rattle.std.specs.Prelude.{Option, None, Some}
use Rattle.rules_server.specs.Octets.{codes}
use Rattle.rules_server.specs.declared.Run.{Run}
use Rattle.rules_tablet.specs.Runs.{run}
use Rattle.rules_tablet.specs.Parsers.{Parser}
use Rattle.rules_tablet.specs.Calls.{State, opened, fresh, Feeding, feed_call, request_refusal, request_call, complete_call}
use Rattle.rules_tablet.specs.declared.RangeField.TheVariants.{Absent, Of}
use Rattle.rules_tablet.specs.declared.TypeField.TheVariants.{Absent as NoType, Multipart}
use Rattle.rules_tablet.specs.declared.Stage.{Stage}
use Rattle.rules_tablet.specs.declared.Stage.TheVariants.{Fields, Plain, Preamble, PreambleEnd, FirstDelimiter, Delimiter, AfterFirstDelimiter, AfterDelimiter}
use Rattle.rules_tablet.specs.declared.Stage.TheVariants.{PartBegin, Closing, PartLine, Data, Epilogue, Refused as By}
use Rattle.rules_tablet.specs.declared.Report.{Report}
use Rattle.rules_tablet.specs.declared.Report.TheVariants.{More, Finished, Refused}
use Rattle.rules_demands.specs.AnchorTables.{Entry, ◌is◌, Agree}
use Rattle.rules_demands.specs.AnchorSamples.{dots, letters, repeat, singles, ok, partial}
use Rattle.rules_demands.specs.AnchorRules.{copy_holding, head_of, part_of, reader_at}

-- what feeding bytes to a reader says and leaves
pub record Left : Type 0 where
  pub report : Report
  pub taken : ℕ
  pub runs : List Run
  pub buffer : List ℕ

abbrev pub left : Report → ℕ → List Run → List ℕ → Left
left report taken runs buffer = record { report = report; taken = taken; runs = runs; buffer = buffer }

abbrev pub left_of : Feeding → Left
left_of f = left f.report f.taken f.copy.runs f.buffer

abbrev pub leaves : State → List ℕ → List ℕ → Left
leaves c buffer answer = left_of (feed_call c fresh buffer answer)

-- an answer for a fresh copy of four bytes
abbrev pub unread : List ℕ → Left
unread answer = leaves (copy_holding 4 []) (dots 4) answer

-- what is said where nothing is stored
abbrev pub says : Report → ℕ → Left
says report taken = left report taken [] (dots 4)

-- the head of a multipart of so many bytes
abbrev pub parts : String → List ℕ
parts n = partial ++ (codes "Content-Type: multipart/byteranges; boundary=B\r\nContent-Length: " ++ (codes n ++ codes "\r\n\r\n"))

-- within the head, or a part's lines
unfoldable pub heads : List (Entry Left)
heads =
    -- "every line has up to 512 bytes before CR LF": "a 513th byte" is 11 at that byte
    unread (codes "HTTP/1.1 200\r\n" ++ (codes "a:" ++ (letters 510 ++ codes "\r\n"))) is says More 528
    ∷ unread (codes "HTTP/1.1 200\r\n" ++ (codes "a:" ++ letters 511)) is says (Refused 11) 526
    -- "at most 64 field lines": "a 65th line is 11 at its LF"
    ∷ unread (codes "HTTP/1.1 200\r\n" ++ repeat 64 (codes "a:\r\n")) is says More 270
    ∷ unread (codes "HTTP/1.1 200\r\n" ++ repeat 65 (codes "a:\r\n")) is says (Refused 11) 273
    -- Content-Length: "value at most 2,199,023,255,552"
    ∷ unread (codes "HTTP/1.1 416\r\nContent-Length: 2199023255552\r\n\r\nx") is says More 48
    ∷ unread (codes "HTTP/1.1 416\r\nContent-Length: 2199023255553\r\n") is says (Refused 11) 44
    -- "0 to 4 empty lines"
    ∷ unread (parts "100" ++ (repeat 4 (codes "\r\n") ++ codes "-")) is says More 121
    ∷ unread (parts "100" ++ (repeat 4 (codes "\r\n") ++ codes "\r")) is says (Refused 15) 120
    -- of a part "1 to 16 lines"
    ∷ unread (parts "100" ++ (codes "--B\r\n" ++ repeat 16 (codes "a:\r\n"))) is says More 181
    ∷ unread (parts "100" ++ (codes "--B\r\n" ++ repeat 17 (codes "a:\r\n"))) is says (Refused 15) 184
    -- "At a part's empty line, its data, CR LF and a closing mark must still fit"
    ∷ unread (parts "43" ++ codes "--B\r\nContent-Range: bytes 0-0/4\r\n\r\n") is says More 146
    ∷ unread (parts "42" ++ codes "--B\r\nContent-Range: bytes 0-0/4\r\n\r\n") is says (Refused 15) 145
    -- a part's empty line: "14, 13"; its last position, and one beyond the copy
    ∷ unread (parts "100" ++ codes "--B\r\nContent-Range: bytes 0-3/*\r\n\r\n") is says More 147
    ∷ unread (parts "100" ++ codes "--B\r\nContent-Range: bytes 0-4/*\r\n\r\n") is says (Refused 14) 146
    ∷ unread (parts "100" ++ codes "--B\r\nContent-Range: bytes 0-3/5\r\n\r\n") is says (Refused 13) 146
    -- 14 before 13, and 14 alone where a number is too large beside a foreign length
    ∷ unread (parts "100" ++ codes "--B\r\nContent-Range: bytes 0-4/5\r\n\r\n") is says (Refused 14) 146
    ∷ unread (parts "100" ++ codes "--B\r\nContent-Range: bytes 0-3/1099511627777\r\n\r\n") is says (Refused 14) 158
    ∷ unread (parts "100" ++ codes "--B\r\nContent-Range: bytes 0-1099511627777/5\r\n\r\n") is says (Refused 14) 158
    -- a Content-Range "whose span, unless it is wrong, equals Content-Length"; "its stated length counts for 13 only if .. no number too large"
    ∷ unread (partial ++ codes "Content-Range: bytes 1-3/*\r\nContent-Length: 3\r\n\r\n") is says More 90
    ∷ unread (partial ++ codes "Content-Range: bytes 1-3/4\r\nContent-Length: 3\r\n\r\n") is says More 90
    ∷ unread (partial ++ codes "Content-Range: bytes 1-3/4\r\nContent-Length: 4\r\n\r\n") is says (Refused 11) 89
    ∷ unread (partial ++ codes "Content-Range: bytes 1-4/*\r\nContent-Length: 4\r\n\r\n") is says (Refused 14) 89
    ∷ unread (partial ++ codes "Content-Range: bytes 1-4/*\r\nContent-Length: 3\r\n\r\n") is says (Refused 14) 89
    ∷ unread (partial ++ codes "Content-Range: bytes 3-1/4\r\nContent-Length: 3\r\n\r\n") is says (Refused 14) 89
    ∷ unread (partial ++ codes "Content-Range: bytes 1-3/5\r\nContent-Length: 3\r\n\r\n") is says (Refused 13) 89
    ∷ unread (partial ++ codes "Content-Range: bytes 1-3/3\r\nContent-Length: 3\r\n\r\n") is says (Refused 13) 89
    ∷ unread (partial ++ codes "Content-Range: bytes 1-4/5\r\nContent-Length: 4\r\n\r\n") is says (Refused 13) 89
    ∷ unread (partial ++ codes "Content-Range: bytes 1-3/1099511627776\r\nContent-Length: 3\r\n\r\n") is says (Refused 13) 101
    ∷ unread (partial ++ codes "Content-Range: bytes 1-3/1099511627777\r\nContent-Length: 3\r\n\r\n") is says (Refused 14) 101
    ∷ unread (partial ++ codes "Content-Range: bytes 1-1099511627777/5\r\nContent-Length: 3\r\n\r\n") is says (Refused 14) 101
    -- 13: "200 or 206 without the copy's tag, or a 200's Content-Length .. unlike the copy's length"; 416 "needs no tag"; 12 first
    ∷ unread (ok ++ codes "Content-Length: 4\r\n\r\n") is says More 49
    ∷ unread (ok ++ codes "Content-Length: 5\r\n\r\n") is says (Refused 13) 48
    ∷ unread (ok ++ codes "Content-Length: 3\r\n\r\n") is says (Refused 13) 48
    ∷ unread (codes "HTTP/1.1 200 OK\r\nETag: W/\"k\"\r\nContent-Length: 4\r\n\r\n") is says (Refused 13) 50
    ∷ unread (codes "HTTP/1.1 200 OK\r\nETag: \"K\"\r\nContent-Length: 4\r\n\r\n") is says (Refused 13) 48
    ∷ unread (codes "HTTP/1.1 206 x\r\nContent-Range: bytes 0-0/4\r\nContent-Length: 1\r\n\r\n") is says (Refused 13) 64
    ∷ unread (codes "HTTP/1.1 416 x\r\nContent-Range: x\r\nContent-Length: 0\r\n\r\n") is says Finished 55
    ∷ unread (codes "HTTP/1.1 201 x\r\n\r\n") is says (Refused 12) 17
    ∷ unread (codes "HTTP/1.1 200 x\r\n\r\n") is says (Refused 11) 17
    ∷ unread (ok ++ codes "Content-Range: bytes 0-3/4\r\nContent-Length: 4\r\n\r\n") is says (Refused 11) 76
    -- the boundary in another case; a closing mark, and one that Content-Length cuts off; anything behind it
    ∷ unread (parts "100" ++ codes "--b") is says (Refused 15) 114
    ∷ []

-- data
unfoldable pub bodies : List (Entry Left)
bodies =
    -- a 200, whole and cut off: stored as it comes
    leaves (copy_holding 4 []) (codes "....") (ok ++ codes "Content-Length: 4\r\n\r\nabcd")
    is left Finished 53 (run 0 3 ∷ []) (codes "abcd")
    ∷ leaves (copy_holding 4 []) (codes "....") (ok ++ codes "Content-Length: 4\r\n\r\nab")
    is left More 51 (run 0 1 ∷ []) (codes "ab..")
    -- "A byte for a held position must equal it": 17, not taken, where it differs
    ∷ leaves (copy_holding 4 (run 1 1 ∷ [])) (codes ".b..") (ok ++ codes "Content-Length: 4\r\n\r\nabcd")
    is left Finished 53 (run 0 3 ∷ []) (codes "abcd")
    ∷ leaves (copy_holding 4 (run 1 1 ∷ [])) (codes ".B..") (ok ++ codes "Content-Length: 4\r\n\r\nabcd")
    is left (Refused 17) 50 (run 0 1 ∷ []) (codes "aB..")
    -- a multipart of one part; what stands behind the closing mark, up to Content-Length; Content-Length that ends before it
    ∷ leaves (copy_holding 4 []) (codes "....") (parts "43" ++ codes "--B\r\nContent-Range: bytes 3-3/4\r\n\r\nd\r\n--B--")
    is left Finished 154 (run 3 3 ∷ []) (codes "...d")
    ∷ leaves (copy_holding 4 []) (codes "....") (parts "46" ++ codes "--B\r\nContent-Range: bytes 3-3/4\r\n\r\nd\r\n--B--xyz!")
    is left Finished 157 (run 3 3 ∷ []) (codes "...d")
    ∷ leaves (copy_holding 4 []) (codes "....") (parts "43" ++ codes "--B\r\nContent-Range: bytes 3-3/4\r\n\r\nd\r\n--B-x")
    is left (Refused 15) 153 (run 3 3 ∷ []) (codes "...d")
    -- "storing the byte would make more than 32 runs", 128 since 2026-04: 16
    ∷ leaves (copy_holding 300 (singles 0 127)) (dots 300) (partial ++ codes "Content-Range: bytes 260-260/300\r\nContent-Length: 1\r\n\r\nx")
    is left Finished 97 (singles 0 127 ++ (run 260 260 ∷ [])) (dots 260 ++ (codes "x" ++ dots 39))
    ∷ leaves (copy_holding 300 (singles 0 128)) (dots 300) (partial ++ codes "Content-Range: bytes 260-260/300\r\nContent-Length: 1\r\n\r\nx")
    is left (Refused 16) 96 (singles 0 128) (dots 300)
    -- a byte that touches a held run makes no run more
    ∷ leaves (copy_holding 300 (singles 0 128)) (dots 300) (partial ++ codes "Content-Range: bytes 255-255/300\r\nContent-Length: 1\r\n\r\nx")
    is left Finished 97 (singles 0 127 ++ (run 254 255 ∷ [])) (dots 255 ++ (codes "x" ++ dots 44))
    -- "19 before all else, nothing taken or changed": a copy that breaks its rule, a buffer of another length
    ∷ leaves (copy_holding 4 (run 0 0 ∷ run 1 1 ∷ [])) (codes "....") (ok ++ codes "Content-Length: 4\r\n\r\nabcd")
    is left (Refused 19) 0 (run 0 0 ∷ run 1 1 ∷ []) (codes "....")
    ∷ leaves (copy_holding 4 []) (codes ".....") (ok ++ codes "Content-Length: 4\r\n\r\nabcd")
    is left (Refused 19) 0 ([]) (codes ".....")
    ∷ []

-- this byte as the last counted one of a multipart with a part of the positions 8 and 9, beside a copy of ten bytes
abbrev pub last_byte_at : Stage → String → Left
last_byte_at stage byte = left_of (feed_call (copy_holding 10 [])
    (reader_at stage 0 (head_of 206 3 Multipart Absent (Some 100)) (part_of 1 (Of 8 9 10)) (codes "\"k\"") (codes "B")) (dots 10) (codes byte))

-- what is said of it
abbrev pub ends : Report → ℕ → Left
ends report taken = left report taken [] (dots 10)

-- 15 "on the last counted byte if the closing mark is not then complete", wherever the reader stands; data for whose end there is no room breaks the rule
unfoldable pub lasts : List (Entry Left)
lasts =
    last_byte_at (Preamble 0) "\r" is ends (Refused 15) 0
    ∷ last_byte_at (Preamble 0) "-" is ends (Refused 15) 0
    ∷ last_byte_at (PreambleEnd 0) "\n" is ends (Refused 15) 0
    ∷ last_byte_at (FirstDelimiter 3) "-" is ends (Refused 15) 0
    ∷ last_byte_at (FirstDelimiter 4) "B" is ends (Refused 15) 0
    ∷ last_byte_at AfterFirstDelimiter "\r" is ends (Refused 15) 0
    ∷ last_byte_at PartBegin "\n" is ends (Refused 15) 0
    ∷ last_byte_at PartLine "a" is ends (Refused 15) 0
    ∷ last_byte_at (Delimiter 0) "\r" is ends (Refused 15) 0
    ∷ last_byte_at (Delimiter 3) "-" is ends (Refused 15) 0
    ∷ last_byte_at (Delimiter 4) "B" is ends (Refused 15) 0
    ∷ last_byte_at AfterDelimiter "\r" is ends (Refused 15) 0
    ∷ last_byte_at AfterDelimiter "-" is ends (Refused 15) 0
    ∷ last_byte_at Closing "x" is ends (Refused 15) 0
    ∷ last_byte_at Closing "-" is ends Finished 1
    ∷ last_byte_at Epilogue "x" is ends Finished 1
    ∷ last_byte_at (Data 8 2) "x" is ends (Refused 19) 0
    ∷ last_byte_at (Data 9 1) "x" is ends (Refused 19) 0
    ∷ []

-- behind the CR of the head's empty line, with no Content-Length seen
abbrev pub at_empty_line : Stage → Parser
at_empty_line stage = record {
  stage = stage;
  framing = record { after = 0 };
  line = [];
  cr = true;
  head = head_of 200 1 NoType Absent None;
  part = part_of 0 Absent;
  tag = codes "\"k\"";
  boundary = [];
}

-- in the body of a 200 of four bytes
abbrev pub at_start : Stage → Parser
at_start stage = reader_at stage 3 (head_of 200 2 NoType Absent (Some 4)) (part_of 0 Absent) (codes "\"k\"") []

-- at the last counted byte of a multipart of 100
abbrev pub at_last : Stage → Parser
at_last stage = reader_at stage 0 (head_of 206 3 Multipart Absent (Some 100)) (part_of 1 (Of 1 2 4)) (codes "\"k\"") (codes "B")

-- a byte that is refused changes nothing of the reader but where it stands (docs/DECISIONS.md, 34)
unfoldable pub untaken : List (Entry Parser)
untaken =
    (feed_call (copy_holding 4 []) (at_empty_line Fields) (dots 4) (codes "\n")).reader is at_empty_line (By 11)
    ∷ (feed_call (copy_holding 4 (run 0 0 ∷ [])) (at_start (Plain 0)) (dots 4) (codes "x")).reader is at_start (By 17)
    ∷ (feed_call (copy_holding 4 []) (at_last PartBegin) (dots 4) (codes "\n")).reader is at_last (By 15)
    ∷ []

-- opening: "19, buffer never changed", which leaves a fresh copy of the tag `""` and no bytes
unfoldable pub openings : List (Entry State)
openings =
    opened (codes "\"k\"") 4 4 is copy_holding 4 []
    ∷ opened (codes "\"k\"") 4 5 is record { tag = codes "\"\""; length = 0; runs = [] }
    ∷ opened (codes "W/\"k\"") 4 4 is record { tag = codes "\"\""; length = 0; runs = [] }
    ∷ []

-- the request's refusals, "19, 18, 20", and its bytes
unfoldable pub refusals : List (Entry (Option ℕ))
refusals =
    request_refusal (copy_holding 4 []) 33 is None
    ∷ request_refusal (copy_holding 4 []) 32 is Some 20
    ∷ request_refusal (copy_holding 4 (run 0 3 ∷ [])) 0 is Some 18
    ∷ request_refusal (copy_holding 4 (run 0 4 ∷ [])) 0 is Some 19
    ∷ request_refusal (copy_holding 0 []) 100 is Some 18
    ∷ []

unfoldable pub requests : List (Entry (List ℕ))
requests =
    request_call (copy_holding 4 []) (dots 34) is codes "Range: bytes=0-3\r\nIf-Range: \"k\"\r\n."
    ∷ request_call (copy_holding 9 (run 2 5 ∷ [])) (dots 37) is codes "Range: bytes=0-1,6-8\r\nIf-Range: \"k\"\r\n"
    ∷ request_call (copy_holding 4 []) (dots 32) is dots 32
    ∷ []

-- "complete exactly when no position of the file is missing"; "With n = 0 it is complete at once"
unfoldable pub completions : List (Entry (Option Bool))
completions =
    complete_call (copy_holding 4 (run 0 3 ∷ [])) is Some true
    ∷ complete_call (copy_holding 4 (run 0 2 ∷ [])) is Some false
    ∷ complete_call (copy_holding 4 (run 1 3 ∷ [])) is Some false
    ∷ complete_call (copy_holding 4 (run 0 1 ∷ run 3 3 ∷ [])) is Some false
    ∷ complete_call (copy_holding 0 []) is Some true
    ∷ complete_call (copy_holding 4 (run 0 4 ∷ [])) is None
    ∷ []

pub record ReadingsAre : Type 0 where
  pub openings : Agree openings
  pub refusals : Agree refusals
  pub requests : Agree requests
  pub completions : Agree completions
  pub heads : Agree heads
  pub bodies : Agree bodies
  pub lasts : Agree lasts
  pub untaken : Agree untaken
