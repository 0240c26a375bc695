-- Examples beside those of document 01, at the edges of its rules: each row has a request, a resource and an output buffer's room, and what is said and
-- written, in literals. One claim for all. The reader's edges, as 14 and not 13 where a number is too large beside a foreign length, are rows of
-- AnchorReadings: a row here has a request and no answer.
use Rattle.std.specs.Prelude.{ℕ, ◌≡◌, List, [], ◌∷◌, ◌++◌, map, replicate, pos}
use Prim.Native.String.{String}
use Rattle.std.specs.Prelude.{None, Some, Result, Err}
use Rattle.rules_server.specs.Octets.{codes}
use Rattle.rules_server.specs.Status.{Request, Resource}
use Rattle.rules_server.specs.Refusals.{outcome, written_as, output}
use Rattle.rules_server.specs.declared.Reason.{Reason}
use Rattle.rules_server.specs.declared.Reason.TheVariants.{Head, ChangedFile, Partial}
use Rattle.rules_server.specs.declared.Answered.{Answered}
use Rattle.rules_demands.specs.FirstRows.{NoneHolds}
use Rattle.rules_demands.specs.Demand1Server.{refusal_table, refuses, FirstRefusal}
use Rattle.rules_demands.specs.Demand2Server.{status_table, FirstReason}

-- a request of a resource, an output buffer of `room` zeros, what is said, and what the buffer then holds
pub record Edge : Type 0 where
  pub asked : Request
  pub held : Resource
  pub room : ℕ
  pub says : Result Answered ℕ
  pub holds : List ℕ

-- what the definitions give
unfoldable pub edge_of : Request → Resource → ℕ → Edge
edge_of q f room = record { asked = q; held = f; room = room; says = outcome q f room; holds = output q f (replicate room 0) }

-- a method without Range
abbrev pub plain : String → Request
plain m = record { method = codes m; range = None; if_range = None }

-- a GET of this Range, without If-Range and with this one
abbrev pub ranged : String → Request
ranged v = record { method = codes "GET"; range = Some (codes v); if_range = None }

abbrev pub conditional : String → String → Request
conditional v t = record { method = codes "GET"; range = Some (codes v); if_range = Some (codes t) }

abbrev pub head_of : String → Request
head_of v = record { method = codes "HEAD"; range = Some (codes v); if_range = None }

-- a file, its tag, its type and the boundary
abbrev pub resource_of : String → String → String → String → Resource
resource_of file tag media boundary =
    record { file = codes file; tag = codes tag; media = codes media; boundary = codes boundary; modified = None; reference = pos 0 }

-- without a type, under the boundary `B`
abbrev pub resource : String → String → Resource
resource file tag = resource_of file tag "" "B"

-- the bytes of some texts, one behind the other
abbrev pub texts : List String → List ℕ
texts [] = []
texts (s ∷ ss) = codes s ++ texts ss

-- an answer that fills the buffer
abbrev pub answered : Request → Resource → ℕ → Reason → ℕ → List String → Edge
answered q f room x status ss = record { asked = q; held = f; room = room; says = written_as x status room; holds = texts ss }

-- a refusal, which leaves the buffer as it was
abbrev pub refused : Request → Resource → ℕ → ℕ → Edge
refused q f room k = record { asked = q; held = f; room = room; says = Err k; holds = replicate room 0 }

unfoldable pub edges : List Edge
edges =
    -- If-Range "matches exactly when it is a strong tag equal byte for byte to the file's strong tag": this one does
    answered (conditional "bytes=1-2" " \"a\"\t") (resource "0123" "\"a\"") 92 Partial 206
    ("HTTP/1.1 206 Partial Content\r\nETag: \"a\"\r\nContent-Range: bytes 1-2/4\r\nContent-Length: 2\r\n\r\n" ∷ "12" ∷ [])
    -- a weak tag does not match itself
    ∷ answered (conditional "bytes=1-2" "W/\"a\"") (resource "0123" "W/\"a\"") 55 ChangedFile 200
    ("HTTP/1.1 200 OK\r\nETag: W/\"a\"\r\nContent-Length: 4\r\n\r\n" ∷ "0123" ∷ [])
    -- nor the strong tag of its bytes, nor the other way round
    ∷ answered (conditional "bytes=1-2" "W/\"a\"") (resource "0123" "\"a\"") 53 ChangedFile 200
    ("HTTP/1.1 200 OK\r\nETag: \"a\"\r\nContent-Length: 4\r\n\r\n" ∷ "0123" ∷ [])
    ∷ answered (conditional "bytes=1-2" "\"a\"") (resource "0123" "W/\"a\"") 55 ChangedFile 200
    ("HTTP/1.1 200 OK\r\nETag: W/\"a\"\r\nContent-Length: 4\r\n\r\n" ∷ "0123" ∷ [])
    -- a tag in another case
    ∷ answered (conditional "bytes=1-2" "\"A\"") (resource "0123" "\"a\"") 53 ChangedFile 200
    ("HTTP/1.1 200 OK\r\nETag: \"a\"\r\nContent-Length: 4\r\n\r\n" ∷ "0123" ∷ [])
    -- a date, for a file with a tag and for one without
    ∷ answered (conditional "bytes=1-2" "Sat, 29 Oct 1994 19:43:31 GMT") (resource "0123" "\"a\"") 53 ChangedFile 200
    ("HTTP/1.1 200 OK\r\nETag: \"a\"\r\nContent-Length: 4\r\n\r\n" ∷ "0123" ∷ [])
    ∷ answered (conditional "bytes=1-2" "Sat, 29 Oct 1994 19:43:31 GMT") (resource "0123" "") 42 ChangedFile 200
    ("HTTP/1.1 200 OK\r\nContent-Length: 4\r\n\r\n" ∷ "0123" ∷ [])
    -- an If-Range that is there and empty, for a file without a tag
    ∷ answered (conditional "bytes=1-2" "") (resource "0123" "") 42 ChangedFile 200
    ("HTTP/1.1 200 OK\r\nContent-Length: 4\r\n\r\n" ∷ "0123" ∷ [])
    -- HEAD has the length of the whole file and no body, whatever its Range; one byte less is too little room
    ∷ answered (head_of "bytes=9-") (resource "0123" "") 38 Head 200
    ("HTTP/1.1 200 OK\r\nContent-Length: 4\r\n\r\n" ∷ [])
    ∷ refused (head_of "bytes=9-") (resource "0123" "") 37 7
    -- an answer that just fits, and one byte less
    ∷ answered (ranged "bytes=1-2") (resource "0123" "") 81 Partial 206
    ("HTTP/1.1 206 Partial Content\r\nContent-Range: bytes 1-2/4\r\nContent-Length: 2\r\n\r\n" ∷ "12" ∷ [])
    ∷ refused (ranged "bytes=1-2") (resource "0123" "") 80 7
    -- the delimiter in the second part alone, and in the first alone
    ∷ refused (ranged "bytes=0-1,4-8") (resource "0123\r\n--B" "") 400 6
    ∷ refused (ranged "bytes=0-5,8-8") (resource "\r\n--B5678" "") 400 6
    -- at the front of a part's data, since CR LF stands before them
    ∷ refused (ranged "bytes=0-1,4-6") (resource "0123--B" "") 400 6
    ∷ refused (ranged "bytes=0-2,5-5") (resource "--B345" "") 400 6
    -- refusal 6 before refusal 7
    ∷ refused (ranged "bytes=0-1,4-6") (resource "0123--B" "") 0 6
    -- in no part: between two parts, and beyond the end of a part
    ∷ answered (ranged "bytes=0-1,8-8") (resource "012\r\n--B8" "") 184 Partial 206
    ("HTTP/1.1 206 Partial Content\r\nContent-Type: multipart/byteranges; boundary=B\r\nContent-Length: 84\r\n\r\n"
    ∷ "--B\r\nContent-Range: bytes 0-1/9\r\n\r\n01\r\n" ∷ "--B\r\nContent-Range: bytes 8-8/9\r\n\r\n8\r\n" ∷ "--B--\r\n" ∷ [])
    ∷ answered (ranged "bytes=0-0,3-6") (resource "012\r\n--B" "") 186 Partial 206
    ("HTTP/1.1 206 Partial Content\r\nContent-Type: multipart/byteranges; boundary=B\r\nContent-Length: 86\r\n\r\n"
    ∷ "--B\r\nContent-Range: bytes 0-0/8\r\n\r\n0\r\n" ∷ "--B\r\nContent-Range: bytes 3-6/8\r\n\r\n\r\n--\r\n" ∷ "--B--\r\n" ∷ [])
    -- `--` boundary without CR LF before it, behind the front of a part
    ∷ answered (ranged "bytes=0-0,2-6") (resource "012--B6" "") 187 Partial 206
    ("HTTP/1.1 206 Partial Content\r\nContent-Type: multipart/byteranges; boundary=B\r\nContent-Length: 87\r\n\r\n"
    ∷ "--B\r\nContent-Range: bytes 0-0/7\r\n\r\n0\r\n" ∷ "--B\r\nContent-Range: bytes 2-6/7\r\n\r\n2--B6\r\n" ∷ "--B--\r\n" ∷ [])
    -- in the one part of a plain 206
    ∷ answered (ranged "bytes=0-4") (resource "\r\n--B56" "") 84 Partial 206
    ("HTTP/1.1 206 Partial Content\r\nContent-Range: bytes 0-4/7\r\nContent-Length: 5\r\n\r\n" ∷ "\r\n--B" ∷ [])
    -- a method in another case, before all else that is wrong
    ∷ refused (plain "get") (resource_of "0123" "a" "multipart/byteranges" "") 400 1
    -- a tag without its quotes, with a quote inside, with `w/`, with a space
    ∷ refused (plain "GET") (resource_of "0123" "a" "text/plain" "B") 400 3
    ∷ refused (plain "GET") (resource_of "0123" "\"a\"b\"" "text/plain" "B") 400 3
    ∷ refused (plain "GET") (resource_of "0123" "w/\"a\"" "text/plain" "B") 400 3
    ∷ refused (plain "HEAD") (resource_of "0123" "\"a b\"" "multipart/byteranges" "") 400 3
    -- a type with a space at an end, with a tab inside, and that of a multipart
    ∷ refused (plain "GET") (resource_of "0123" "\"a\"" "text/plain " "B") 400 4
    ∷ refused (plain "GET") (resource_of "0123" "\"a\"" "text/\tplain" "B") 400 4
    ∷ refused (plain "GET") (resource_of "0123" "" "Multipart/ByteRanges ; x" "") 400 4
    -- no boundary, and one with a byte that is none of its own, whether or not a multipart is asked for
    ∷ refused (plain "GET") (resource_of "0123" "\"a\"" "" "") 400 5
    ∷ refused (plain "GET") (resource_of "0123" "\"a\"" "" "B.") 400 5
    ∷ []

-- every row is what the definitions give
abbrev pub EdgesHold : Type 0
EdgesHold = map (λ (e : Edge). edge_of e.asked e.held e.room) edges ≡ edges

-- of three of them, the row that decides: refusal 6 where refusal 7 would hold too, a weak tag, and none where the answer just fits
pub record EdgeRows : Type 0 where
  pub delimiter : FirstRefusal (refusal_table (ranged "bytes=0-1,4-6") (resource "0123--B" "") 0) 6
  pub weak : FirstReason (status_table (conditional "bytes=1-2" "W/\"a\"") (resource "0123" "W/\"a\"")) ChangedFile
  pub fitting : NoneHolds refuses (refusal_table (ranged "bytes=1-2") (resource "0123" "") 81)
