-- Document 01's examples marked P, as one table of literals under one claim about the definitions: a row has the reason that is decided, and all else is read
-- from the answer itself.
use Rattle.std.specs.Prelude.{ℕ, suc, ◌≡◌, cond, List, [], ◌∷◌, map, eqb, replicate, pos}
use Prim.Native.String.{String}
use Rattle.std.specs.Prelude.{Some, None}
use Rattle.rules_server.specs.Octets.{codes}
use Rattle.rules_server.specs.Status.{Request, Resource, decide}
use Rattle.rules_server.specs.Answers.{Cell, own, from, Answer, answer}
use Rattle.rules_server.specs.declared.Run.{Run}
use Rattle.rules_server.specs.declared.Reason.{Reason}
use Rattle.rules_server.specs.declared.Reason.TheVariants.{Malformed, Invalid, Unsatisfiable, Empty, Partial}

-- a GET's Range for a file of `size` bytes, and its answer: the reason, the status line, the field lines, the parts of the file in the body and the bytes
-- around them
pub record Example : Type 0 where
  pub size : ℕ
  pub range : List ℕ
  pub reason : Reason
  pub status : List ℕ
  pub fields : List (List ℕ)
  pub parts : List Run
  pub framing : List ℕ

abbrev pub to : ℕ → ℕ → Run
to a b = record { first = a; last = b }

-- position p join_before runs of positions, the first of which it may touch
abbrev pub join_before : ℕ → List Run → List Run
join_before p [] = to p p ∷ []
join_before p (r ∷ rs) = cond (eqb r.first (suc p)) (to p r.last ∷ rs) (to p p ∷ r ∷ rs)

-- the positions of a body, in its order, as runs
abbrev pub sent_runs : List Cell → List Run
sent_runs [] = []
sent_runs (own b ∷ cs) = sent_runs cs
sent_runs (from p b ∷ cs) = join_before p (sent_runs cs)

-- the bytes of a body that are not the file's
abbrev pub own_bytes : List Cell → List ℕ
own_bytes [] = []
own_bytes (own b ∷ cs) = b ∷ own_bytes cs
own_bytes (from p b ∷ cs) = own_bytes cs

abbrev pub row_of : ℕ → List ℕ → Reason → Answer → Example
row_of n v reason a = record {
  size = n;
  range = v;
  reason = reason;
  status = a.status;
  fields = a.fields;
  parts = sent_runs a.body;
  framing = own_bytes a.body;
}

-- a GET of this Range, without If-Range
abbrev pub ranged : List ℕ → Request
ranged v = record { method = codes "GET"; range = Some v; if_range = None }

-- a file of n bytes without a tag or type; the boundary is `B`
abbrev pub zeros : ℕ → Resource
zeros n = record { file = replicate n 0; tag = []; media = []; boundary = codes "B"; modified = None; reference = pos 0 }

-- what the definitions give
unfoldable pub given : ℕ → List ℕ → Example
given n v = row_of n v (decide (ranged v) (zeros n)) (answer (ranged v) (zeros n))

-- a plain 206
abbrev pub plain : ℕ → String → Run → String → String → Example
plain n v r line size = record {
  size = n;
  range = codes v;
  reason = Partial;
  status = codes "HTTP/1.1 206 Partial Content";
  fields = codes line ∷ codes size ∷ [];
  parts = r ∷ [];
  framing = [];
}

-- a multipart
abbrev pub multipart : ℕ → String → List Run → String → String → Example
multipart n v rs size framing = record {
  size = n;
  range = codes v;
  reason = Partial;
  status = codes "HTTP/1.1 206 Partial Content";
  fields = codes "Content-Type: multipart/byteranges; boundary=B" ∷ codes size ∷ [];
  parts = rs;
  framing = codes framing;
}

abbrev pub unsatisfied : ℕ → String → Reason → String → Example
unsatisfied n v reason line = record {
  size = n;
  range = codes v;
  reason = reason;
  status = codes "HTTP/1.1 416 Range Not Satisfiable";
  fields = codes line ∷ codes "Content-Length: 0" ∷ [];
  parts = [];
  framing = [];
}

-- the whole file
abbrev pub entire : ℕ → String → Reason → List Run → String → Example
entire n v reason rs size = record {
  size = n;
  range = codes v;
  reason = reason;
  status = codes "HTTP/1.1 200 OK";
  fields = codes size ∷ [];
  parts = rs;
  framing = [];
}

-- "Both sides of the edge", the lines marked P
unfoldable pub examples : List Example
examples =
    plain 10000 "bytes=0-499" (to 0 499) "Content-Range: bytes 0-499/10000" "Content-Length: 500"
    ∷ plain 10000 "bytes=-500" (to 9500 9999) "Content-Range: bytes 9500-9999/10000" "Content-Length: 500"
    ∷ multipart 10000 "bytes=0-0,-1" (to 0 0 ∷ to 9999 9999 ∷ []) "Content-Length: 97"
    "--B\r\nContent-Range: bytes 0-0/10000\r\n\r\n\r\n--B\r\nContent-Range: bytes 9999-9999/10000\r\n\r\n\r\n--B--\r\n"
    ∷ plain 10000 "bytes=500-700,601-999" (to 500 999) "Content-Range: bytes 500-999/10000" "Content-Length: 500"
    ∷ plain 10000 "bytes=9999-" (to 9999 9999) "Content-Range: bytes 9999-9999/10000" "Content-Length: 1"
    ∷ unsatisfied 10000 "bytes=10000-" Unsatisfiable "Content-Range: bytes */10000"
    ∷ multipart 10000 "bytes=20-29,0-4,30-39" (to 20 39 ∷ to 0 4 ∷ []) "Content-Length: 116"
    "--B\r\nContent-Range: bytes 20-39/10000\r\n\r\n\r\n--B\r\nContent-Range: bytes 0-4/10000\r\n\r\n\r\n--B--\r\n"
    ∷ unsatisfied 10000 "bytes=-0" Unsatisfiable "Content-Range: bytes */10000"
    ∷ plain 10000 "BYTES=,5-5" (to 5 5) "Content-Range: bytes 5-5/10000" "Content-Length: 1"
    ∷ entire 10000 "bytes= 0-0" Malformed (to 0 9999 ∷ []) "Content-Length: 10000"
    ∷ entire 0 "bytes=-5" Empty [] "Content-Length: 0"
    ∷ unsatisfied 0 "bytes=0-" Unsatisfiable "Content-Range: bytes */0"
    ∷ unsatisfied 10000 "bytes=0-0,18446744073709551617-18446744073709551616" Invalid "Content-Range: bytes */10000"
    ∷ []

-- every row is what the definitions give
abbrev pub ExamplesHold : Type 0
ExamplesHold = map (λ (e : Example). given e.size e.range) examples ≡ examples
