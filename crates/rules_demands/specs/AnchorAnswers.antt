-- What the server end says and writes, of examples that tempt one to another rule: whole outputs as literal texts, and outcomes at both sides of each rule.
use Rattle.std.specs.Prelude.{ℕ, Bool, true, false, List, [], ◌∷◌, ◌++◌, replicate, ℤ, pos, negsuc}
use Prim.Native.String.{String}
use Rattle.std.specs.Prelude.{Option, None, Some, Result, Err}
use Rattle.rules_server.specs.Octets.{codes}
use Rattle.rules_server.specs.Status.{Request, LastModified, Resource, optional_time, decide}
use Rattle.rules_server.specs.Refusals.{outcome, written_as, output}
use Rattle.rules_server.specs.declared.Reason.{Reason}
use Rattle.rules_server.specs.declared.Reason.TheVariants.{Head, None as NoRange, Long, Unit as OtherUnit, Malformed, Many, ChangedFile, Invalid}
use Rattle.rules_server.specs.declared.Reason.TheVariants.{Unsatisfiable, Empty}
use Rattle.rules_server.specs.declared.Reason.TheVariants.{Partial}
use Rattle.rules_server.specs.declared.Answered.{Answered}
use Rattle.rules_demands.specs.AnchorTables.{Entry, ◌is◌, Agree}
use Rattle.rules_demands.specs.AnchorLimits.{members}
use Rattle.rules_demands.specs.AnchorSamples.{dots}

abbrev pub asks : String → Option (List ℕ) → Option (List ℕ) → Request
asks method range if_range = record { method = codes method; range = range; if_range = if_range }

-- a GET of a Range
abbrev pub gets : String → Request
gets v = asks "GET" (Some (codes v)) None

-- ten bytes under the tag `"k1"`, as in document 01's whole example
abbrev pub digits : Resource
digits = record { file = codes "0123456789"; tag = codes "\"k1\""; media = codes "text/plain"; boundary = codes "B"; modified = None; reference = pos 0 }

-- the same under the weak tag `W/"k1"`
abbrev pub weak_digits : Resource
weak_digits = record { file = codes "0123456789"; tag = codes "W/\"k1\""; media = codes "text/plain"; boundary = codes "B"; modified = None; reference = pos 0 }

-- the same digits of the second that RFC 7231's example of a date names
abbrev pub dated : Bool → Resource
dated strong = record {
  file = codes "0123456789";
  tag = codes "\"k1\"";
  media = codes "text/plain";
  boundary = codes "B";
  modified = Some (record { time = pos 784111777; strong = strong });
  reference = pos 784111777;
}

-- under a weak tag, with a strong date
abbrev pub weak_dated : Resource
weak_dated = record {
  file = codes "0123456789";
  tag = codes "W/\"k1\"";
  media = [];
  boundary = codes "B";
  modified = Some (record { time = pos 784111777; strong = true });
  reference = pos 784111777;
}

-- with this Last-Modified and this reference time, without a tag or type; its data holds the delimiter
abbrev pub timed : Option LastModified → ℤ → Resource
timed modified reference = record { file = codes "--B3--B789"; tag = []; media = []; boundary = codes "B"; modified = modified; reference = reference }

-- without a tag or type
abbrev pub bare : String → Resource
bare file = record { file = codes file; tag = []; media = []; boundary = codes "B"; modified = None; reference = pos 0 }

-- "The bytes of an answer": 206 of several parts and of one, 200, HEAD ("HEAD's length is n"), 416; each in a buffer with one byte more, which stays
unfoldable pub written : List (Entry (List ℕ))
written =
    output (gets "bytes=0-0,-1") digits (dots 251)
    is (codes "HTTP/1.1 206 Partial Content\r\nETag: \"k1\"\r\nContent-Type: multipart/byteranges; boundary=B\r\n"
    ++ (codes "Content-Length: 137\r\n\r\n--B\r\nContent-Type: text/plain\r\nContent-Range: bytes 0-0/10\r\n\r\n0\r\n--B\r\n"
    ++ codes "Content-Type: text/plain\r\nContent-Range: bytes 9-9/10\r\n\r\n9\r\n--B--\r\n."))
    ∷ output (gets "bytes=2-4") digits (dots 122)
    is (codes "HTTP/1.1 206 Partial Content\r\nETag: \"k1\"\r\nContent-Type: text/plain\r\nContent-Range: bytes 2-4/10\r\n"
    ++ codes "Content-Length: 3\r\n\r\n234.")
    ∷ output (gets "bytes=2-4") weak_digits (dots 124)
    is (codes "HTTP/1.1 206 Partial Content\r\nETag: W/\"k1\"\r\nContent-Type: text/plain\r\nContent-Range: bytes 2-4/10\r\n"
    ++ codes "Content-Length: 3\r\n\r\n234.")
    -- "200 and 206 answers carry Last-Modified after ETag when given", strong or not; a 416 does not
    ∷ output (gets "bytes=0-0,-1") (dated false) (dots 297)
    is (codes "HTTP/1.1 206 Partial Content\r\nETag: \"k1\"\r\nLast-Modified: Sun, 06 Nov 1994 08:49:37 GMT\r\n"
    ++ (codes "Content-Type: multipart/byteranges; boundary=B\r\n"
    ++ (codes "Content-Length: 137\r\n\r\n--B\r\nContent-Type: text/plain\r\nContent-Range: bytes 0-0/10\r\n\r\n0\r\n--B\r\n"
    ++ codes "Content-Type: text/plain\r\nContent-Range: bytes 9-9/10\r\n\r\n9\r\n--B--\r\n.")))
    ∷ output (gets "bytes=2-4") (dated true) (dots 168)
    is (codes "HTTP/1.1 206 Partial Content\r\nETag: \"k1\"\r\nLast-Modified: Sun, 06 Nov 1994 08:49:37 GMT\r\nContent-Type: text/plain\r\n"
    ++ codes "Content-Range: bytes 2-4/10\r\nContent-Length: 3\r\n\r\n234.")
    ∷ output (asks "GET" None None) (dated true) (dots 134)
    is (codes "HTTP/1.1 200 OK\r\nETag: \"k1\"\r\nLast-Modified: Sun, 06 Nov 1994 08:49:37 GMT\r\nContent-Type: text/plain\r\n"
    ++ codes "Content-Length: 10\r\n\r\n0123456789.")
    ∷ output (asks "HEAD" None None) (dated false) (dots 124)
    is (codes "HTTP/1.1 200 OK\r\nETag: \"k1\"\r\nLast-Modified: Sun, 06 Nov 1994 08:49:37 GMT\r\nContent-Type: text/plain\r\n"
    ++ codes "Content-Length: 10\r\n\r\n.")
    ∷ output (asks "HEAD" None None) (timed (Some (record { time = pos 0; strong = false })) (pos 0)) (dots 86)
    is codes "HTTP/1.1 200 OK\r\nLast-Modified: Thu, 01 Jan 1970 00:00:00 GMT\r\nContent-Length: 10\r\n\r\n."
    ∷ output (gets "bytes=10-") (dated true) (dots 85)
    is codes "HTTP/1.1 416 Range Not Satisfiable\r\nContent-Range: bytes */10\r\nContent-Length: 0\r\n\r\n."
    ∷ output (asks "GET" None None) digits (dots 88)
    is codes "HTTP/1.1 200 OK\r\nETag: \"k1\"\r\nContent-Type: text/plain\r\nContent-Length: 10\r\n\r\n0123456789."
    ∷ output (asks "HEAD" (Some (codes "bytes=0-0")) None) digits (dots 78)
    is codes "HTTP/1.1 200 OK\r\nETag: \"k1\"\r\nContent-Type: text/plain\r\nContent-Length: 10\r\n\r\n."
    ∷ output (gets "bytes=10-") digits (dots 85)
    is codes "HTTP/1.1 416 Range Not Satisfiable\r\nContent-Range: bytes */10\r\nContent-Length: 0\r\n\r\n."
    ∷ output (gets "bytes=3-4") (bare "0123456789") (dots 83)
    is codes "HTTP/1.1 206 Partial Content\r\nContent-Range: bytes 3-4/10\r\nContent-Length: 2\r\n\r\n34."
    ∷ output (asks "HEAD" None None) (bare "") (dots 39)
    is codes "HTTP/1.1 200 OK\r\nContent-Length: 0\r\n\r\n."
    ∷ output (gets "bytes=-5") (bare "") (dots 39)
    is codes "HTTP/1.1 200 OK\r\nContent-Length: 0\r\n\r\n."
    ∷ []

-- the reason for a GET of one byte with this If-Range, of a file under this tag
abbrev pub matched : String → String → Reason
matched tag v = decide (asks "GET" (Some (codes "bytes=0-0")) (Some (codes v)))
    (record { file = codes "0123456789"; tag = codes tag; media = []; boundary = codes "B"; modified = None; reference = pos 0 })

-- what the caller says of Last-Modified: `strong` counts where it is given
unfoldable pub given : List (Entry (Option LastModified))
given =
    optional_time true (pos 7) true is Some (record { time = pos 7; strong = true })
    ∷ optional_time true (negsuc 7) false is Some (record { time = negsuc 7; strong = false })
    ∷ optional_time false (pos 7) true is None
    ∷ []

-- the reason for a GET of one byte with this If-Range
abbrev pub reason_for : Resource → String → Reason
reason_for f v = decide (asks "GET" (Some (codes "bytes=0-0")) (Some (codes v))) f

-- "A strong date that names exactly the same second matches; earlier or later does not; an invalid date (wrong day name, second 60) does not"
unfoldable pub matching_dates : List (Entry Reason)
matching_dates =
    reason_for (dated true) "Sun, 06 Nov 1994 08:49:37 GMT" is Partial
    ∷ reason_for (dated true) "Sunday, 06-Nov-94 08:49:37 GMT" is Partial
    ∷ reason_for (dated true) "Sun Nov  6 08:49:37 1994" is Partial
    ∷ reason_for (dated true) " \tSun, 06 Nov 1994 08:49:37 GMT\t " is Partial
    ∷ reason_for (dated true) "\"k1\"" is Partial
    ∷ reason_for (dated true) "Sun, 06 Nov 1994 08:49:38 GMT" is ChangedFile
    ∷ reason_for (dated true) "Sun, 06 Nov 1994 08:49:36 GMT" is ChangedFile
    ∷ reason_for (dated true) "Mon, 06 Nov 1994 08:49:37 GMT" is ChangedFile
    ∷ reason_for (dated true) "Sun, 06 Nov 1994 08:48:97 GMT" is ChangedFile
    ∷ reason_for (dated true) "\"Sun, 06 Nov 1994 08:49:37 GMT\"" is ChangedFile
    ∷ reason_for (dated true) "" is ChangedFile
    ∷ reason_for (dated false) "Sun, 06 Nov 1994 08:49:37 GMT" is ChangedFile
    ∷ reason_for (dated false) "Sunday, 06-Nov-94 08:49:37 GMT" is ChangedFile
    ∷ reason_for (dated false) "\"k1\"" is Partial
    ∷ reason_for digits "Sun, 06 Nov 1994 08:49:37 GMT" is ChangedFile
    ∷ reason_for (timed None (pos 784111777)) "Sun, 06 Nov 1994 08:49:37 GMT" is ChangedFile
    ∷ reason_for (timed (Some (record { time = pos 784111777; strong = true })) (pos 0)) "Sun, 06 Nov 1994 08:49:37 GMT" is Partial
    -- two digits by the reference time, not by Last-Modified
    ∷ reason_for (timed (Some (record { time = pos 784111777; strong = true })) (pos 0)) "Sunday, 06-Nov-94 08:49:37 GMT" is Partial
    ∷ reason_for (timed (Some (record { time = pos 784111777; strong = true })) (pos 2538909030)) "Sunday, 06-Nov-94 08:49:37 GMT" is ChangedFile
    -- a file under a weak tag
    ∷ reason_for weak_dated "Sun, 06 Nov 1994 08:49:37 GMT" is Partial
    ∷ reason_for weak_dated "W/\"k1\"" is ChangedFile
    ∷ reason_for (timed (Some (record { time = pos 0; strong = true })) (pos 0)) "Thu, 01 Jan 1970 00:00:00 GMT" is Partial
    ∷ reason_for (timed (Some (record { time = pos 0; strong = true })) (pos 0)) "Wed, 31 Dec 1969 23:59:59 GMT" is ChangedFile
    ∷ []

-- If-Range "matches exactly when it is a strong tag equal byte for byte to the file's strong tag. A weak tag, a bad tag or a file without a tag: no match"; a
-- date matches no tag
unfoldable pub matching : List (Entry Reason)
matching =
    matched "\"a\"" "\"a\"" is Partial
    ∷ matched "\"a\"" " \"a\"\t" is Partial
    ∷ matched "\"\"" "\"\"" is Partial
    ∷ matched "W/\"a\"" "W/\"a\"" is ChangedFile
    ∷ matched "\"a\"" "W/\"a\"" is ChangedFile
    ∷ matched "W/\"a\"" "\"a\"" is ChangedFile
    ∷ matched "\"a\"" "\"A\"" is ChangedFile
    ∷ matched "\"a\"" "\"ab\"" is ChangedFile
    ∷ matched "\"a\"" "a" is ChangedFile
    ∷ matched "\"a\"" "\"a\", \"b\"" is ChangedFile
    ∷ matched "\"a\"" "Tue, 15 Nov 1994 12:45:26 GMT" is ChangedFile
    ∷ matched "\"a\"" "" is ChangedFile
    ∷ matched "" "Tue, 15 Nov 1994 12:45:26 GMT" is ChangedFile
    ∷ matched "" "" is ChangedFile
    ∷ matched "" "\"a\"" is ChangedFile
    ∷ []

-- "The first line that applies decides": what decides where a later line applies too
unfoldable pub decided : List (Entry Reason)
decided =
    decide (asks "HEAD" None None) (bare "0123456789") is Head
    ∷ decide (asks "HEAD" (Some (codes "bytes=5-4")) (Some (codes "\"x\""))) (bare "") is Head
    ∷ decide (asks "GET" None (Some (codes "\"x\""))) (bare "0123456789") is NoRange
    ∷ decide (asks "GET" (Some (replicate 4097 120)) None) (bare "0123456789") is Long
    ∷ decide (asks "GET" (Some (codes "")) None) (bare "0123456789") is OtherUnit
    ∷ decide (asks "GET" (Some (codes "bits=0-0")) (Some (codes "\"x\""))) (bare "0123456789") is OtherUnit
    ∷ decide (asks "GET" (Some (codes "bytes=")) None) (bare "0123456789") is Malformed
    ∷ decide (asks "GET" (Some (codes "bytes=x" ++ members 65)) (Some (codes "\"x\""))) (bare "0123456789") is Malformed
    ∷ decide (asks "GET" (Some (codes "bytes=5-4" ++ members 64)) (Some (codes "\"x\""))) (bare "0123456789") is Many
    ∷ decide (asks "GET" (Some (codes "bytes=5-4")) (Some (codes "\"x\""))) (bare "0123456789") is ChangedFile
    ∷ decide (asks "GET" (Some (codes "bytes=10-,5-4")) None) (bare "0123456789") is Invalid
    ∷ decide (asks "GET" (Some (codes "bytes=0-0,5-4")) None) (bare "0123456789") is Invalid
    ∷ decide (asks "GET" (Some (codes "bytes=10-10")) None) (bare "0123456789") is Unsatisfiable
    ∷ decide (asks "GET" (Some (codes "bytes=0-")) None) (bare "") is Unsatisfiable
    ∷ decide (asks "GET" (Some (codes "bytes=-0")) None) (bare "") is Unsatisfiable
    ∷ decide (asks "GET" (Some (codes "bytes=-1")) None) (bare "") is Empty
    ∷ decide (asks "GET" (Some (codes "bytes=9-")) None) (bare "0123456789") is Partial
    ∷ decide (asks "GET" (Some (codes "bytes=0-0,-0,10-")) None) (bare "0123456789") is Partial
    ∷ []

-- refusal 9: "A given or reference time outside 1970 to 9999", for every request
unfoldable pub times : List (Entry (Result Answered ℕ))
times =
    outcome (asks "HEAD" None None) (timed None (pos 0)) 39 is written_as Head 200 39
    ∷ outcome (asks "HEAD" None None) (timed None (pos 253402300799)) 39 is written_as Head 200 39
    ∷ outcome (asks "HEAD" None None) (timed None (pos 253402300800)) 39 is Err 9
    ∷ outcome (asks "HEAD" None None) (timed None (negsuc 0)) 39 is Err 9
    ∷ outcome (asks "GET" None None) (timed None (negsuc 0)) 1000 is Err 9
    ∷ outcome (gets "bytes=99-") (timed None (negsuc 0)) 1000 is Err 9
    ∷ outcome (asks "HEAD" None None) (timed (Some (record { time = pos 253402300799; strong = false })) (pos 0)) 85 is written_as Head 200 85
    ∷ outcome (asks "HEAD" None None) (timed (Some (record { time = pos 253402300800; strong = false })) (pos 0)) 85 is Err 9
    ∷ outcome (asks "HEAD" None None) (timed (Some (record { time = negsuc 0; strong = true })) (pos 0)) 85 is Err 9
    ∷ outcome (asks "HEAD" None None) (timed (Some (record { time = pos 0; strong = true })) (negsuc 0)) 85 is Err 9
    ∷ outcome (asks "HEAD" None None) (timed (Some (record { time = pos 0; strong = true })) (pos 253402300800)) 85 is Err 9
    ∷ outcome (gets "bytes=0-2,9-9") (timed (Some (record { time = negsuc 0; strong = true })) (pos 0)) 0 is Err 9
    ∷ []

-- refusal 7: "answer longer than the output buffer"; an answer as long as it is written
unfoldable pub rooms : List (Entry (Result Answered ℕ))
rooms =
    outcome (gets "bytes=0-0,-1") digits 250 is written_as Partial 206 250
    ∷ outcome (gets "bytes=0-0,-1") digits 249 is Err 7
    ∷ outcome (gets "bytes=2-4") digits 121 is written_as Partial 206 121
    ∷ outcome (gets "bytes=2-4") digits 120 is Err 7
    ∷ outcome (asks "GET" None None) digits 87 is written_as NoRange 200 87
    ∷ outcome (asks "GET" None None) digits 86 is Err 7
    ∷ outcome (asks "HEAD" None None) digits 77 is written_as Head 200 77
    ∷ outcome (asks "HEAD" None None) digits 76 is Err 7
    ∷ outcome (gets "bytes=-0") digits 84 is written_as Unsatisfiable 416 84
    ∷ outcome (gets "bytes=-0") digits 83 is Err 7
    ∷ []

-- refusal 6: "multipart, and CR LF `--` boundary occurs in CR LF followed by some part's data"
unfoldable pub delimiters : List (Entry (Result Answered ℕ))
delimiters =
    outcome (gets "bytes=0-6,9-9") (bare "01\r\n--B789") 1000 is Err 6
    ∷ outcome (gets "bytes=9-9,2-6") (bare "01\r\n--B789") 1000 is Err 6
    ∷ outcome (gets "bytes=9-9,0-0,2-6") (bare "01\r\n--B789") 1000 is Err 6
    ∷ outcome (gets "bytes=9-9,2-5") (bare "01\r\n--B789") 1000 is written_as Partial 206 188
    ∷ outcome (gets "bytes=9-9,3-6") (bare "01\r\n--B789") 1000 is written_as Partial 206 188
    ∷ outcome (gets "bytes=2-6") (bare "01\r\n--B789") 1000 is written_as Partial 206 85
    ∷ outcome (gets "bytes=0-2,9-9") (bare "--B3--B789") 1000 is Err 6
    ∷ outcome (gets "bytes=9-9,4-6") (bare "--B3--B789") 1000 is Err 6
    ∷ outcome (gets "bytes=9-9,3-6") (bare "--B3--B789") 1000 is written_as Partial 206 188
    ∷ outcome (gets "bytes=0-1,9-9") (bare "--B3--B789") 1000 is written_as Partial 206 186
    ∷ outcome (gets "bytes=0-2") (bare "--B3--B789") 1000 is written_as Partial 206 83
    ∷ outcome (asks "GET" None None) (bare "--B3--B789") 1000 is written_as NoRange 200 49
    -- behind the front of a part's data, with data behind it
    ∷ outcome (gets "bytes=0-7,9-9") (bare "01\r\n--B789") 1000 is Err 6
    -- the answer is no multipart: HEAD, CHANGED FILE and INVALID, where the same parts would hold it
    ∷ outcome (asks "HEAD" (Some (codes "bytes=0-6,9-9")) None) (bare "01\r\n--B789") 1000 is written_as Head 200 39
    ∷ outcome (asks "GET" (Some (codes "bytes=0-6,9-9")) (Some (codes "\"x\""))) (bare "01\r\n--B789") 1000 is written_as ChangedFile 200 49
    ∷ outcome (gets "bytes=0-6,9-9,5-4") (bare "01\r\n--B789") 1000 is written_as Invalid 416 84
    ∷ []

-- a file with a reference time before 1970, which refusals 6 and 7 would stop too
abbrev pub early : String → String → String → Resource
early tag media boundary =
    record { file = codes "--B3--B789"; tag = codes tag; media = codes media; boundary = codes boundary; modified = None; reference = negsuc 0 }

-- "Server order is 1 to 7", with 9 "between 5 and 6"
unfoldable pub ordered : List (Entry (Result Answered ℕ))
ordered =
    outcome (asks "PUT" None None) (early "x" "x " "B!") 0 is Err 1
    ∷ outcome (asks "GET" None None) (early "x" "x " "B!") 0 is Err 3
    ∷ outcome (asks "GET" None None) (early "" "x " "B!") 0 is Err 4
    ∷ outcome (asks "GET" None None) (early "" "x" "B!") 0 is Err 5
    ∷ outcome (gets "bytes=0-2,9-9") (early "" "x" "B") 0 is Err 9
    ∷ outcome (gets "bytes=0-2,9-9") (bare "--B3--B789") 0 is Err 6
    ∷ outcome (gets "bytes=0-1,9-9") (bare "--B3--B789") 0 is Err 7
    ∷ []

pub record AnswersAre : Type 0 where
  pub written : Agree written
  pub matching : Agree matching
  pub given : Agree given
  pub matching_dates : Agree matching_dates
  pub times : Agree times
  pub decided : Agree decided
  pub rooms : Agree rooms
  pub delimiters : Agree delimiters
  pub ordered : Agree ordered
