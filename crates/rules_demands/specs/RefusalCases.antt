-- Concrete answers, for a copy of 4 bytes under the tag `"k"`: refused ones, at least one for each of 11 to 17, and some that are taken; both sides of each
-- limit.
use Rattle.std.specs.Prelude.{ℕ, List, [], ◌∷◌, ◌++◌, take}
use Rattle.rules_server.specs.Octets.{codes}
use Rattle.rules_server.specs.Texts.{crlf}
use Rattle.rules_server.specs.declared.Run.{Run}
use Rattle.rules_tablet.specs.Limits.{max_runs}
use Rattle.rules_tablet.specs.Runs.{run}
use Rattle.rules_tablet.specs.Feeding.{Held}
use Rattle.rules_demands.specs.RefusalsExactly.{RefusedAt, GoesOn, EndedAt}
use Rattle.rules_demands.specs.AnchorSamples.{letters, repeat, ok, partial}

-- the bytes of an answer, what is held before it, the most runs, the number and the byte of the refusal, and what is held then
pub record Case : Type 0 where
  pub answer : List ℕ
  pub held : Held
  pub most : ℕ
  pub byte : ℕ
  pub number : ℕ
  pub last : Held

-- the copy's tag
abbrev pub tag : List ℕ
tag = codes "\"k\""

-- these runs, and these bytes of the buffer
abbrev pub held_with : List Run → List ℕ → Held
held_with runs bytes = record { runs = runs; bytes = bytes }

-- nothing
abbrev pub blank : Held
blank = held_with [] (codes "....")

-- refused where nothing is held
abbrev pub early : List ℕ → ℕ → ℕ → Case
early answer byte number = record { answer = answer; held = blank; most = max_runs; byte = byte; number = number; last = blank }

-- the head of a multipart of 100 bytes
abbrev pub many : List ℕ
many = partial ++ codes "Content-Type: multipart/byteranges; boundary=B\r\nContent-Length: 100\r\n\r\n"

-- of one of 40 bytes
abbrev pub tight : List ℕ
tight = partial ++ codes "Content-Type: multipart/byteranges; boundary=B\r\nContent-Length: 40\r\n\r\n"

-- of one of 5 bytes
abbrev pub tiny : List ℕ
tiny = partial ++ codes "Content-Type: multipart/byteranges; boundary=B\r\nContent-Length: 5\r\n\r\n"

-- within the head
unfoldable pub head_cases : List Case
head_cases =
    -- "a forbidden byte"; "a byte after CR that is not LF"
    early (codes "HTTP/1.1 200\n") 12 11
    ∷ early (codes "HTTP/1.1 200\r\r") 13 11
    -- "any other fault of one line alone": no status line; no field; a Content-Length that is none; a Transfer-Encoding
    ∷ early (codes "HTTP/1.1 20\r\n") 12 11
    ∷ early (codes "HTTP/1.1 404\r\nETag : \"k\"\r\n") 25 11
    ∷ early (codes "HTTP/1.1 200\r\nContent-Length: x\r\n") 32 11
    ∷ early (codes "HTTP/1.1 200\r\nTransfer-Encoding: x\r\n") 35 11
    -- "a repeated field"
    ∷ early (ok ++ codes "etag: \"k\"\r\n") 38 11
    -- at the empty line: 12, 11, 13, 14, then 15
    ∷ early (codes "HTTP/1.1 404\r\n\r\n") 15 12
    ∷ early (ok ++ codes "\r\n") 29 11
    ∷ early (codes "HTTP/1.1 200\r\nContent-Length: 4\r\n\r\n") 34 13
    ∷ early (ok ++ codes "Content-Length: 5\r\n\r\n") 48 13
    ∷ early (partial ++ codes "Content-Range: bytes 2-1/4\r\nContent-Length: 1\r\n\r\n") 89 14
    ∷ early (partial ++ codes "Content-Range: bytes 2-1/5\r\nContent-Length: 1\r\n\r\n") 89 13
    ∷ early (partial ++ codes "Content-Type: multipart/byteranges; boundary=B\r\nContent-Length: 0\r\n\r\n") 109 15
    ∷ []

-- within a multipart
unfoldable pub part_cases : List Case
part_cases =
    -- "the first byte that cannot fit": another byte, a fifth empty line, a closing mark before any part
    early (many ++ codes "-B") 113 15
    ∷ early (many ++ codes "\r\n\r\n\r\n\r\n\r") 120 15
    ∷ early (many ++ codes "--B-") 115 15
    -- "or .. the last counted byte if the closing mark is not then complete"
    ∷ early (tiny ++ codes "--B\r\n") 114 15
    -- a line of a part: a forbidden byte, no field, a second Content-Range
    ∷ early (many ++ codes "--B\r\na\n") 118 15
    ∷ early (many ++ codes "--B\r\na\r\n") 119 15
    ∷ early (many ++ codes "--B\r\nContent-Range: x\r\nContent-Range: x\r\n") 152 15
    -- a part's empty line: "15 for line counts, 14, 13, 15 for fit"
    ∷ early (many ++ codes "--B\r\nContent-Type: x\r\n\r\n") 135 15
    ∷ early (many ++ codes "--B\r\nContent-Range: bytes 2-1/5\r\n\r\n") 146 14
    ∷ early (many ++ codes "--B\r\nContent-Range: bytes 0-0/5\r\n\r\n") 146 13
    ∷ early (tight ++ codes "--B\r\nContent-Range: bytes 0-0/4\r\n\r\n") 145 15
    ∷ []

-- data
unfoldable pub data_cases : List Case
data_cases =
    -- the second byte differs from the held one; the first is held by then
    record {
      answer = ok ++ codes "Content-Length: 4\r\n\r\nab";
      held = held_with (run 1 1 ∷ []) (codes ".x..");
      most = max_runs;
      byte = 50;
      number = 17;
      last = held_with (run 0 1 ∷ []) (codes "ax..");
    }
    -- the first byte would make two runs, where one is the most
    ∷ record {
      answer = ok ++ codes "Content-Length: 4\r\n\r\nab";
      held = held_with (run 2 3 ∷ []) (codes "..yz");
      most = 1;
      byte = 49;
      number = 16;
      last = held_with (run 2 3 ∷ []) (codes "..yz");
    }
    ∷ []

-- each is refused so
abbrev pub AllRefused : List Case → Type 0
AllRefused [] = Unit {0}
AllRefused (c ∷ cs) = RefusedAt c.most tag 4 c.held c.answer c.byte c.number c.last × AllRefused cs

-- so is each of the three lists
abbrev pub CasesRefused : Type 0
unfolding head_cases part_cases data_cases
CasesRefused = AllRefused head_cases × AllRefused part_cases × AllRefused data_cases

-- a multipart of two parts and a byte behind it
abbrev pub both : List ℕ
both =
    partial ++ codes "Content-Type: multipart/byteranges; boundary=B\r\nContent-Length: 83\r\n\r\n"
    ++ codes "--B\r\nContent-Range: bytes 0-0/4\r\n\r\na\r\n--B\r\nContent-Range: bytes 3-3/4\r\n\r\nd\r\n--B--\r\nx"

-- it has ended before that byte; up to its first byte of data it goes on
pub record CasesTaken : Type 0 where
  pub whole : EndedAt max_runs tag 4 blank both 194 (held_with (run 0 0 ∷ run 3 3 ∷ []) (codes "a..d"))
  pub broken_off : GoesOn max_runs tag 4 blank (take 147 both) (held_with (run 0 0 ∷ []) (codes "a..."))

-- an answer so far that goes on, and what is then held
pub record Going : Type 0 where
  pub answer : List ℕ
  pub last : Held

-- an answer that has ended, behind how many bytes, and what is then held
pub record Ended : Type 0 where
  pub answer : List ℕ
  pub byte : ℕ
  pub last : Held

-- each goes on
abbrev pub AllGoing : List Going → Type 0
AllGoing [] = Unit {0}
AllGoing (c ∷ cs) = GoesOn max_runs tag 4 blank c.answer c.last × AllGoing cs

-- each has ended
abbrev pub AllEnded : List Ended → Type 0
AllEnded [] = Unit {0}
AllEnded (c ∷ cs) = EndedAt max_runs tag 4 blank c.answer c.byte c.last × AllEnded cs

-- the first byte of the copy is held
abbrev pub one_held : Held
one_held = held_with (run 0 0 ∷ []) (codes "a...")

-- so many lines `a:`
abbrev pub lines : ℕ → List ℕ
lines k = repeat k (codes "a:\r\n")

-- the status line of a 416, which needs no tag
abbrev pub unsatisfied : List ℕ
unsatisfied = codes "HTTP/1.1 416\r\n"

-- the head of a multipart of 900 bytes
abbrev pub large : List ℕ
large = partial ++ codes "Content-Type: multipart/byteranges; boundary=B\r\nContent-Length: 900\r\n\r\n"

-- the head of a multipart of 100 bytes under a boundary of k letters
abbrev pub bounded : ℕ → List ℕ
bounded k = partial ++ (codes "Content-Type: multipart/byteranges; boundary=" ++ (letters k ++ codes "\r\nContent-Length: 100\r\n\r\n"))

-- a 206 with this Content-Range and one byte of data
abbrev pub ranged : List ℕ → List ℕ
ranged v = partial ++ (codes "Content-Range: bytes " ++ (v ++ codes "\r\nContent-Length: 1\r\n\r\na"))

-- at the limit: these go on
unfoldable pub limits_going : List Going
limits_going =
    -- "up to 512 bytes before CR LF": a status line, a field line with its CR LF, a line of a part
    record { answer = codes "HTTP/1.1 416 " ++ letters 499; last = blank }
    ∷ record { answer = unsatisfied ++ (codes "a:" ++ (letters 510 ++ codes "\r\n")); last = blank }
    ∷ record { answer = large ++ (codes "--B\r\na:" ++ letters 510); last = blank }
    -- "at most 64 field lines"
    ∷ record { answer = unsatisfied ++ lines 64; last = blank }
    -- of a part "1 to 16 lines"
    ∷ record { answer = large ++ (codes "--B\r\n" ++ lines 16); last = blank }
    -- of Content-Length: "value at most 2,199,023,255,552"
    ∷ record { answer = unsatisfied ++ codes "Content-Length: 2199023255552\r\n\r\n"; last = blank }
    -- refusal 5: "1 to 70 letters, digits, `-` or `_`"
    ∷ record { answer = bounded 70; last = blank }
    -- "0 to 4 empty lines"
    ∷ record { answer = large ++ repeat 4 crlf; last = blank }
    ∷ []

-- and these end
unfoldable pub limits_ended : List Ended
limits_ended =
    -- 64 field lines
    record { answer = unsatisfied ++ (lines 63 ++ codes "Content-Length: 0\r\n\r\n"); byte = 287; last = blank }
    -- a part of 16 lines
    ∷ record {
      answer = partial ++ codes "Content-Type: multipart/byteranges; boundary=B\r\nContent-Length: 103\r\n\r\n"
          ++ (codes "--B\r\n" ++ (lines 15 ++ codes "Content-Range: bytes 0-0/4\r\n\r\na\r\n--B--"));
      byte = 215;
      last = one_held;
    }
    -- "then length or `*`", in a head and in a part
    ∷ record { answer = ranged (codes "0-0/4"); byte = 91; last = one_held }
    ∷ record { answer = ranged (codes "0-0/*"); byte = 91; last = one_held }
    ∷ record {
      answer = partial ++ codes "Content-Type: multipart/byteranges; boundary=B\r\nContent-Length: 43\r\n\r\n"
          ++ codes "--B\r\nContent-Range: bytes 0-0/*\r\n\r\na\r\n--B--";
      byte = 154;
      last = one_held;
    }
    -- "`boundary=` (any case)"
    ∷ record {
      answer = partial ++ codes "Content-Type: multipart/byteranges; BOUNDARY=B\r\nContent-Length: 43\r\n\r\n"
          ++ codes "--B\r\nContent-Range: bytes 0-0/4\r\n\r\na\r\n--B--";
      byte = 154;
      last = one_held;
    }
    ∷ []

-- one over it: these are refused
unfoldable pub limits_refused : List Case
limits_refused =
    -- "a 513th byte .. is 11 at that byte", and 15 in a part
    early (codes "HTTP/1.1 416 " ++ letters 500) 512 11
    ∷ early (unsatisfied ++ (codes "a:" ++ letters 511)) 526 11
    ∷ early (large ++ (codes "--B\r\na:" ++ letters 511)) 629 15
    -- "a 65th line is 11 at its LF"
    ∷ early (unsatisfied ++ (lines 64 ++ codes "Content-Length: 0\r\n")) 288 11
    -- "The same faults in a part's lines (17th line) are 15"
    ∷ early (large ++ (codes "--B\r\n" ++ (lines 16 ++ codes "Content-Range: bytes 0-0/4\r\n"))) 208 15
    -- a Content-Length over 2,199,023,255,552
    ∷ early (unsatisfied ++ codes "Content-Length: 2199023255553\r\n") 44 11
    -- a stated length unlike the copy's: 13, up to the largest number; 14 and not 13 where a number is over 1,099,511,627,776
    ∷ early (ranged (codes "0-0/5")) 89 13
    ∷ early (ranged (codes "0-0/1099511627776")) 101 13
    ∷ early (ranged (codes "0-0/1099511627777")) 101 14
    ∷ early (ranged (codes "0-1099511627776/5")) 101 13
    ∷ early (ranged (codes "0-1099511627777/5")) 101 14
    -- so it is in a part
    ∷ early (large ++ codes "--B\r\nContent-Range: bytes 0-0/1099511627776\r\n\r\n") 158 13
    ∷ early (large ++ codes "--B\r\nContent-Range: bytes 0-0/1099511627777\r\n\r\n") 158 14
    -- a boundary of 71 letters
    ∷ early (bounded 71) 181 11
    -- a fifth empty line
    ∷ early (large ++ repeat 5 crlf) 120 15
    -- a last beyond the copy, with no length stated
    ∷ early (ranged (codes "3-4/*")) 89 14
    ∷ []

-- both sides of each limit
abbrev pub LimitCases : Type 0
unfolding limits_going limits_ended limits_refused
LimitCases = AllGoing limits_going × AllEnded limits_ended × AllRefused limits_refused
