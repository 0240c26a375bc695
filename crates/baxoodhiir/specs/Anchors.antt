-- The numbers for C as literals, apart from the functions that give them; tests/tests/header.rs compares the same numbers with include/baxoodhiir.h.
use Rattle.std.specs.Prelude.{ℕ, ◌≡◌, true, List, [], ◌∷◌, ◌++◌, ℤ, pos, negsuc, take, drop, replicate}
use Prim.Native.String.{String}
use Rattle.std.specs.Prelude.{Option, None as absent, Some, Result, Ok, Err}
use Rattle.rules_server.specs.Octets.{codes}
use Rattle.rules_server.specs.Status.{Request, Resource}
use Rattle.rules_server.specs.Refusals.{bad_length, written_as, outcome}
use Rattle.rules_server.specs.declared.Run.{Run}
use Rattle.rules_server.specs.declared.Reason.{Reason}
use Rattle.rules_server.specs.declared.Reason.TheVariants.{Head, None as NoRange, Long, Unit as OtherUnit, Malformed, Many, ChangedFile, Invalid}
use Rattle.rules_server.specs.declared.Reason.TheVariants.{Unsatisfiable, Empty}
use Rattle.rules_server.specs.declared.Reason.TheVariants.{Partial}
use Rattle.rules_tablet.specs.Runs.{run}
use Rattle.rules_tablet.specs.declared.Report.TheVariants.{More, Finished, Refused as ByNumber}
use Rattle.copy_bytes.specs.Lists.{number_at, list_bytes, runs_size}
use Rattle.rules_demands.specs.AnchorSamples.{singles}
use Rattle.baxoodhiir.specs.Numbers.{reason_number, status_in, reason_in, length_in}
use Rattle.baxoodhiir.specs.Reads.{report_number, read_number}
use Rattle.baxoodhiir.specs.Requests.{request_number, request_length, request_said}
use Rattle.baxoodhiir.specs.Saves.{saved_number, saved_length, save_said, save_left, CopyMemory, load_said, load_left}

-- the reasons, in the order of the table "Which status"
pub record ReasonsNumbered : Type 0 where
  pub head : reason_number Head ≡ 1
  pub none : reason_number NoRange ≡ 2
  pub long : reason_number Long ≡ 3
  pub unit : reason_number OtherUnit ≡ 4
  pub malformed : reason_number Malformed ≡ 5
  pub many : reason_number Many ≡ 6
  pub changed_file : reason_number ChangedFile ≡ 7
  pub invalid : reason_number Invalid ≡ 8
  pub unsatisfiable : reason_number Unsatisfiable ≡ 9
  pub empty : reason_number Empty ≡ 10
  pub partial : reason_number Partial ≡ 11

-- what baxoodhiir_answer says: the status, the reason and the length of an answer; the number of a refusal, and 0 twice
pub record OutcomesNumbered : Type 0 where
  pub status : (r : Reason) (s n : ℕ) → status_in (written_as r s n) ≡ s
  pub reason : (r : Reason) (s n : ℕ) → reason_in (written_as r s n) ≡ reason_number r
  pub length : (r : Reason) (s n : ℕ) → length_in (written_as r s n) ≡ n
  pub refused : (k : ℕ) → status_in (Err k) ≡ k
  pub no_reason : (k : ℕ) → reason_in (Err k) ≡ 0
  pub no_length : (k : ℕ) → length_in (Err k) ≡ 0

-- what baxoodhiir_read and baxoodhiir_request say
pub record ReportsNumbered : Type 0 where
  pub more : report_number More ≡ 0
  pub finished : report_number Finished ≡ 100
  pub refused : (k : ℕ) → report_number (ByNumber k) ≡ k
  pub written : (n : ℕ) → request_number (Ok n) ≡ 0
  pub length : (n : ℕ) → request_length (Ok n) ≡ n
  pub not_written : (k : ℕ) → request_number (Err k) ≡ k
  pub no_length : (k : ℕ) → request_length (Err k) ≡ 0

-- what baxoodhiir_answer says of this method and Range, for a file under this tag, type and boundary, and an output buffer of so many bytes
abbrev pub asking : String → Option (List ℕ) → Request
asking method range = record { method = codes method; range = range; if_range = absent }

abbrev pub held : String → String → String → String → Resource
held file tag media boundary =
    record { file = codes file; tag = codes tag; media = codes media; boundary = codes boundary; modified = absent; reference = pos 0 }

-- ten bytes with a strong Last-Modified and a reference time
abbrev pub dated : ℤ → ℤ → Resource
dated time reference = record {
  file = codes "0123456789";
  tag = [];
  media = [];
  boundary = codes "B";
  modified = Some (record { time = time; strong = true });
  reference = reference;
}

abbrev pub answers : Request → Resource → ℕ → ℕ
answers q f room = status_in (outcome q f room)

-- what baxoodhiir_read says of an answer, for a copy under the tag `"k"` of n bytes that holds these runs, with this buffer
abbrev pub reads : ℕ → List Run → List ℕ → String → ℕ
reads n runs buffer answer = read_number (codes "\"k\"") n (list_bytes runs) buffer (codes answer)

-- what baxoodhiir_request says for such a copy and an output buffer of so many bytes
abbrev pub requests : ℕ → List Run → ℕ → ℕ
requests n runs room = request_number (request_said (codes "\"k\"") n (list_bytes runs) room)

-- what baxoodhiir_save says for such a copy and an output buffer of so many bytes
abbrev pub saves : ℕ → List Run → ℕ → Result ℕ ℕ
saves n runs room = save_said (codes "\"k\"") n (list_bytes runs) room

-- memory for a copy, with an array and a list of so many bytes
abbrev pub memory_of : ℕ → ℕ → CopyMemory
memory_of tag list = record { tag = replicate tag 46; tag_length = 7; length = 8; runs = replicate list 46 }

-- what baxoodhiir_load says of a saved file
abbrev pub loading : List ℕ → ℕ
loading file = load_said file (memory_of 64 2056)

-- a saved file of a copy of 4 bytes under the tag `"k"`, up to its count of runs; and a run of numbers below 256
abbrev pub four : ℕ → List ℕ
four count = 72 ∷ 76 ∷ 68 ∷ 0 ∷ 2 ∷ 3 ∷ 34 ∷ 107 ∷ 34 ∷ 0 ∷ 0 ∷ 0 ∷ 0 ∷ 0 ∷ 0 ∷ 0 ∷ 4 ∷ 0 ∷ count ∷ []

-- the same under version 1
abbrev pub earlier : List ℕ → List ℕ
earlier file = take 4 file ++ (1 ∷ drop 5 file)

abbrev pub from : ℕ → ℕ → List ℕ
from a b = 0 ∷ 0 ∷ 0 ∷ 0 ∷ 0 ∷ 0 ∷ 0 ∷ a ∷ 0 ∷ 0 ∷ 0 ∷ 0 ∷ 0 ∷ 0 ∷ 0 ∷ b ∷ []

-- the refusals, under the header's names, each by a case that is refused so
pub record RefusalsNumbered : Type 0 where
  pub bad_method : answers (asking "PUT" absent) (held "0123456789" "" "" "B") 100 ≡ 1
  pub file_too_long : (f : Resource) (room : ℕ) → bad_length f.file ≡ true → answers (asking "GET" absent) f room ≡ 2
  pub bad_tag : answers (asking "GET" absent) (held "0123456789" "k" "" "B") 100 ≡ 3
  pub bad_type : answers (asking "GET" absent) (held "0123456789" "" "text/plain " "B") 100 ≡ 4
  pub bad_boundary : answers (asking "GET" absent) (held "0123456789" "" "" "B!") 100 ≡ 5
  pub boundary_in_data : answers (asking "GET" (Some (codes "bytes=0-2,9-9"))) (held "--B3--B789" "" "" "B") 1000 ≡ 6
  pub answer_too_long : answers (asking "GET" absent) (held "0123456789" "" "" "B") 48 ≡ 7
  pub bad_time : answers (asking "GET" absent) (dated (negsuc 0) (pos 0)) 100 ≡ 9
  pub bad_head : reads 4 [] (codes "....") "HTTP/1.1 200 OK\r\n\r\n" ≡ 11
  pub bad_status : reads 4 [] (codes "....") "HTTP/1.1 201 Created\r\n\r\n" ≡ 12
  pub other_file : reads 4 [] (codes "....") "HTTP/1.1 200 OK\r\nETag: \"j\"\r\nContent-Length: 4\r\n\r\n" ≡ 13
  pub bad_content_range : reads 4 [] (codes "....") "HTTP/1.1 206 x\r\nETag: \"k\"\r\nContent-Range: bytes 1-4/*\r\nContent-Length: 4\r\n\r\n" ≡ 14
  pub bad_multipart :
      reads 4 [] (codes "....") "HTTP/1.1 206 x\r\nETag: \"k\"\r\nContent-Type: multipart/byteranges; boundary=B\r\nContent-Length: 99\r\n\r\n--C" ≡ 15
  pub too_many_runs :
      reads 300 (singles 0 128) (replicate 300 46) "HTTP/1.1 206 x\r\nETag: \"k\"\r\nContent-Range: bytes 260-260/300\r\nContent-Length: 1\r\n\r\nx" ≡ 16
  pub byte_differs : reads 4 (run 0 0 ∷ []) (codes "....") "HTTP/1.1 200 OK\r\nETag: \"k\"\r\nContent-Length: 4\r\n\r\nx" ≡ 17
  pub copy_complete : requests 4 (run 0 3 ∷ []) 100 ≡ 18
  pub bad_copy : requests 4 (run 0 4 ∷ []) 100 ≡ 19
  pub request_too_long : requests 4 [] 32 ≡ 20
  pub bad_mark : loading (codes "HLX") ≡ 22
  pub unknown_version : loading (codes "HLD" ++ (0 ∷ 3 ∷ [])) ≡ 23
  pub bad_saved_tag : loading (codes "HLD" ++ (0 ∷ 2 ∷ 65 ∷ [])) ≡ 24
  pub saved_length_too_long : loading (take 9 (four 0) ++ replicate 8 1) ≡ 25
  pub too_many_saved_runs : loading (four 129) ≡ 26
  pub bad_saved_runs : loading (four 1 ++ from 2 1) ≡ 27
  pub saved_run_too_far : loading (four 1 ++ from 0 4) ≡ 28
  pub saved_cut_short : loading (four 1) ≡ 29
  pub saved_trailing : loading (four 0 ++ (0 ∷ [])) ≡ 30

-- what baxoodhiir_save and baxoodhiir_load say and leave
pub record SavesNumbered : Type 0 where
  pub written : saves 4 (run 0 1 ∷ []) 35 ≡ Ok 35
  pub writes : save_left (codes "\"k\"") 4 (list_bytes (run 0 1 ∷ [])) (replicate 37 46) ≡ four 1 ++ (from 0 1 ++ (46 ∷ 46 ∷ []))
  pub too_long : saves 4 (run 0 1 ∷ []) 34 ≡ Err 20
  pub no_copy : saves 4 (run 0 4 ∷ []) 2128 ≡ Err 19
  pub no_list : save_said (codes "\"k\"") 4 (replicate 2055 0) 2128 ≡ Err 19
  pub number : (n : ℕ) → saved_number (Ok n) ≡ 0
  pub length : (n : ℕ) → saved_length (Ok n) ≡ n
  pub refused : (k : ℕ) → saved_number (Err k) ≡ k
  pub no_length : (k : ℕ) → saved_length (Err k) ≡ 0
  pub loaded : loading (four 1 ++ from 0 1) ≡ 0
  pub loaded_under_1 : loading (earlier (four 1 ++ from 0 1)) ≡ 0
  pub too_many_under_1 : loading (earlier (four 33)) ≡ 26
  pub leaves : load_left (four 1 ++ from 0 1) (memory_of 64 2056)
      ≡ record { tag = codes "\"k\"" ++ replicate 61 0; tag_length = 3; length = 4; runs = list_bytes (run 0 1 ∷ []) }
  pub stays : load_left (four 1 ++ from 0 4) (memory_of 64 2056) ≡ memory_of 64 2056
  -- memory of another size, before all else
  pub short_tag : load_said (codes "HLX") (memory_of 63 2056) ≡ 19
  pub long_tag : load_said (four 0) (memory_of 65 2056) ≡ 19
  pub short_list : load_said (four 0) (memory_of 64 2055) ≡ 19
  pub long_list : load_said (four 0) (memory_of 64 2057) ≡ 19
  pub unfit : load_left (four 0) (memory_of 63 2056) ≡ memory_of 63 2056

-- the first two bytes, if this is the date of the file's Last-Modified
abbrev pub asking_if : String → Request
asking_if date = record { method = codes "GET"; range = Some (codes "bytes=0-1"); if_range = Some (codes date) }

-- a reference time behind 9999; and a Last-Modified: its line stands in the answer, and If-Range matches by its date alone
pub record DatesAnswered : Type 0 where
  pub reference : answers (asking "GET" absent) (dated (pos 0) (pos 253402300800)) 100 ≡ 9
  pub line : length_in (outcome (asking "GET" absent) (dated (pos 784111777) (pos 0)) 95) ≡ 95
  pub same_second : answers (asking_if "Sun, 06 Nov 1994 08:49:37 GMT") (dated (pos 784111777) (pos 0)) 200 ≡ 206
  pub next_second : answers (asking_if "Sun, 06 Nov 1994 08:49:38 GMT") (dated (pos 784111777) (pos 0)) 200 ≡ 200

-- the list of runs: its size, and every number in eight bytes, the most significant first
pub record ListsSpelled : Type 0 where
  pub size : runs_size ≡ 2056
  pub bytes : list_bytes (run 1 258 ∷ [])
      ≡ (0 ∷ 0 ∷ 0 ∷ 0 ∷ 0 ∷ 0 ∷ 0 ∷ 1 ∷ [])
      ++ ((0 ∷ 0 ∷ 0 ∷ 0 ∷ 0 ∷ 0 ∷ 0 ∷ 1 ∷ []) ++ ((0 ∷ 0 ∷ 0 ∷ 0 ∷ 0 ∷ 0 ∷ 1 ∷ 2 ∷ []) ++ replicate 2032 0))
  -- a number of eight bytes behind one byte, before others; behind the end of a text every byte counts as 0
  pub number : number_at (9 ∷ 1 ∷ 2 ∷ 3 ∷ 4 ∷ 5 ∷ 6 ∷ 7 ∷ 8 ∷ 9 ∷ []) 1 ≡ 72623859790382856
  pub behind : number_at (9 ∷ 1 ∷ []) 1 ≡ 72057594037927936
