-- The limits as numbers, apart from the definitions that name them, and what stands at each limit and one beyond it.
use Rattle.std.specs.Prelude.{ℕ, zero, suc, ◌≤◌, ◌≡◌, Bool, true, false, List, [], ◌∷◌, ◌++◌, length, replicate, pos}
use Rattle.std.specs.Prelude.{None, Some}
use Rattle.rules_server.specs.Limits.{max_range, max_specs, max_file, max_tag, max_type, max_boundary, merge_gap, max_time}
use Rattle.rules_server.specs.Octets.{codes}
use Rattle.rules_server.specs.Tags.{bad_tag, bad_type, bad_boundary}
use Rattle.rules_server.specs.Ranges.{span}
use Rattle.rules_server.specs.Parts.{parts_of}
use Rattle.rules_server.specs.Status.{decide}
use Rattle.rules_server.specs.Refusals.{bad_length}
use Rattle.rules_server.specs.declared.Run.{Run}
use Rattle.rules_server.specs.declared.Reason.{Reason}
use Rattle.rules_server.specs.declared.Reason.TheVariants.{Long, Malformed, Many, Partial}
use Rattle.rules_tablet.specs.Limits.{max_runs, version_one_runs, max_holes, max_line, max_fields, max_part_lines, max_preamble, max_size}
use Rattle.rules_tablet.specs.Runs.{run}
use Rattle.rules_tablet.specs.Copies.{bad_opening}
use Rattle.rules_tablet.specs.Requests.{wanted}
use Rattle.rules_tablet.specs.Lines.{LineStep, going, broken, line_step}
use Rattle.rules_tablet.specs.Fields.{is_size, small, range_field}
use Rattle.rules_tablet.specs.declared.RangeField.{RangeField}
use Rattle.rules_tablet.specs.declared.RangeField.TheVariants.{Wrong, Span, Of}
use Rattle.rules_demands.specs.AnchorTables.{Entry, ◌is◌, Agree}
use Rattle.rules_demands.specs.AnchorSamples.{letters, singles}

-- every limit, as documents 01 and 02 state it
unfoldable pub limits : List (Entry ℕ)
limits =
    max_range is 4096
    ∷ max_specs is 64
    ∷ max_file is 1099511627776
    ∷ max_tag is 64
    ∷ max_type is 127
    ∷ max_boundary is 70
    ∷ merge_gap is 1
    ∷ max_time is 253402300799
    ∷ max_runs is 128
    ∷ version_one_runs is 32
    ∷ max_holes is 64
    ∷ max_line is 512
    ∷ max_fields is 64
    ∷ max_part_lines is 16
    ∷ max_preamble is 4
    ∷ max_size is 2199023255552
    ∷ []

-- refusal 2, "file over 1,099,511,627,776 bytes", of a file of any bytes
pub record FilesRefused : Type 0 where
  pub at_most : (file : List ℕ) → length file ≤ 1099511627776 → bad_length file ≡ false
  pub over : (file : List ℕ) → 1099511627777 ≤ length file → bad_length file ≡ true

-- a tag of k + 2 bytes, a weak one of k + 4
abbrev pub tagged : ℕ → List ℕ
tagged k = codes "\"" ++ (letters k ++ codes "\"")

abbrev pub weakly : ℕ → List ℕ
weakly k = codes "W/" ++ tagged k

-- refusals 3, 4 and 5: "over 64 bytes", "over 127 bytes", "not 1 to 70"
unfoldable pub lengths : List (Entry Bool)
lengths =
    bad_tag (tagged 62) is false
    ∷ bad_tag (tagged 63) is true
    ∷ bad_tag (weakly 60) is false
    ∷ bad_tag (weakly 61) is true
    ∷ bad_type (letters 127) is false
    ∷ bad_type (letters 128) is true
    ∷ bad_boundary (letters 0) is true
    ∷ bad_boundary (letters 1) is false
    ∷ bad_boundary (letters 70) is false
    ∷ bad_boundary (letters 71) is true
    -- 19 at opening: "over 64 bytes", "length over limit 2"
    ∷ bad_opening (tagged 62) 10 10 is false
    ∷ bad_opening (tagged 63) 10 10 is true
    ∷ bad_opening (codes "\"k\"") 1099511627776 1099511627776 is false
    ∷ bad_opening (codes "\"k\"") 1099511627777 1099511627777 is true
    -- "Content-Length .. value at most 2,199,023,255,552"
    ∷ is_size (codes "2199023255552") is true
    ∷ is_size (codes "2199023255553") is false
    -- of a Content-Range: "A number over 1,099,511,627,776"
    ∷ small 1099511627776 is true
    ∷ small 1099511627777 is false
    ∷ []

-- the three numbers of a Content-Range
unfoldable pub fields : List (Entry RangeField)
fields =
    range_field (codes "bytes 1099511627776-1099511627776/*") is Span 1099511627776 1099511627776
    ∷ range_field (codes "bytes 1099511627777-1099511627776/*") is Wrong
    ∷ range_field (codes "bytes 0-1099511627777/*") is Wrong
    ∷ range_field (codes "bytes 0-0/1099511627776") is Of 0 0 1099511627776
    ∷ range_field (codes "bytes 0-0/1099511627777") is Wrong
    ∷ []

-- "every line has up to 512 bytes before CR LF"
unfoldable pub lines : List (Entry LineStep)
lines =
    line_step (letters 511) false 97 is going (letters 512) false
    ∷ line_step (letters 512) false 97 is broken
    ∷ line_step (letters 512) false 13 is going (letters 512) true
    ∷ []

-- k members `0-0`, each behind a comma
abbrev pub members : ℕ → List ℕ
members zero = []
members (suc k) = codes ",0-0" ++ members k

-- a Range value of k + 9 bytes, in blanks
abbrev pub padded : ℕ → List ℕ
padded k = codes " \tbytes=" ++ (replicate k 44 ++ codes "0-0 \t")

-- the reason for a GET of this Range of ten bytes
abbrev pub reason_of : List ℕ → Reason
reason_of v = decide (record { method = codes "GET"; range = Some v; if_range = None })
    (record { file = codes "0123456789"; tag = []; media = []; boundary = codes "B"; modified = None; reference = pos 0 })

-- "trimmed Range over 4,096 bytes"; "64 specs", "empty members not counted"
unfoldable pub reasons : List (Entry Reason)
reasons =
    reason_of (padded 4087) is Partial
    ∷ reason_of (padded 4088) is Long
    ∷ reason_of (codes "bytes=" ++ members 64) is Partial
    ∷ reason_of (codes "bytes=" ++ members 65) is Many
    -- a member behind the 65th spec is read too
    ∷ reason_of (codes "bytes=" ++ members 65 ++ codes ",x") is Malformed
    ∷ reason_of (codes "bytes=,, ,," ++ members 64 ++ codes ",,") is Partial
    ∷ []

-- "overlapping and touching specs share a run", two with one byte between them do not; "requests for the first 64 holes"
unfoldable pub runs : List (Entry (List Run))
runs =
    parts_of 10 (span 0 1 ∷ span 2 3 ∷ []) is (run 0 3 ∷ [])
    ∷ parts_of 10 (span 0 1 ∷ span 3 4 ∷ []) is (run 0 1 ∷ run 3 4 ∷ [])
    ∷ wanted 127 (singles 1 63) is singles 0 64
    ∷ wanted 129 (singles 1 64) is singles 0 64
    ∷ []

-- the limits are those of documents 01 and 02, and so is each side of them
pub record LimitsAre : Type 0 where
  pub numbers : Agree limits
  pub files : FilesRefused
  pub lengths : Agree lengths
  pub fields : Agree fields
  pub lines : Agree lines
  pub reasons : Agree reasons
  pub runs : Agree runs
