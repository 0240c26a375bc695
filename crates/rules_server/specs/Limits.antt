-- The limits of documents 01 and 02, each under one name. `Limits` of src/lib.rt has the same numbers for the code.
use Rattle.std.specs.Prelude.{ℕ}

-- the longest Range value that is read, after trimming ("trimmed Range over 4,096 bytes")
abbrev pub max_range : ℕ
max_range = 4096

-- the most specs of a Range (2026-04: "Allow 64 specs in a Range")
abbrev pub max_specs : ℕ
max_specs = 64

-- the longest file ("file over 1,099,511,627,776 bytes", limit 2)
abbrev pub max_file : ℕ
max_file = 1099511627776

-- the longest entity tag ("over 64 bytes")
abbrev pub max_tag : ℕ
max_tag = 64

-- the longest media type ("type over 127 bytes")
abbrev pub max_type : ℕ
max_type = 127

-- the longest boundary ("1 to 70 letters, digits, `-` or `_`")
abbrev pub max_boundary : ℕ
max_boundary = 70

-- two runs with fewer bytes than this between them are one part ("overlapping and touching specs share a run")
abbrev pub merge_gap : ℕ
merge_gap = 1

-- the last second of 9999, counted from the first of 1970 ("outside 1970 to 9999")
abbrev pub max_time : ℕ
max_time = 253402300799
