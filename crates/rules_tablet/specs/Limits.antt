-- The tablet end's limits, each under one name. `Copy` and `Reader` of src/lib.rt have the same numbers for the code, and copy_bytes::units that of version 1.
use Rattle.std.specs.Prelude.{ℕ}

-- of the maximal runs of a copy (2026-04: "128 runs in a copy")
abbrev pub max_runs : ℕ
max_runs = 128

-- of the runs in a saved file of version 1 (2026-04: "version 1 files still load, 26 coming above 32 runs")
abbrev pub version_one_runs : ℕ
version_one_runs = 32

-- of a request (2026-04: "requests for the first 64 holes")
abbrev pub max_holes : ℕ
max_holes = 64

-- "every line has up to 512 bytes before CR LF"
abbrev pub max_line : ℕ
max_line = 512

-- "at most 64 field lines"
abbrev pub max_fields : ℕ
max_fields = 64

-- of a part: "1 to 16 lines"
abbrev pub max_part_lines : ℕ
max_part_lines = 16

-- "0 to 4 empty lines"
abbrev pub max_preamble : ℕ
max_preamble = 4

-- of Content-Length: "value at most 2,199,023,255,552"
abbrev pub max_size : ℕ
max_size = 2199023255552
