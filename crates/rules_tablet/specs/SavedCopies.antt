-- A saved copy, the side file of document 02, 2026-02 and 2026-04: "the mark `HLD`, a 16-bit version 1 high byte first, the tag, length and runs; data stays
-- in its own file", and "version 2, laid out alike, which is now written; version 1 files still load". What is written of a copy's state, and what bytes are
-- read as.
use Rattle.std.specs.Prelude.{ℕ, zero, suc, ◌+◌, ◌*◌, Bool, cond, ◌&&◌, List, [], ◌∷◌, ◌++◌, leb, ltb, eqb, length, take, drop, replicate}
use Rattle.std.specs.Prelude.{Option, None, Some}
use Rattle.rules_server.specs.Limits.{max_file, max_tag}
use Rattle.rules_server.specs.Numbers.{value_of, in_bytes}
use Rattle.rules_server.specs.Octets.{codes, same}
use Rattle.rules_server.specs.Tags.{is_strong}
use Rattle.rules_server.specs.declared.Run.{Run}
use Rattle.rules_tablet.specs.Limits.{max_runs, version_one_runs}
use Rattle.rules_tablet.specs.Runs.{run}
use Rattle.rules_tablet.specs.Requests.{request_output}
use Rattle.rules_tablet.specs.Calls.{State, copy_ok}

-- "the mark `HLD`"
abbrev pub mark : List ℕ
mark = codes "HLD"

-- the version that is written: "version 2 .. which is now written"
abbrev pub version : ℕ
version = 2

-- the versions that load: "version 1 files still load"
abbrev pub is_version : ℕ → Bool
is_version v = leb 1 v && leb v version

-- the most runs in a file of a version: "up to 128 runs under version 2", "version 1 files still load, 26 coming above 32 runs"
abbrev pub most_runs : ℕ → ℕ
most_runs v = cond (eqb v 1) version_one_runs max_runs

-- Writing.

-- runs, "each as first and last in 8 bytes"
abbrev pub runs_bytes : List Run → List ℕ
runs_bytes [] = []
runs_bytes (r ∷ rs) = (in_bytes 8 r.first ++ in_bytes 8 r.last) ++ runs_bytes rs

-- the bytes of a copy's state under a version: "The tag follows a one-byte count, the length takes 8 bytes, the runs follow a two-byte count"
unfoldable pub saved_under : ℕ → State → List ℕ
saved_under v c =
    mark
    ++ (in_bytes 2 v
    ++ (in_bytes 1 (length c.tag)
    ++ (c.tag ++ (in_bytes 8 c.length ++ (in_bytes 2 (length c.runs) ++ runs_bytes c.runs)))))

-- what is written
abbrev pub saved_bytes : State → List ℕ
saved_bytes c = saved_under version c

-- the most bytes that a saved copy has
abbrev pub max_saved : ℕ
max_saved = 16 + max_tag + 16 * max_runs

-- "Writing refuses with 19, then 20 for a short buffer"; none where it is written
unfoldable pub save_refusal : State → ℕ → Option ℕ
save_refusal c room = cond (copy_ok c) (cond (ltb room (length (saved_bytes c))) (Some 20) None) (Some 19)

-- what the buffer then holds: "bytes beyond stay"
unfoldable pub save_call : State → List ℕ → List ℕ
save_call c out = request_output (save_refusal c (length out)) (saved_bytes c) out

-- Reading: "Each field, count or single run is judged once whole, from the front, lower number first".

-- what is judged by itself
pub data SavedUnit : Type 0 where
  mark_unit : SavedUnit
  version_unit : SavedUnit
  tag_count_unit : SavedUnit
  tag_unit : SavedUnit
  length_unit : SavedUnit
  run_count_unit : SavedUnit
  run_unit : SavedUnit

-- what the units read so far say; `next` is where the next run may begin at the earliest
pub record Draft : Type 0 where
  pub version : ℕ
  pub tag_count : ℕ
  pub tag : List ℕ
  pub length : ℕ
  pub run_count : ℕ
  pub runs : List Run
  pub next : ℕ

abbrev pub draft : (version tag_count : ℕ) (tag : List ℕ) (length run_count : ℕ) (runs : List Run) (next : ℕ) → Draft
draft v k tag n count rs next = record { version = v; tag_count = k; tag = tag; length = n; run_count = count; runs = rs; next = next }

-- how many bytes a unit has
abbrev pub unit_size : Draft → SavedUnit → ℕ
unit_size d mark_unit = 3
unit_size d version_unit = 2
unit_size d tag_count_unit = 1
unit_size d tag_unit = d.tag_count
unit_size d length_unit = 8
unit_size d run_count_unit = 2
unit_size d run_unit = 16

-- the run that sixteen bytes are
abbrev pub run_of : List ℕ → Run
run_of u = run (value_of (take 8 u)) (value_of (drop 8 u))

-- 27: "backward, disordered or touching runs"; 28: "a run past the length"
abbrev pub run_fault : Draft → Run → ℕ
run_fault d r = cond (leb r.first r.last && leb d.next r.first) (cond (ltb r.last d.length) 0 28) 27

-- what is wrong with a whole unit, 0 for nothing: 22 "Bad mark", 23 "unknown version", 24 "a tag count over 64 or tag not strong", 25 "a length over limit
-- 2", 26 "too many runs" for the version
abbrev pub unit_fault : Draft → SavedUnit → List ℕ → ℕ
unit_fault d mark_unit u = cond (same u mark) 0 22
unit_fault d version_unit u = cond (is_version (value_of u)) 0 23
unit_fault d tag_count_unit u = cond (leb (value_of u) max_tag) 0 24
unit_fault d tag_unit u = cond (is_strong u) 0 24
unit_fault d length_unit u = cond (leb (value_of u) max_file) 0 25
unit_fault d run_count_unit u = cond (leb (value_of u) (most_runs d.version)) 0 26
unit_fault d run_unit u = run_fault d (run_of u)

-- what is known behind a unit
abbrev pub noted : Draft → SavedUnit → List ℕ → Draft
noted d mark_unit u = d
noted d version_unit u = draft (value_of u) d.tag_count d.tag d.length d.run_count d.runs d.next
noted d tag_count_unit u = draft d.version (value_of u) d.tag d.length d.run_count d.runs d.next
noted d tag_unit u = draft d.version d.tag_count u d.length d.run_count d.runs d.next
noted d length_unit u = draft d.version d.tag_count d.tag (value_of u) d.run_count d.runs d.next
noted d run_count_unit u = draft d.version d.tag_count d.tag d.length (value_of u) d.runs d.next
noted d run_unit u = draft d.version d.tag_count d.tag d.length d.run_count (d.runs ++ (run_of u ∷ [])) (suc (suc (run_of u).last))

-- the refusal of the unit that the bytes l begin with, 0 for none: 29, "a file cut short", where it is not whole, else what is wrong with it
abbrev pub unit_refusal : Draft → SavedUnit → List ℕ → ℕ
unit_refusal d x l = cond (ltb (length l) (unit_size d x)) 29 (unit_fault d x (take (unit_size d x) l))

-- what units say, with the bytes behind them; or the first refusal
pub data UnitsRead : Type 0 where
  units : Draft → List ℕ → UnitsRead
  refused_by : ℕ → UnitsRead

-- a refusal, or else what is read behind it
abbrev pub unless : ℕ → UnitsRead → UnitsRead
unless zero r = r
unless (suc k) r = refused_by (suc k)

unfoldable pub read_units : List SavedUnit → Draft → List ℕ → UnitsRead
read_units [] d l = units d l
read_units (x ∷ xs) d l = unless (unit_refusal d x l) (read_units xs (noted d x (take (unit_size d x) l)) (drop (unit_size d x) l))

-- the layout: the units up to the count of runs, and a unit for each run
abbrev pub first_units : List SavedUnit
first_units = mark_unit ∷ version_unit ∷ tag_count_unit ∷ tag_unit ∷ length_unit ∷ run_count_unit ∷ []

abbrev pub run_units : Draft → List SavedUnit
run_units d = replicate d.run_count run_unit

-- nothing read
abbrev pub blank_draft : Draft
blank_draft = draft 0 0 [] 0 0 [] 0

-- a copy's state, or the number of a refusal
pub data SavedRead : Type 0 where
  loads : State → SavedRead
  refuses : ℕ → SavedRead

-- behind the last unit: 30, "trailing bytes"
abbrev pub read_end : UnitsRead → SavedRead
read_end (units d []) = loads (record { tag = d.tag; length = d.length; runs = d.runs })
read_end (units d (b ∷ l)) = refuses 30
read_end (refused_by k) = refuses k

-- the runs behind the first units
abbrev pub read_runs : UnitsRead → SavedRead
read_runs (units d l) = read_end (read_units (run_units d) d l)
read_runs (refused_by k) = refuses k

-- what bytes are read as
unfoldable pub saved_read : List ℕ → SavedRead
saved_read file = read_runs (read_units first_units blank_draft file)
