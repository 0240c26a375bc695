-- Saving and loading a copy's record, and what the steps of loading say to one another.
use Rattle.std.specs.Prelude.{ℕ, ◌+◌, ◌*◌, ◌-◌, ◌≤◌, ◌≡◌, true, cond, List, [], ◌∷◌, ◌++◌, length, get_or, take, drop, replicate}
use Rattle.std.specs.Prelude.{Option, None, Some, Result, Ok, Err}
use Rattle.rules_server.specs.RefusalNumbers.{refusal_number}
use Rattle.rules_server.specs.declared.refusal.Refusal.{Refusal}
use Rattle.rules_server.specs.Limits.{max_file, max_tag}
use Rattle.rules_server.specs.Tags.{is_strong}
use Rattle.rules_server.specs.declared.Run.{Run}
use Rattle.rules_tablet.specs.Limits.{max_runs}
use Rattle.rules_tablet.specs.Runs.{run}
use Rattle.rules_tablet.specs.Copies.{copy_rule}
use Rattle.rules_tablet.specs.Calls.{State}
use Rattle.rules_tablet.specs.SavedCopies.{saved_bytes, save_refusal, save_call, Draft, draft, SavedUnit, mark_unit, version_unit, tag_count_unit}
use Rattle.rules_tablet.specs.SavedCopies.{tag_unit}
use Rattle.rules_tablet.specs.SavedCopies.{length_unit, run_count_unit, run_unit, units, refused_by, read_units, blank_draft, SavedRead, loads, refuses}
use Rattle.rules_tablet.specs.SavedCopies.{saved_read}
use Rattle.rules_tablet.specs.declared.Copy.{Copy}
use Rattle.octets.specs.Numbers.{number_at, pair_at}
use Rattle.copy.specs.States.{state_of}

-- Saving.

-- the length of what is written, or a refusal
abbrev pub saved_says : Option ℕ → List ℕ → Result ℕ ℕ
saved_says None text = Ok (length text)
saved_says (Some k) text = Err k

-- what is said of saving a record, for a buffer of so many bytes: 19 where it breaks its rule, else by what it means
unfoldable pub save_outcome : Copy → ℕ → Result ℕ ℕ
save_outcome c room = cond (copy_rule c) (saved_says (save_refusal (state_of c) room) (saved_bytes (state_of c))) (Err 19)

-- what the buffer then holds
unfoldable pub save_bytes : Copy → List ℕ → List ℕ
save_bytes c out = cond (copy_rule c) (save_call (state_of c) out) out

-- Loading.

-- the record with these runs in its array, so many of them used
abbrev pub record_with : List ℕ → ℕ → List Run → ℕ → Copy
record_with tag n runs count = record {
  tag = tag ++ replicate (max_tag - length tag) 0;
  tag_len = length tag;
  length = n;
  runs = runs;
  count = count;
}

-- the record of a state: unused places are zero
abbrev pub record_of : State → Copy
record_of s = record_with s.tag s.length (s.runs ++ replicate (max_runs - length s.runs) (run 0 0)) (length s.runs)

-- the copy that was read, or the refusal
abbrev pub loaded_as : SavedRead → Result Copy ℕ
loaded_as (loads s) = Ok (record_of s)
loaded_as (refuses k) = Err k

unfoldable pub load_outcome : List ℕ → Result Copy ℕ
load_outcome file = loaded_as (saved_read file)

-- a caller's copy behind loading, and the refusal, where there is one
pub record LoadedCopy : Type 0 where
  pub copy : Copy
  pub refusal : Option ℕ

-- the copy that was read, in place of c; or c, and the refusal
abbrev pub loaded_by : Copy → Result Copy ℕ → LoadedCopy
loaded_by c (Ok d) = record { copy = d; refusal = None }
loaded_by c (Err k) = record { copy = c; refusal = Some k }

abbrev pub load_call : Copy → List ℕ → LoadedCopy
load_call c file = loaded_by c (load_outcome file)

-- The steps of loading.

-- the file is of version v
abbrev pub versioned : ℕ → Draft
versioned v = draft v 0 [] 0 0 [] 0

-- the tag has k bytes
abbrev pub counted : ℕ → Draft
counted k = draft 0 k [] 0 0 [] 0

-- the next run of a file of n bytes may begin at `next` at the earliest
abbrev pub awaiting : ℕ → ℕ → Draft
awaiting next n = draft 0 0 [] n 0 [] next

-- the number of a refusal, 0 where nothing is refused
abbrev pub refusal_in : Result (Unit {0}) Refusal → ℕ
refusal_in (Ok u) = 0
refusal_in (Err e) = refusal_number e

-- a tag of k bytes behind six others
pub record TagRight (file : List ℕ) (k : ℕ) : Type 0 where
  pub short : k ≤ max_tag
  pub strong : is_strong (take k (drop 6 file)) ≡ true
  pub whole : 6 + k ≤ length file
  pub goes : (xs : List SavedUnit) → read_units (mark_unit ∷ version_unit ∷ tag_count_unit ∷ tag_unit ∷ xs) blank_draft file
      ≡ read_units xs (draft (pair_at file 3) k (take k (drop 6 file)) 0 0 [] 0) (drop (6 + k) file)

-- the units up to the tag are right, or refused by k
abbrev pub TagUnitsSay : List ℕ → Result (Unit {0}) ℕ → Type 0
TagUnitsSay file (Ok u) = TagRight file (get_or file 5 0)
TagUnitsSay file (Err k) = (xs : List SavedUnit) → read_units (mark_unit ∷ version_unit ∷ tag_count_unit ∷ tag_unit ∷ xs) blank_draft file ≡ refused_by k

-- a length and a count of runs, in a file of version v
pub record NumbersRight (v : ℕ) (rest : List ℕ) : Type 0 where
  pub below : number_at rest 0 ≤ max_file
  pub few : pair_at rest 8 ≤ max_runs
  pub whole : 10 ≤ length rest
  pub goes : (k : ℕ) (tag : List ℕ) → read_units (length_unit ∷ run_count_unit ∷ []) (draft v k tag 0 0 [] 0) rest
      ≡ units (draft v k tag (number_at rest 0) (pair_at rest 8) [] 0) (drop 10 rest)

abbrev pub NumberUnitsSay : ℕ → List ℕ → Result (Unit {0}) ℕ → Type 0
NumberUnitsSay v rest (Ok u) = NumbersRight v rest
NumberUnitsSay v rest (Err r) = (k : ℕ) (tag : List ℕ) → read_units (length_unit ∷ run_count_unit ∷ []) (draft v k tag 0 0 [] 0) rest ≡ refused_by r

-- so many runs in an array, the others blank
pub record RunsRight (n count : ℕ) (rest : List ℕ) (runs : List Run) : Type 0 where
  pub blank : runs ≡ take count runs ++ replicate (max_runs - count) (run 0 0)
  pub counted : length (take count runs) ≡ count
  pub whole : 16 * count ≤ length rest
  pub next : ℕ
  pub goes : (v k : ℕ) (tag : List ℕ) (m : ℕ) → read_units (replicate count run_unit) (draft v k tag n m [] 0) rest
      ≡ units (draft v k tag n m (take count runs) next) (drop (16 * count) rest)

abbrev pub RunUnitsSay : ℕ → ℕ → List ℕ → Result (List Run) ℕ → Type 0
RunUnitsSay n count rest (Ok runs) = RunsRight n count rest runs
RunUnitsSay n count rest (Err r) = (v k : ℕ) (tag : List ℕ) (m : ℕ) → read_units (replicate count run_unit) (draft v k tag n m [] 0) rest ≡ refused_by r
