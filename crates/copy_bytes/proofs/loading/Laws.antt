-- What a saved file is read as, from what its units say. Assumes nothing.
use Prim.Native.Nat.{ℕ, ◌+◌, ◌*◌, ◌-◌, ◌≤◌, ◌<◌}
use mathlib.Core.Path.{◌≡◌, sym, ap, subst, ◌∙◌}
use mathlib.Core.List.{List, [], ◌∷◌, ◌++◌}
use native.Mathlib.Omega.{arith}
use Rattle.std.proofs.Common.{Ok, Err}
use lib.ListN.{length, get_or, take, drop, replicate}
use Rattle.rules_server.specs.declared.Run.{Run}
use Rattle.rules_tablet.specs.Limits.{max_runs}
use Rattle.rules_tablet.specs.Runs.{run}
use Rattle.rules_tablet.specs.Calls.{State}
use Rattle.rules_tablet.specs.SavedCopies.{draft, length_unit, run_count_unit, run_unit, units, read_units, loads, refuses, read_end, read_runs}
use Rattle.rules_tablet.specs.SavedCopies.{saved_read}
use Rattle.rules_tablet.specs.declared.Copy.{Copy}
use Rattle.octets.specs.Numbers.{number_at, pair_at}
use Rattle.octets.proofs.strings.Laws.{drop-next, drop_end}
use Rattle.copy_bytes.specs.SavedFiles.{record_with, record_of, load_outcome, loaded_as, TagRight, TagUnitsSay, NumbersRight, NumberUnitsSay}
use Rattle.copy_bytes.specs.SavedFiles.{RunsRight, RunUnitsSay}

-- a refused file
pub refused_call : (file : List ℕ) (k : ℕ) → saved_read file ≡ refuses k → Err k ≡ load_outcome file
unfolding load_outcome
refused_call file k e = sym (ap loaded_as e)

-- a file that is read as a state gives its record
pub loaded_call : (file : List ℕ) (s : State) (d : Copy) → saved_read file ≡ loads s → d ≡ record_of s → Ok d ≡ load_outcome file
unfolding load_outcome
loaded_call file s d e f = ap Ok f ∙ sym (ap loaded_as e)

-- the units up to the tag are refused
pub first_refused : (file : List ℕ) (r : ℕ) → TagUnitsSay file (Err r) → saved_read file ≡ refuses r
unfolding saved_read
first_refused file r h = ap read_runs (h (length_unit ∷ run_count_unit ∷ []))

-- they are right, and have b bytes of a tag
pub tag_of : (file : List ℕ) (b : ℕ) → TagRight file (get_or file 5 0) → b ≡ get_or file 5 0 → TagRight file b
tag_of file b h e = subst (TagRight file) (sym e) h

module _ (file : List ℕ) (v b : ℕ) (of : v ≡ pair_at file 3) (t : TagRight file b) (numbers : List ℕ) (there : numbers ≡ drop (6 + b) file) where
  abbrev pub tag : List ℕ
  tag = take b (drop 6 file)

  -- the same bytes as a part of the file
  pub tag_part : take ((6 + b) - 6) (drop 6 file) ≡ tag
  tag_part = let e : (6 + b) - 6 ≡ b = omega arith in ap (λ (k : ℕ). take k (drop 6 file)) e

  behind_tag_lem : saved_read file ≡ read_runs (read_units (length_unit ∷ run_count_unit ∷ []) (draft v b tag 0 0 [] 0) numbers)
  unfolding saved_read
  behind_tag_lem =
      ap read_runs (t.goes (length_unit ∷ run_count_unit ∷ [])
      ∙ (λ i. read_units (length_unit ∷ run_count_unit ∷ []) (draft (sym of i) b tag 0 0 [] 0) (sym there i)))

  -- the units behind the tag are refused
  pub second_refused : (r : ℕ) → NumberUnitsSay v numbers (Err r) → saved_read file ≡ refuses r
  second_refused r h = behind_tag_lem ∙ ap read_runs (h b tag)

  -- they are right
  module _ (right : NumbersRight v numbers) (n count : ℕ) (is : n ≡ number_at numbers 0) (counts : count ≡ pair_at numbers 8) (rest : List ℕ)
      (behind : rest ≡ drop 10 numbers) where
    at-runs_lem : saved_read file ≡ read_end (read_units (replicate count run_unit) (draft v b tag n count [] 0) rest)
    at-runs_lem =
        behind_tag_lem ∙ ap read_runs (right.goes b tag)
        ∙ (λ i. read_end (read_units (replicate (sym counts i) run_unit) (draft v b tag (sym is i) (sym counts i) [] 0) (sym behind i)))

    -- a run is refused
    pub third_refused : (r : ℕ) → RunUnitsSay n count rest (Err r) → saved_read file ≡ refuses r
    third_refused r h = at-runs_lem ∙ ap read_end (h v b tag count)

    -- bytes follow the last run
    pub trailing_refused : (runs : List Run) → RunsRight n count rest runs → 16 * count < length rest → saved_read file ≡ refuses 30
    trailing_refused runs h more =
        at-runs_lem ∙ ap read_end (h.goes v b tag count ∙ ap (units (draft v b tag n count (take count runs) h.next)) (drop-next rest (16 * count) more))

    -- none do
    pub all_loaded : (runs : List Run) → RunsRight n count rest runs → length rest ≤ 16 * count
        → saved_read file ≡ loads (record { tag = tag; length = n; runs = take count runs })
    all_loaded runs h none =
        at-runs_lem ∙ ap read_end (h.goes v b tag count ∙ ap (units (draft v b tag n count (take count runs) h.next)) (drop_end rest (16 * count) none))

    -- the record with these runs is that of the state
    pub record_is : (runs : List Run) → RunsRight n count rest runs
        → record_with tag n runs count ≡ record_of (record { tag = tag; length = n; runs = take count runs })
    record_is runs h =
        λ i. record_with tag n ((h.blank ∙ ap (λ (j : ℕ). take count runs ++ replicate (max_runs - j) (run 0 0)) (sym h.counted)) i) (sym h.counted i)
