-- Saved copies by examples: numbers in bytes, the bytes of a state, refusals 19 and 20 of saving, and 22 to 30 of loading at both sides of each edge.
use Rattle.std.specs.Prelude.{ℕ, zero, suc, List, [], ◌∷◌, ◌++◌, length, take, replicate}
use Rattle.std.specs.Prelude.{Option, None, Some}
use Rattle.rules_server.specs.Numbers.{value_of, in_bytes}
use Rattle.rules_server.specs.Octets.{codes}
use Rattle.rules_server.specs.declared.Run.{Run}
use Rattle.rules_tablet.specs.Runs.{run}
use Rattle.rules_tablet.specs.SavedCopies.{max_saved, saved_bytes, save_refusal, save_call, SavedRead, loads, refuses, saved_read}
use Rattle.rules_demands.specs.AnchorTables.{Entry, ◌is◌, Agree}
use Rattle.rules_demands.specs.AnchorLimits.{tagged}
use Rattle.rules_demands.specs.AnchorRules.{copy_of, copy_holding}
use Rattle.rules_demands.specs.AnchorSamples.{dots, singles}

-- "all high byte first"
unfoldable pub numbers : List (Entry (List ℕ))
numbers =
    in_bytes 8 72623859790382856 is (1 ∷ 2 ∷ 3 ∷ 4 ∷ 5 ∷ 6 ∷ 7 ∷ 8 ∷ [])
    ∷ in_bytes 2 258 is (1 ∷ 2 ∷ [])
    ∷ in_bytes 1 64 is (64 ∷ [])
    ∷ in_bytes 0 0 is []
    ∷ []

unfoldable pub values : List (Entry ℕ)
values = value_of (1 ∷ 2 ∷ 3 ∷ 4 ∷ 5 ∷ 6 ∷ 7 ∷ 8 ∷ []) is 72623859790382856 ∷ value_of (1 ∷ 2 ∷ []) is 258 ∷ value_of [] is 0 ∷ []

-- under a version the bytes up to the tag `"k"`, and a file behind them: a length, a count of runs, and numbers of runs
abbrev pub under : ℕ → List ℕ → List ℕ
under v l = 72 ∷ 76 ∷ 68 ∷ 0 ∷ v ∷ 3 ∷ 34 ∷ 107 ∷ 34 ∷ l

-- under the version that is written
abbrev pub behind_tag : List ℕ → List ℕ
behind_tag l = under 2 l

-- a number below 256 in eight bytes
abbrev pub small : ℕ → List ℕ
small b = 0 ∷ 0 ∷ 0 ∷ 0 ∷ 0 ∷ 0 ∷ 0 ∷ b ∷ []

-- a copy of 100 bytes under the tag `"k"`, with so many runs, of which these are the bytes
abbrev pub saving_under : (v count : ℕ) → List ℕ → List ℕ
saving_under v count l = under v (small 100 ++ (0 ∷ count ∷ l))

abbrev pub saving : ℕ → List ℕ → List ℕ
saving count l = saving_under 2 count l

abbrev pub run_in : ℕ → ℕ → List ℕ
run_in a b = small a ++ small b

-- k runs of one position, from a on, with one position between neighbours
abbrev pub singles_in : ℕ → ℕ → List ℕ
singles_in a zero = []
singles_in a (suc k) = run_in a a ++ singles_in (suc (suc a)) k

-- the state of 100 bytes under the tag `"k"` with these runs
abbrev pub state : List Run → SavedRead
state runs = loads (copy_holding 100 runs)

-- "The tag follows a one-byte count, the length takes 8 bytes, the runs follow a two-byte count, each as first and last in 8 bytes"
unfoldable pub files : List (Entry (List ℕ))
files =
    saved_bytes (copy_of (codes "\"k1\"") 4328719365 (run 1 258 ∷ run 66051 4328719364 ∷ [])) is (
    72 ∷ 76 ∷ 68 ∷ 0 ∷ 2 ∷ 4 ∷ 34 ∷ 107 ∷ 49 ∷ 34
    ∷ 0 ∷ 0 ∷ 0 ∷ 1 ∷ 2 ∷ 3 ∷ 4 ∷ 5
    ∷ 0 ∷ 2
    ∷ 0 ∷ 0 ∷ 0 ∷ 0 ∷ 0 ∷ 0 ∷ 0 ∷ 1 ∷ 0 ∷ 0 ∷ 0 ∷ 0 ∷ 0 ∷ 0 ∷ 1 ∷ 2
    ∷ 0 ∷ 0 ∷ 0 ∷ 0 ∷ 0 ∷ 1 ∷ 2 ∷ 3 ∷ 0 ∷ 0 ∷ 0 ∷ 1 ∷ 2 ∷ 3 ∷ 4 ∷ 4 ∷ []
    )
    ∷ saved_bytes (copy_of (codes "\"\"") 0 []) is (72 ∷ 76 ∷ 68 ∷ 0 ∷ 2 ∷ 2 ∷ 34 ∷ 34 ∷ 0 ∷ 0 ∷ 0 ∷ 0 ∷ 0 ∷ 0 ∷ 0 ∷ 0 ∷ 0 ∷ 0 ∷ [])
    ∷ []

-- the longest
unfoldable pub longest : List (Entry ℕ)
longest = max_saved is 2128 ∷ length (saved_bytes (copy_of (tagged 62) 300 (singles 0 128))) is 2128 ∷ []

-- "Writing refuses with 19, then 20 for a short buffer"
unfoldable pub saves : List (Entry (Option ℕ))
saves =
    save_refusal (copy_holding 100 []) 19 is None
    ∷ save_refusal (copy_holding 100 []) 18 is Some 20
    ∷ save_refusal (copy_holding 100 (run 0 3 ∷ [])) 35 is None
    ∷ save_refusal (copy_holding 100 (run 0 3 ∷ [])) 34 is Some 20
    ∷ save_refusal (copy_holding 100 (run 0 3 ∷ run 4 5 ∷ [])) 2128 is Some 19
    ∷ save_refusal (copy_holding 100 (run 0 100 ∷ [])) 0 is Some 19
    ∷ save_refusal (copy_holding 300 (singles 0 129)) 3000 is Some 19
    ∷ []

-- "bytes beyond stay", and all where it is refused
unfoldable pub buffers : List (Entry (List ℕ))
buffers =
    save_call (copy_holding 100 []) (dots 21) is (saving 0 [] ++ dots 2)
    ∷ save_call (copy_holding 100 []) (dots 19) is saving 0 []
    ∷ save_call (copy_holding 100 []) (dots 18) is dots 18
    ∷ save_call (copy_holding 100 (run 0 100 ∷ [])) (dots 40) is dots 40
    ∷ []

-- "Each field, count or single run is judged once whole, from the front, lower number first"
unfoldable pub marks : List (Entry SavedRead)
marks =
    saved_read [] is refuses 29
    ∷ saved_read (codes "HX") is refuses 29
    ∷ saved_read (codes "HLX") is refuses 22
    ∷ saved_read (codes "hld") is refuses 22
    ∷ saved_read (codes "HLD") is refuses 29
    -- "version 2 .. version 1 files still load"
    ∷ saved_read (codes "HLD" ++ (0 ∷ [])) is refuses 29
    ∷ saved_read (codes "HLD" ++ (0 ∷ 0 ∷ [])) is refuses 23
    ∷ saved_read (codes "HLD" ++ (0 ∷ 1 ∷ [])) is refuses 29
    ∷ saved_read (codes "HLD" ++ (0 ∷ 2 ∷ [])) is refuses 29
    ∷ saved_read (codes "HLD" ++ (0 ∷ 3 ∷ [])) is refuses 23
    ∷ saved_read (codes "HLD" ++ (1 ∷ 0 ∷ [])) is refuses 23
    ∷ saved_read (codes "HLD" ++ (1 ∷ 1 ∷ [])) is refuses 23
    ∷ saved_read (codes "HLD" ++ (1 ∷ 2 ∷ [])) is refuses 23
    ∷ []

unfoldable pub tags : List (Entry SavedRead)
tags =
    -- "a tag count over 64"
    saved_read (codes "HLD" ++ (0 ∷ 2 ∷ 65 ∷ [])) is refuses 24
    ∷ saved_read (codes "HLD" ++ (0 ∷ 2 ∷ 64 ∷ [])) is refuses 29
    ∷ saved_read (codes "HLD" ++ (0 ∷ 2 ∷ 0 ∷ [])) is refuses 24
    ∷ saved_read (codes "HLD" ++ (0 ∷ 2 ∷ 1 ∷ [])) is refuses 29
    ∷ saved_read (codes "HLD" ++ (0 ∷ 2 ∷ 1 ∷ 34 ∷ [])) is refuses 24
    -- "or tag not strong"
    ∷ saved_read (codes "HLD" ++ (0 ∷ 2 ∷ 5 ∷ codes "W/\"k\"")) is refuses 24
    ∷ saved_read (codes "HLD" ++ (0 ∷ 2 ∷ 5 ∷ codes "W/\"k")) is refuses 29
    ∷ saved_read (codes "HLD" ++ (0 ∷ 2 ∷ 2 ∷ codes "\"\"")) is refuses 29
    ∷ saved_read (codes "HLD" ++ (0 ∷ 2 ∷ 64 ∷ (tagged 62 ++ (small 0 ++ (0 ∷ 0 ∷ []))))) is loads (copy_of (tagged 62) 0 [])
    ∷ []

unfoldable pub lengths : List (Entry SavedRead)
lengths =
    -- "a length over limit 2"
    saved_read (behind_tag (0 ∷ 0 ∷ 1 ∷ 0 ∷ 0 ∷ 0 ∷ 0 ∷ 0 ∷ 0 ∷ 0 ∷ [])) is loads (copy_holding 1099511627776 [])
    ∷ saved_read (behind_tag (0 ∷ 0 ∷ 1 ∷ 0 ∷ 0 ∷ 0 ∷ 0 ∷ 1 ∷ [])) is refuses 25
    ∷ saved_read (behind_tag (replicate 8 255)) is refuses 25
    ∷ saved_read (behind_tag (replicate 7 255)) is refuses 29
    ∷ saved_read (behind_tag (small 100)) is refuses 29
    -- "too many runs"
    ∷ saved_read (behind_tag (small 100 ++ (0 ∷ []))) is refuses 29
    ∷ saved_read (saving 0 []) is state []
    ∷ saved_read (saving 128 []) is refuses 29
    ∷ saved_read (saving 129 []) is refuses 26
    ∷ saved_read (behind_tag (small 100 ++ (1 ∷ 0 ∷ []))) is refuses 26
    ∷ []

unfoldable pub runs : List (Entry SavedRead)
runs =
    saved_read (saving 1 (run_in 0 99)) is state (run 0 99 ∷ [])
    ∷ saved_read (saving 1 (run_in 5 5)) is state (run 5 5 ∷ [])
    -- "backward, disordered or touching runs"
    ∷ saved_read (saving 1 (run_in 5 4)) is refuses 27
    ∷ saved_read (saving 2 (run_in 0 3 ++ run_in 5 9)) is state (run 0 3 ∷ run 5 9 ∷ [])
    ∷ saved_read (saving 2 (run_in 0 3 ++ run_in 4 9)) is refuses 27
    ∷ saved_read (saving 2 (run_in 5 9 ++ run_in 0 3)) is refuses 27
    ∷ saved_read (saving 2 (run_in 0 3 ++ run_in 3 9)) is refuses 27
    -- "a run past the length"
    ∷ saved_read (saving 1 (run_in 0 100)) is refuses 28
    ∷ saved_read (saving 1 (run_in 101 100)) is refuses 27
    ∷ saved_read (saving 2 (run_in 0 3 ++ run_in 4 100)) is refuses 27
    ∷ saved_read (saving 2 (run_in 0 100 ++ run_in 5 4)) is refuses 28
    ∷ saved_read (saving 2 (run_in 5 4)) is refuses 27
    ∷ saved_read (behind_tag (small 0 ++ (0 ∷ 1 ∷ run_in 0 0))) is refuses 28
    -- "a file cut short and trailing bytes"
    ∷ saved_read (saving 1 []) is refuses 29
    ∷ saved_read (saving 1 (take 15 (run_in 5 4))) is refuses 29
    ∷ saved_read (saving 2 (run_in 0 3)) is refuses 29
    ∷ saved_read (saving 0 (0 ∷ [])) is refuses 30
    ∷ saved_read (saving 1 (run_in 0 3 ++ (9 ∷ []))) is refuses 30
    ∷ saved_read (saving 1 (run_in 0 3 ++ run_in 5 9)) is refuses 30
    ∷ []

-- "version 1 files still load, 26 coming above 32 runs"; "up to 128 runs under version 2"
unfoldable pub versions : List (Entry SavedRead)
versions =
    saved_read (saving_under 1 1 (run_in 5 9)) is state (run 5 9 ∷ [])
    ∷ saved_read (saving_under 1 32 (singles_in 0 32)) is state (singles 0 32)
    ∷ saved_read (saving_under 1 32 []) is refuses 29
    ∷ saved_read (saving_under 1 33 []) is refuses 26
    ∷ saved_read (saving_under 1 33 (singles_in 0 33)) is refuses 26
    ∷ saved_read (saving 33 (singles_in 0 33)) is state (singles 0 33)
    ∷ saved_read (saving_under 1 1 (run_in 0 3 ++ (9 ∷ []))) is refuses 30
    ∷ []

pub record SavedAre : Type 0 where
  pub numbers : Agree numbers
  pub values : Agree values
  pub files : Agree files
  pub longest : Agree longest
  pub saves : Agree saves
  pub buffers : Agree buffers
  pub marks : Agree marks
  pub tags : Agree tags
  pub lengths : Agree lengths
  pub runs : Agree runs
  pub versions : Agree versions
