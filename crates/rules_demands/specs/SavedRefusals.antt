-- When a saved copy is loaded, and by which number it is refused (document 02, 2026-02 and 2026-04): a table of clauses over the bytes of a file, apart from
-- the reading.
-- "Bad mark, unknown version, a tag count over 64 or tag not strong, a length over limit 2, too many runs, backward, disordered or touching runs, a run past
-- the length, a file cut short and trailing bytes are refusals 22 to 30 in that order."
use Rattle.std.specs.Prelude.{ℕ, suc, ◌≤◌, ◌<◌, ◌≡◌, ◌↔◌, true, false, List, [], ◌∷◌, ◌++◌, length, get_or, take, drop}
use Rattle.rules_server.specs.Limits.{max_file, max_tag}
use Rattle.rules_server.specs.Numbers.{in_bytes, AreBytes}
use Rattle.rules_server.specs.Octets.{codes}
use Rattle.rules_server.specs.Tags.{is_strong}
use Rattle.rules_server.specs.declared.Run.{Run}
use Rattle.rules_tablet.specs.Limits.{max_runs, version_one_runs}
use Rattle.rules_tablet.specs.Runs.{WellFormed}
use Rattle.rules_tablet.specs.Calls.{State, copy_ok}
use Rattle.rules_tablet.specs.SavedCopies.{runs_bytes, saved_under, saved_bytes, max_saved, loads, refuses, saved_read}

-- the versions that load: "version 2, laid out alike, which is now written; version 1 files still load"
pub data Version : Type 0 where
  one : Version
  two : Version

abbrev pub number : Version → ℕ
number one = 1
number two = 2

-- the most runs in its files: "up to 128 runs under version 2", "version 1 .. 26 coming above 32 runs"
abbrev pub runs_in : Version → ℕ
runs_in one = version_one_runs
runs_in two = max_runs

-- where a unit begins, with what the units before it say
pub data SavedPlace : Type 0 where
  at_mark : SavedPlace
  at_version : SavedPlace
  -- behind a version
  at_tag_count : Version → SavedPlace
  -- and a tag of so many bytes
  at_tag : Version → ℕ → SavedPlace
  -- behind a tag; behind a tag and a length
  at_length : Version → List ℕ → SavedPlace
  at_run_count : Version → List ℕ → ℕ → SavedPlace
  -- behind a tag, a length, a count of runs, and these runs
  at_run : Version → List ℕ → ℕ → ℕ → List Run → SavedPlace

-- the bytes before a place
abbrev pub bytes_before : SavedPlace → List ℕ
bytes_before at_mark = []
bytes_before at_version = codes "HLD"
bytes_before (at_tag_count v) = codes "HLD" ++ (0 ∷ number v ∷ [])
bytes_before (at_tag v k) = codes "HLD" ++ (0 ∷ number v ∷ k ∷ [])
bytes_before (at_length v tag) = codes "HLD" ++ (0 ∷ number v ∷ length tag ∷ tag)
bytes_before (at_run_count v tag n) = codes "HLD" ++ (0 ∷ number v ∷ length tag ∷ (tag ++ in_bytes 8 n))
bytes_before (at_run v tag n count rs) = codes "HLD" ++ (0 ∷ number v ∷ length tag ∷ (tag ++ (in_bytes 8 n ++ (in_bytes 2 count ++ runs_bytes rs))))

-- what the units before a place say is right
abbrev pub RightTag : List ℕ → Type 0
RightTag tag = (length tag ≤ max_tag) × (is_strong tag ≡ true)

abbrev pub RightBefore : SavedPlace → Type 0
RightBefore at_mark = Unit {0}
RightBefore at_version = Unit {0}
RightBefore (at_tag_count v) = Unit {0}
RightBefore (at_tag v k) = k ≤ max_tag
RightBefore (at_length v tag) = RightTag tag
RightBefore (at_run_count v tag n) = RightTag tag × (n ≤ max_file)
RightBefore (at_run v tag n count rs) = RightTag tag × (n ≤ max_file) × (count ≤ runs_in v) × (length rs ≤ count) × WellFormed 0 n rs

-- how many bytes the unit at a place has
abbrev pub size_at : SavedPlace → ℕ
size_at at_mark = 3
size_at at_version = 2
size_at (at_tag_count v) = 1
size_at (at_tag v k) = k
size_at (at_length v tag) = 8
size_at (at_run_count v tag n) = 2
size_at (at_run v tag n count rs) = 16

-- a unit is still to come: where all runs have come there is none
abbrev pub UnitComes : SavedPlace → Type 0
UnitComes at_mark = Unit {0}
UnitComes at_version = Unit {0}
UnitComes (at_tag_count v) = Unit {0}
UnitComes (at_tag v k) = Unit {0}
UnitComes (at_length v tag) = Unit {0}
UnitComes (at_run_count v tag n) = Unit {0}
UnitComes (at_run v tag n count rs) = length rs < count

-- the run r does not follow the runs: it ends before it begins, or begins before the last of them has ended, or straight behind it
pub data OutOfOrder : List Run → Run → Type 0 where
  backward : (rs : List Run) (r : Run) → r.last < r.first → OutOfOrder rs r
  behind_last : (rs : List Run) (q r : Run) → r.first ≤ suc q.last → OutOfOrder (rs ++ (q ∷ [])) r

-- the table: at a place, the unit that the bytes behind it begin with, what is wrong with it, and the number
pub data Refuses : SavedPlace → List ℕ → ℕ → Type 0 where
  bad_mark : (u l : List ℕ) → length u ≡ 3 → (u ≡ codes "HLD" → ⊥) → Refuses at_mark (u ++ l) 22
  unknown_version : (u l : List ℕ) → length u ≡ 2 → ((v : Version) → u ≡ 0 ∷ number v ∷ [] → ⊥) → Refuses at_version (u ++ l) 23
  long_tag : (v : Version) (k : ℕ) (l : List ℕ) → max_tag < k → Refuses (at_tag_count v) (k ∷ l) 24
  no_strong_tag : (v : Version) (u l : List ℕ) → is_strong u ≡ false → Refuses (at_tag v (length u)) (u ++ l) 24
  long_file : (v : Version) (tag : List ℕ) (n : ℕ) (l : List ℕ) → n < 18446744073709551616 → max_file < n → Refuses (at_length v tag) (in_bytes 8 n ++ l) 25
  many_runs : (v : Version) (tag : List ℕ) (n k : ℕ) (l : List ℕ) → k < 65536 → runs_in v < k → Refuses (at_run_count v tag n) (in_bytes 2 k ++ l) 26
  bad_run : (v : Version) (tag : List ℕ) (n count : ℕ) (rs : List Run) (r : Run) (l : List ℕ) → length rs < count → r.first < 18446744073709551616
      → r.last < 18446744073709551616 → OutOfOrder rs r → Refuses (at_run v tag n count rs) (in_bytes 8 r.first ++ (in_bytes 8 r.last ++ l)) 27
  past_length : (v : Version) (tag : List ℕ) (n count : ℕ) (rs : List Run) (r : Run) (l : List ℕ) → length rs < count → r.first < 18446744073709551616
      → r.last < 18446744073709551616 → (OutOfOrder rs r → ⊥) → n ≤ r.last
      → Refuses (at_run v tag n count rs) (in_bytes 8 r.first ++ (in_bytes 8 r.last ++ l)) 28
  cut_short : (p : SavedPlace) (l : List ℕ) → UnitComes p → length l < size_at p → Refuses p l 29
  trailing : (v : Version) (tag : List ℕ) (n : ℕ) (rs : List Run) (b : ℕ) (l : List ℕ) → Refuses (at_run v tag n (length rs) rs) (b ∷ l) 30

-- refused by k at some place, every unit before it being right
pub record RefusedAt (file : List ℕ) (k : ℕ) : Type 0 where
  pub place : SavedPlace
  pub right : RightBefore place
  pub rest : List ℕ
  pub is : file ≡ bytes_before place ++ rest
  pub refuses : Refuses place rest k

-- a file is the bytes of a state that keeps the copy's rule, under a version, with no more runs than its files may have
pub record FileOf (c : State) (file : List ℕ) : Type 0 where
  pub rule : copy_ok c ≡ true
  pub version : Version
  pub few : length c.runs ≤ runs_in version
  pub is : file ≡ saved_under (number version) c

-- what a file of bytes is read as
pub record LoadsExactly (file : List ℕ) : Type 0 where
  -- refused by a number exactly when the table says so
  pub refused : (k : ℕ) → (saved_read file ≡ refuses k) ↔ RefusedAt file k
  -- loaded as a state exactly when it is the bytes of that state
  pub loaded : (c : State) → (saved_read file ≡ loads c) ↔ FileOf c file

abbrev pub LoadsExactlyAlways : Type 0
LoadsExactlyAlways = (file : List ℕ) → AreBytes file → LoadsExactly file

-- a file with the version that is written, all else the same
abbrev pub renewed : List ℕ → List ℕ
renewed file = take 4 file ++ (2 ∷ drop 5 file)

-- the state is that which was saved; one set of bytes for one state
pub record SavesOnce : Type 0 where
  pub back : (c : State) → copy_ok c ≡ true → saved_read (saved_bytes c) ≡ loads c
  -- under each version
  pub under : (v : Version) (c : State) → copy_ok c ≡ true → length c.runs ≤ runs_in v → saved_read (saved_under (number v) c) ≡ loads c
  -- "one set of bytes holds of what is written": a file of version 2 is written as it was, and one of version 1 as the same under version 2
  pub once : (file : List ℕ) (c : State) → AreBytes file → saved_read file ≡ loads c → get_or file 4 0 ≡ 2 → saved_bytes c ≡ file
  pub anew : (file : List ℕ) (c : State) → AreBytes file → saved_read file ≡ loads c → saved_bytes c ≡ renewed file
  -- which keeps the state
  pub kept : (file : List ℕ) (c : State) → AreBytes file → saved_read file ≡ loads c → saved_read (renewed file) ≡ loads c
  pub unique : (c d : State) → copy_ok c ≡ true → copy_ok d ≡ true → saved_bytes c ≡ saved_bytes d → c ≡ d
  pub bytes : (c : State) → copy_ok c ≡ true → AreBytes (saved_bytes c)
  -- the longest
  pub longest : (c : State) → copy_ok c ≡ true → length (saved_bytes c) ≤ max_saved
