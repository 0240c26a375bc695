-- A list of runs in bytes: "It keeps the held positions as at most 32 maximal runs", 128 since 2026-04. The count in eight bytes, then for each run its first
-- and its last position in eight bytes each, every number with its most significant byte first; unused runs are zero.
use Rattle.std.specs.Prelude.{ℕ, zero, suc, ◌-◌, ◌≡◌, Bool, true, false, cond, ◌&&◌, List, [], ◌∷◌, ◌++◌, eqb, length, drop, replicate, Result, Ok, Err}
use Rattle.rules_server.specs.Limits.{max_tag}
use Rattle.rules_server.specs.Octets.{codes}
use Rattle.rules_server.specs.declared.Run.{Run}
use Rattle.rules_tablet.specs.Limits.{max_runs}
use Rattle.rules_tablet.specs.Runs.{run}
use Rattle.rules_tablet.specs.Copies.{tag_of, runs_of, fresh_copy, copy_rule}
use Rattle.rules_tablet.specs.declared.Copy.{Copy}
use Rattle.copy.specs.States.{state_of, opened_copy}
unfoldable pub use Rattle.octets.specs.Numbers.{number_at}
pub use Rattle.octets.specs.Numbers.{eight}
pub use Rattle.rules_tablet.specs.SavedCopies.{runs_bytes}
pub use Rattle.copy_bytes.specs.Sizes.{runs_size}

-- the run whose numbers stand at the front
abbrev pub run_from : List ℕ → Run
run_from l = run (number_at l 0) (number_at l 8)

-- the first k runs, sixteen bytes each
unfoldable pub runs_from : ℕ → List ℕ → List Run
runs_from zero l = []
runs_from (suc k) l = run_from l ∷ runs_from k (drop 16 l)

-- the list of these runs, and zeros for those that are not used
unfoldable pub list_bytes : List Run → List ℕ
list_bytes rs = eight (length rs) ++ runs_bytes (rs ++ replicate (max_runs - length rs) (run 0 0))

-- the record of a copy that a tag, a length and a list of runs mean
abbrev pub copy_in : List ℕ → ℕ → List ℕ → Copy
copy_in tag n list = record {
  tag = tag ++ replicate (max_tag - length tag) 0;
  tag_len = length tag;
  length = n;
  runs = runs_from max_runs (drop 8 list);
  count = number_at list 0;
}

-- they are a copy: the list has its size, and the record keeps its rule (docs/RECORDS.md)
unfoldable pub is_copy : List ℕ → ℕ → List ℕ → Bool
is_copy tag n list = eqb (length list) runs_size && copy_rule (copy_in tag n list)

-- the copy that they mean, or 19 where they are none
unfoldable pub listed : List ℕ → ℕ → List ℕ → Result Copy ℕ
listed tag n list = cond (is_copy tag n list) (Ok (copy_in tag n list)) (Err 19)

-- they are a copy, and it is the one that they mean, whose record keeps its rule
pub record ListedAs (tag : List ℕ) (n : ℕ) (list : List ℕ) (c : Copy) : Type 0 where
  pub a_copy : is_copy tag n list ≡ true
  pub rule : copy_rule c ≡ true
  pub is : c ≡ copy_in tag n list

abbrev pub ListedOr19 : List ℕ → ℕ → List ℕ → Result Copy ℕ → Type 0
ListedOr19 tag n list (Ok c) = ListedAs tag n list c
ListedOr19 tag n list (Err k) = (is_copy tag n list ≡ false) × (k ≡ 19)

-- so exactly where they are a copy, else 19; the record of the copy that a caller then has keeps its rule: it is the copy that they mean, or the fresh copy of
-- the tag `""` and length 0
pub record Listing (tag : List ℕ) (n : ℕ) (list : List ℕ) (r : Result Copy ℕ) : Type 0 where
  pub cases : ListedOr19 tag n list r
  pub rule : copy_rule (opened_copy r) ≡ true
  pub is : is_copy tag n list ≡ true → opened_copy r ≡ copy_in tag n list
  pub none : is_copy tag n list ≡ false → state_of (opened_copy r) ≡ record { tag = codes "\"\""; length = 0; runs = [] }

abbrev pub ListsAlways : Type 0
ListsAlways = (tag : List ℕ) (n : ℕ) (list : List ℕ) → Listing tag n list (listed tag n list)

-- the list of a copy's runs, with its tag and its length, means this copy; arrays have their lengths
abbrev pub ReadsBack : Type 0
ReadsBack = (c : Copy) → length c.tag ≡ max_tag → length c.runs ≡ max_runs → copy_rule c ≡ true → copy_in (tag_of c) c.length (list_bytes (runs_of c)) ≡ c
