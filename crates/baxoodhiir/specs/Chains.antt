-- What a read leaves is a copy again, and so is what was saved and loaded, so that calls can follow one another.
use Rattle.std.specs.Prelude.{ℕ, ◌-◌, ◌≡◌, true, List, ◌++◌, length, take, replicate, Ok}
use Rattle.rules_server.specs.Limits.{max_tag}
use Rattle.copy.specs.States.{state_of}
use Rattle.copy_bytes.specs.Lists.{copy_in, is_copy}
use Rattle.baxoodhiir.specs.Saves.{save_said, save_left, CopyMemory, is_memory, load_said, load_left}
use Rattle.baxoodhiir.specs.Reads.{is_readable, whole_call, read_runs}

-- what a read leaves is a copy again, in the state that feeding leaves
pub record Chained (tag : List ℕ) (n : ℕ) (list buffer answer : List ℕ) : Type 0 where
  pub copy : is_copy tag n (read_runs tag n list buffer answer) ≡ true
  pub state : state_of (copy_in tag n (read_runs tag n list buffer answer)) ≡ (whole_call (copy_in tag n list) buffer answer).copy

abbrev pub ChainsAlways : Type 0
ChainsAlways = (tag : List ℕ) (n : ℕ) (list buffer answer : List ℕ) → is_readable tag n list buffer ≡ true → Chained tag n list buffer answer

-- a copy that was saved, k bytes of a saved file, is loaded again: nothing is refused, and the memory holds its tag, its length and a list that means it
pub record SavedChained (tag : List ℕ) (n : ℕ) (list out : List ℕ) (k : ℕ) (m : CopyMemory) : Type 0 where
  pub says : load_said (take k (save_left tag n list out)) m ≡ 0
  pub tag_is : (load_left (take k (save_left tag n list out)) m).tag ≡ tag ++ replicate (max_tag - length tag) 0
  pub tag_length : (load_left (take k (save_left tag n list out)) m).tag_length ≡ length tag
  pub length_is : (load_left (take k (save_left tag n list out)) m).length ≡ n
  pub copy : is_copy tag n (load_left (take k (save_left tag n list out)) m).runs ≡ true
  pub same : copy_in tag n (load_left (take k (save_left tag n list out)) m).runs ≡ copy_in tag n list

abbrev pub SavedChainsAlways : Type 0
SavedChainsAlways = (tag : List ℕ) (n : ℕ) (list out : List ℕ) (k : ℕ) (m : CopyMemory) → save_said tag n list (length out) ≡ Ok k → is_memory m ≡ true
    → SavedChained tag n list out k m
