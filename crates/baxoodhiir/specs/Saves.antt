-- What is said of saving and loading a copy that is a tag, a length and a list of runs, in numbers.
use Rattle.std.specs.Prelude.{ℕ, ◌-◌, ◌≡◌, Bool, cond, ◌&&◌, List, ◌++◌, eqb, length, replicate, Result, Err}
use Rattle.rules_server.specs.Limits.{max_tag}
use Rattle.rules_tablet.specs.SavedCopies.{SavedRead, loads, refuses, saved_read}
use Rattle.copy_bytes.specs.Lists.{copy_in, is_copy, list_bytes, runs_size}
use Rattle.copy_bytes.specs.SavedFiles.{save_outcome, save_bytes}
use Rattle.baxoodhiir.specs.Numbers.{number_said, length_said}

-- Saving.

-- 0 of a saved file that is written, or the number of a refusal
abbrev pub saved_number : Result ℕ ℕ → ℕ
saved_number r = number_said r

-- the length of a saved file, 0 of a refusal
abbrev pub saved_length : Result ℕ ℕ → ℕ
saved_length r = length_said r

-- "Writing refuses with 19, then 20 for a short buffer", for a buffer of so many bytes
unfoldable pub save_said : List ℕ → ℕ → List ℕ → ℕ → Result ℕ ℕ
save_said tag n list room = cond (is_copy tag n list) (save_outcome (copy_in tag n list) room) (Err 19)

-- what the buffer then holds
unfoldable pub save_left : List ℕ → ℕ → List ℕ → List ℕ → List ℕ
save_left tag n list out = cond (is_copy tag n list) (save_bytes (copy_in tag n list) out) out

-- all three: the number, the length and the output buffer
pub record SaveIs (tag : List ℕ) (n : ℕ) (list out : List ℕ) (k m : ℕ) (out' : List ℕ) : Type 0 where
  pub says : k ≡ saved_number (save_said tag n list (length out))
  pub written : m ≡ saved_length (save_said tag n list (length out))
  pub writes : out' ≡ save_left tag n list out

-- Loading.

-- the caller's memory for a copy: an array for the tag, the tag's length, the file's length, and a list of runs
pub record CopyMemory : Type 0 where
  pub tag : List ℕ
  pub tag_length : ℕ
  pub length : ℕ
  pub runs : List ℕ

-- the array has the longest tag's size, and the list its own
unfoldable pub is_memory : CopyMemory → Bool
is_memory m = eqb (length m.tag) max_tag && eqb (length m.runs) runs_size

-- 0 of a copy that is loaded, or the number of a refusal
abbrev pub loaded_number : SavedRead → ℕ
loaded_number (loads s) = 0
loaded_number (refuses k) = k

-- 19 of memory of another size, else by what the file is read as
unfoldable pub load_said : List ℕ → CopyMemory → ℕ
load_said file m = cond (is_memory m) (loaded_number (saved_read file)) 19

-- what the memory then holds: the tag with zeros behind it, the lengths and the list of the copy that was read; of a refusal what it held
abbrev pub memory_with : SavedRead → CopyMemory → CopyMemory
memory_with (loads s) m = record {
  tag = s.tag ++ replicate (max_tag - length s.tag) 0;
  tag_length = length s.tag;
  length = s.length;
  runs = list_bytes s.runs;
}
memory_with (refuses k) m = m

unfoldable pub load_left : List ℕ → CopyMemory → CopyMemory
load_left file m = cond (is_memory m) (memory_with (saved_read file) m) m

-- both
pub record LoadIs (file : List ℕ) (m : CopyMemory) (k : ℕ) (m' : CopyMemory) : Type 0 where
  pub says : k ≡ load_said file m
  pub leaves : m' ≡ load_left file m
