-- What is said of an answer that is read into a copy, where the copy is a tag, a length and a list of runs: 19 where they are no copy or the buffer has another
-- length, else the answer fed.
use Rattle.std.specs.Prelude.{ℕ, ◌≡◌, Bool, cond, ◌&&◌, List, eqb, length}
use Rattle.rules_tablet.specs.Calls.{Feeding, feed_call, fresh}
use Rattle.rules_tablet.specs.declared.Copy.{Copy}
use Rattle.rules_tablet.specs.declared.Report.{Report}
use Rattle.rules_tablet.specs.declared.Report.TheVariants.{More, Finished, Refused}
use Rattle.copy.specs.States.{state_of}
use Rattle.copy_bytes.specs.Lists.{copy_in, is_copy, list_bytes}

-- 0 where more is wanted, 100 where the whole answer was read, or the number of a refusal
abbrev pub report_number : Report → ℕ
report_number More = 0
report_number Finished = 100
report_number (Refused k) = k

-- "Feeding: 19 before all else": they are a copy, and the buffer has its length
unfoldable pub is_readable : List ℕ → ℕ → List ℕ → List ℕ → Bool
is_readable tag n list buffer = is_copy tag n list && eqb (length buffer) n

-- the answer fed whole to a fresh reader; how it is split does not matter (`Splits`)
abbrev pub whole_call : Copy → List ℕ → List ℕ → Feeding
whole_call c buffer answer = feed_call (state_of c) fresh buffer answer

-- what is said of the answer, how many of its bytes are taken, and what the list of runs and the buffer then hold; "nothing taken or changed" with 19
unfoldable pub read_number : List ℕ → ℕ → List ℕ → List ℕ → List ℕ → ℕ
read_number tag n list buffer answer = cond (is_readable tag n list buffer) (report_number (whole_call (copy_in tag n list) buffer answer).report) 19

unfoldable pub read_taken : List ℕ → ℕ → List ℕ → List ℕ → List ℕ → ℕ
read_taken tag n list buffer answer = cond (is_readable tag n list buffer) (whole_call (copy_in tag n list) buffer answer).taken 0

unfoldable pub read_runs : List ℕ → ℕ → List ℕ → List ℕ → List ℕ → List ℕ
read_runs tag n list buffer answer = cond (is_readable tag n list buffer) (list_bytes (whole_call (copy_in tag n list) buffer answer).copy.runs) list

unfoldable pub read_buffer : List ℕ → ℕ → List ℕ → List ℕ → List ℕ → List ℕ
read_buffer tag n list buffer answer = cond (is_readable tag n list buffer) (whole_call (copy_in tag n list) buffer answer).buffer buffer

-- all four
pub record ReadIs (tag : List ℕ) (n : ℕ) (list held answer : List ℕ) (k m : ℕ) (list' held' : List ℕ) : Type 0 where
  pub says : k ≡ read_number tag n list held answer
  pub taken : m ≡ read_taken tag n list held answer
  pub runs : list' ≡ read_runs tag n list held answer
  pub buffer : held' ≡ read_buffer tag n list held answer
