-- The state that a copy's record means, and what the functions on a copy say.
use Rattle.std.specs.Prelude.{ℕ, ◌≤◌, ◌≡◌, Bool, true, false, cond, List, length, drop}
use Rattle.std.specs.Prelude.{Option, None, Some, Result, Ok, Err}
use Rattle.rules_server.specs.declared.Run.{Run}
use Rattle.rules_server.specs.Limits.{max_file, max_tag}
use Rattle.rules_server.specs.Octets.{all}
use Rattle.rules_server.specs.Tags.{is_strong}
use Rattle.rules_tablet.specs.Limits.{max_runs}
use Rattle.rules_tablet.specs.Runs.{WellFormed}
use Rattle.rules_tablet.specs.Copies.{tag_of, runs_of, fresh_copy, is_zero, all_blank, copy_rule, bad_opening}
use Rattle.rules_tablet.specs.Calls.{State, opened, complete_call}
use Rattle.rules_tablet.specs.declared.Copy.{Copy}

-- what a copy's record means
abbrev pub state_of : Copy → State
state_of c = record { tag = tag_of c; length = c.length; runs = runs_of c }

-- a copy that is opened: the fresh copy of the state that the definition gives
pub record Opens (tag : List ℕ) (n room : ℕ) (c : Copy) : Type 0 where
  pub right : bad_opening tag n room ≡ false
  pub state : state_of c ≡ opened tag n room
  pub rule : copy_rule c ≡ true

-- the copy that a caller then has: the one that is opened, or else a fresh one
abbrev pub opened_copy : Result Copy ℕ → Copy
opened_copy (Ok c) = c
opened_copy (Err k) = fresh_copy

-- a copy that is not opened: 19, and a fresh copy is of the state that the definition gives
pub record NotOpened (tag : List ℕ) (n room k : ℕ) : Type 0 where
  pub wrong : bad_opening tag n room ≡ true
  pub number : k ≡ 19
  pub state : state_of fresh_copy ≡ opened tag n room
  pub rule : copy_rule fresh_copy ≡ true

-- opening: such a copy, or 19; of both, `opened_copy` is of the state that the definition gives, and its record keeps its rule (OpensAlways)
abbrev pub Opening : List ℕ → ℕ → ℕ → Result Copy ℕ → Type 0
Opening tag n room (Ok c) = Opens tag n room c
Opening tag n room (Err k) = NotOpened tag n room k

-- the copy that a caller has behind opening, whether or not it is refused
pub record OpenedAlways (tag : List ℕ) (n room : ℕ) (r : Result Copy ℕ) : Type 0 where
  pub state : state_of (opened_copy r) ≡ opened tag n room
  pub rule : copy_rule (opened_copy r) ≡ true

abbrev pub OpensAlways : Type 0
OpensAlways = (tag : List ℕ) (n room : ℕ) (r : Result Copy ℕ) → Opening tag n room r → OpenedAlways tag n room r

-- the result of `complete_call`
abbrev pub whether : Option Bool → Result Bool ℕ
whether None = Err 19
whether (Some b) = Ok b

-- whether nothing is missing: 19 for a record that breaks its rule, else by what it means
unfoldable pub completeness : Copy → Result Bool ℕ
completeness c = cond (copy_rule c) (whether (complete_call (state_of c))) (Err 19)

-- runs of a copy are well-formed for n positions
pub record Formed (runs : List Run) (n : ℕ) : Type 0 where
  pub room : length runs ≤ max_runs
  pub below : n ≤ max_file
  pub formed : WellFormed 0 n runs

-- the rule of a copy's record, test by test
pub record CopyKept (c : Copy) : Type 0 where
  pub short : c.tag_len ≤ max_tag
  pub strong : is_strong (tag_of c) ≡ true
  pub zeros : all is_zero (drop c.tag_len c.tag) ≡ true
  pub below : c.length ≤ max_file
  pub few : c.count ≤ max_runs
  pub formed : WellFormed 0 c.length (runs_of c)
  pub blank : all_blank (drop c.count c.runs) ≡ true
