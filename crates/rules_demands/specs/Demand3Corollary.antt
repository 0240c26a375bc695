-- Demand 3 in the user's words: after any such list no held byte differs from the file, and complete is never said with a hole; and what opening returns is
-- such a start.
use Rattle.std.specs.Prelude.{ℕ, ◌≡◌, true, false, List, [], length, get_or}
use Rattle.std.specs.Prelude.{Some}
use Rattle.rules_tablet.specs.Runs.{member}
use Rattle.rules_tablet.specs.Copies.{bad_opening}
use Rattle.rules_tablet.specs.Calls.{opened, fresh, complete_call}
use Rattle.rules_demands.specs.Demand3Sessions.{Calls, Sources, Session, run_calls}
use Rattle.rules_demands.specs.Demand3.{Start}

-- no held byte differs from the file's, whatever the other answers were; complete only with every byte of the file
pub record NeverMixed (file tag : List ℕ) (e : Session) : Type 0 where
  pub held : (p : ℕ) → member p e.copy.runs ≡ true → get_or e.buffer p 0 ≡ get_or file p 0
  pub whole : complete_call e.copy ≡ Some true → e.buffer ≡ file

abbrev pub NeverMixedHolds : Type 0
NeverMixedHolds = (file tag : List ℕ) (s : Session) (cs : Calls) → Sources file tag cs.answers → Start file tag s → NeverMixed file tag (run_calls cs s)

-- a session with what opening returns, for a buffer that holds any bytes
abbrev pub opened_session : List ℕ → ℕ → List ℕ → Session
opened_session tag n buffer = record { copy = opened tag n (length buffer); buffer = buffer; reader = fresh; said = [] }

abbrev pub OpeningStarts : Type 0
OpeningStarts = (file tag buffer : List ℕ) → bad_opening tag (length file) (length buffer) ≡ false → Start file tag (opened_session tag (length file) buffer)
