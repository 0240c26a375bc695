-- What the steps of feeding over data say: what a step over the front of a piece makes of the tablet, and how many bytes it takes.
use Rattle.std.specs.Prelude.{ℕ, suc, ◌+◌, ◌-◌, ◌≤◌, ◌<◌, ◌≡◌, true, cond, List, leb, length, set, Option, None, Some}
use Rattle.rules_server.specs.Limits.{max_file}
use Rattle.rules_server.specs.declared.Run.{Run}
use Rattle.rules_tablet.specs.Limits.{max_runs}
use Rattle.rules_tablet.specs.Runs.{WellFormed}
use Rattle.rules_tablet.specs.Copies.{all_blank}
use Rattle.rules_tablet.specs.Parsers.{Parser, at, with_framing, counted_body}
use Rattle.rules_tablet.specs.Feeding.{Tablet}
use Rattle.rules_tablet.specs.declared.Reader.{Reader}
use Rattle.rules_tablet.specs.declared.Stage.{Stage}
use Rattle.rules_tablet.specs.declared.Stage.TheVariants.{Plain, Delimiter, Data, Finished}
use Rattle.copy.specs.declared.runs.RunList.{RunList}
use Rattle.copy.specs.Lists.{runs_in, unused}
use Rattle.copy.specs.Looks.{run_at}
use Rattle.reader_state.specs.declared.ReaderState.{ReaderState}
use Rattle.reader_text.specs.Steps.{Went}
use Rattle.reader.specs.Fitting.{Fitting}
use Rattle.reader.specs.declared.pieces.DataAhead.{DataAhead}
use Rattle.reader.specs.declared.pieces.DataStep.{DataStep}
use Rattle.reader.specs.declared.pieces.RunPlace.{RunPlace}
use Rattle.reader.specs.declared.pieces.RunStep.{RunStep}

-- what is held, with where the parser stands
abbrev pub tablet_on : List Run → List ℕ → Parser → Tablet
tablet_on runs bytes p = record { held = record { runs = runs; bytes = bytes }; parser = p }

-- the reader at another stage, with so many bytes of the body after the next
abbrev pub moved_to : Stage → ℕ → Reader → Reader
moved_to s k r = record {
  stage = s;
  framing = counted_body k;
  line = r.line;
  line_len = r.line_len;
  cr = r.cr;
  head = r.head;
  part = r.part;
  tag = r.tag;
  tag_len = r.tag_len;
  boundary = r.boundary;
  boundary_len = r.boundary_len;
}

-- the reader without its arrays
abbrev pub state_in : Reader → ReaderState
state_in r = record {
  stage = r.stage;
  framing = r.framing;
  line_len = r.line_len;
  cr = r.cr;
  head = r.head;
  part = r.part;
  tag_len = r.tag_len;
  boundary_len = r.boundary_len;
}

-- data that comes next: of a plain body all that is counted may come, of a part what is left
abbrev pub ahead_of : Stage → ℕ → Option DataAhead
ahead_of (Plain next) after = Some (record { stage = Plain next; after = after; next = next; room = suc after })
ahead_of (Data next left) after = Some (record { stage = Data next left; after = after; next = next; room = left })
ahead_of s after = None

-- where the reader stands behind so many bytes of data
abbrev pub behind : Stage → ℕ → ℕ → ℕ → Stage
behind (Plain p) next room taken = cond (leb room taken) Finished (Plain (next + taken))
behind (Data p left) next room taken = cond (leb room taken) (Delimiter 0) (Data (next + taken) (room - taken))
behind s next room taken = s

abbrev pub stage_behind : DataAhead → ℕ → Stage
stage_behind d taken = behind d.stage d.next d.room taken

-- data that comes next where a reader stands, and lies in a copy of n bytes
pub record DataFits (d : DataAhead) (n : ℕ) : Type 0 where
  pub is : ahead_of d.stage d.after ≡ Some d
  pub fitting : Fitting d.stage d.after n

-- runs of the buffer's file, and a piece with a byte
pub record DataReady (l : RunList) (buffer piece : List ℕ) : Type 0 where
  pub formed : WellFormed 0 (length buffer) (runs_in l)
  pub given : 1 ≤ length piece
  pub small : length buffer ≤ max_file

-- what a step over data leaves, for a parser that stands at s with so many bytes of the body after the next
pub record DataIs (l : RunList) (s : Stage) (after : ℕ) (buffer piece : List ℕ) (r : DataStep) (bytes : List ℕ) : Type 0 where
  pub kept : length bytes ≡ length buffer
  pub room : l.count ≤ max_runs → r.runs.count ≤ max_runs
  pub blank : all_blank (unused l) ≡ true → all_blank (unused r.runs) ≡ true
  pub index : r.index < max_runs
  pub went : (tag : List ℕ) (p : Parser) → p.stage ≡ s → p.framing.after ≡ after
      → Went tag (length buffer) piece (tablet_on (runs_in l) buffer p) r.taken
      (tablet_on (runs_in r.runs) bytes (at r.stage (with_framing (counted_body r.after) p)))

-- the next position follows the run at `recent`, of `count`, which ends at `last`, and the bytes wanted end before the run behind it, which begins at `first`,
-- and do not touch it
pub record Follows (recent count last first next wanted : ℕ) : Type 0 where
  pub within : recent < count
  pub behind : next ≡ suc last
  pub apart : suc recent < count → next + wanted < first

-- where there is a run, the last is at `recent` and ends at `last`, and the next position stands behind it and apart from it; and one run more may be held
pub record Begins (recent count last next : ℕ) : Type 0 where
  pub within : 1 ≤ count → suc recent ≡ count
  pub room : count < max_runs
  pub apart : 1 ≤ count → suc last < next

-- the run q at `recent` is made longer, or a run is begun behind all
pub data Placed (recent count : ℕ) (q x : Run) (next wanted : ℕ) (r : RunPlace) : Type 0 where
  follows : Follows recent count q.last x.first next wanted → r ≡ record { index = recent; first = q.first; count = count }
      → Placed recent count q x next wanted r
  begins : Begins recent count q.last next → r ≡ record { index = count; first = next; count = count + 1 } → Placed recent count q x next wanted r

-- the runs with q at i, so many
abbrev pub with : RunList → ℕ → Run → ℕ → RunList
with l i q n = record { runs = set l.runs i q; count = n }

-- what a step that makes the run q at `recent` longer, or begins one behind all, leaves, of any runs that have q there, and x behind it: what a step over data
-- leaves
pub record RunGoes (recent count : ℕ) (q x : Run) (s : Stage) (after : ℕ) (buffer piece : List ℕ) (r : RunStep) (bytes : List ℕ) : Type 0 where
  pub far : r.end ≤ length piece
  pub taken : (l : RunList) → l.count ≡ count → count ≤ max_runs → length l.runs ≡ max_runs → q ≡ run_at l.runs recent
      → (suc recent < count → x ≡ run_at l.runs (suc recent))
      → DataReady l buffer piece
      → DataIs l s after buffer piece (record {
        runs = with l r.index r.run r.count;
        stage = r.stage;
        after = r.after;
        taken = r.taken;
        index = r.index;
      }) bytes

-- or nothing is changed
abbrev pub RunIs : ℕ → ℕ → Run → Run → Stage → ℕ → List ℕ → List ℕ → Option RunStep → List ℕ → Type 0
RunIs recent count q x s after buffer piece (Some r) bytes = RunGoes recent count q x s after buffer piece r bytes
RunIs recent count q x s after buffer piece None bytes = bytes ≡ buffer
