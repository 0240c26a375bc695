-- Demand 3 after loading (document 02, 2026-02): "After loading, demand 3 holds if the data file's bytes at the held positions are as they were when saved".
-- Two sessions end to end, with a night between them; and a session behind a file of any version that loads (2026-04: "version 1 files still load").
use Rattle.std.specs.Prelude.{ℕ, ◌-◌, ◌≤◌, ◌≡◌, true, List, length, get_or, take}
use Rattle.std.specs.Prelude.{None}
use Rattle.rules_tablet.specs.Limits.{max_runs}
use Rattle.rules_tablet.specs.Runs.{member}
use Rattle.rules_tablet.specs.SavedCopies.{saved_under, saved_bytes, max_saved, save_refusal, save_call, loads, saved_read}
use Rattle.rules_demands.specs.Demand3Arrivals.{Set}
use Rattle.rules_demands.specs.Demand3Sessions.{Calls, Sources, Session, begun, run_asks, run_calls}
use Rattle.rules_demands.specs.Demand3.{Start, held_at, held_after, EachSaid, Not19, ToldAll, Kept, TwoAnswers, Demand3}
use Rattle.rules_demands.specs.Demand3Corollary.{NeverMixed}
use Rattle.rules_demands.specs.SavedRefusals.{Version, number, runs_in}

-- the night between the end e of a session and the beginning m of another: the copy was saved, the bytes that were written were loaded, and the data came back
pub record Night (e m : Session) : Type 0 where
  -- the buffer that the copy was saved into, and that it was
  pub out : List ℕ
  pub saved : save_refusal e.copy (length out) ≡ None
  -- what its bytes were loaded as
  pub loaded : saved_read (take (length (saved_bytes e.copy)) (save_call e.copy out)) ≡ loads m.copy
  -- "a data buffer" of the copy: the data file has its length
  pub buffer_length : length m.buffer ≡ length e.buffer
  -- the premise: "the data file's bytes at the held positions are as they were when saved"; the others are any
  pub as_saved : (p : ℕ) → member p e.copy.runs ≡ true → get_or m.buffer p 0 ≡ get_or e.buffer p 0

-- the positions that were held when the copy was saved
abbrev pub held_overnight : (file tag : List ℕ) (s : Session) (cs : Calls) → Sources file tag cs.answers → Set
held_overnight file tag s cs ss = held_after file tag cs.answers ss (held_at s)

-- the second session: the calls ds from m on
pub record Resumed (file tag : List ℕ) (m : Session) (set : Set) (ds : Calls) (ts : Sources file tag ds.answers) : Type 0 where
  -- the loaded copy with its data is such a start, with the same set of positions
  pub starts : Start file tag m
  pub same : held_at m ≡ set
  -- every conclusion of demand 3, from that set on
  pub kept : Kept file tag m (held_after file tag ds.answers ts set) (run_calls ds m)
  pub told : ToldAll file tag ds.answers ts set (run_asks ds.asks m)
  pub asks_never : EachSaid Not19 (run_asks ds.asks (begun m)).said
  pub two : length (run_calls ds m).copy.runs ≤ max_runs - 1 → TwoAnswers file tag (run_calls ds m)
  pub mixed : NeverMixed file tag (run_calls ds m)

-- both sessions, end to end: the calls cs, the night, the calls ds
pub record Overnight (file tag : List ℕ) (s : Session) (cs : Calls) (ss : Sources file tag cs.answers) (m : Session) (ds : Calls)
    (ts : Sources file tag ds.answers) : Type 0 where
  pub evening : Demand3 file tag s cs ss
  -- what was loaded is the copy that was saved
  pub loads : m.copy ≡ (run_calls cs s).copy
  pub morning : Resumed file tag m (held_overnight file tag s cs ss) ds ts

abbrev pub Demand3Overnight : Type 0
Demand3Overnight = (file tag : List ℕ) (s : Session) (cs : Calls) (ss : Sources file tag cs.answers) (m : Session) (ds : Calls)
    (ts : Sources file tag ds.answers) → Start file tag s → Night (run_calls cs s) m → Overnight file tag s cs ss m ds ts

-- the night is possible: a copy of such a session is saved into every buffer of max_saved bytes or more, and loaded from it as it was
pub record Saves (e : Session) : Type 0 where
  pub written : (out : List ℕ) → max_saved ≤ length out → save_refusal e.copy (length out) ≡ None
  pub loaded : (out : List ℕ) → save_refusal e.copy (length out) ≡ None
      → saved_read (take (length (saved_bytes e.copy)) (save_call e.copy out)) ≡ loads e.copy

abbrev pub SavesAlways : Type 0
SavesAlways = (file tag : List ℕ) (s : Session) (cs : Calls) → Sources file tag cs.answers → Start file tag s → Saves (run_calls cs s)

-- a file under any version that loads, of the copy of a session e, was loaded as the copy of a session m, and the data came back. What calls led to e does not
-- matter.
pub record Reloaded (e m : Session) : Type 0 where
  pub version : Version
  pub few : length e.copy.runs ≤ runs_in version
  pub loaded : saved_read (saved_under (number version) e.copy) ≡ loads m.copy
  pub buffer_length : length m.buffer ≡ length e.buffer
  pub as_saved : (p : ℕ) → member p e.copy.runs ≡ true → get_or m.buffer p 0 ≡ get_or e.buffer p 0

-- what was loaded is the copy that was saved, and demand 3 holds of the calls behind it
abbrev pub Demand3Reloaded : Type 0
Demand3Reloaded = (file tag : List ℕ) (e m : Session) (ds : Calls) (ts : Sources file tag ds.answers) → Start file tag e → Reloaded e m
    → (m.copy ≡ e.copy) × Resumed file tag m (held_at e) ds ts
