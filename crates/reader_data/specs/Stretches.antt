-- What is stored of a piece's bytes for one stretch of positions, held or not.
use Rattle.std.specs.Prelude.{ℕ, suc, ◌+◌, ◌-◌, ◌≤◌, ◌<◌, min, ◌≡◌, Bool, true, false, cond, List, [], ◌∷◌, leb, eqb, length, get_or, take, drop}
use Rattle.std.specs.Prelude.{Option, None, Some, is_none, Result, Ok, Err}
use Rattle.std.proofs.lemmas.List.Edits.{sets}
use Rattle.rules_server.specs.RefusalNumbers.{refused_by}
use Rattle.rules_server.specs.declared.Run.{Run}
use Rattle.rules_tablet.specs.Limits.{max_runs}
use Rattle.rules_tablet.specs.Runs.{member, WellFormed, insert}
use Rattle.rules_tablet.specs.Copies.{all_blank}
use Rattle.laws_runs.specs.Spans.{insert_span}
use Rattle.copy.specs.declared.runs.RunList.{RunList}
use Rattle.copy.specs.declared.runs.Kind.{Kind}
use Rattle.copy.specs.declared.runs.Kind.TheVariants.{InRun}
use Rattle.copy.specs.declared.runs.Standing.{Standing}
use Rattle.copy.specs.Lists.{runs_in, unused, add_run}
use Rattle.copy.specs.Looks.{is_held, is_free, is_apart, look_at}
use Rattle.reader_data.specs.Agreements.{Agrees}
use Rattle.reader_data.specs.declared.Stretch.{Stretch}

-- ---- what a stretch leaves: `Ok` with the runs and how many bytes were taken, or `Err` with the number that refuses the first, which leaves the runs as they were

-- that of a stretch whose first byte is refused by this number, where there is one
abbrev pub said_by : Stretch → Option ℕ → Result Stretch ℕ
said_by s None = Ok s
said_by s (Some k) = Err k

-- that of what the code returns
abbrev pub said : Stretch → Result Stretch ℕ
said s = said_by s (refused_by s.refusal)

-- how many bytes were taken, none where the first is refused
abbrev pub taken_in : Result Stretch ℕ → ℕ
taken_in (Ok s) = s.taken
taken_in (Err k) = 0

-- the runs, those of before where the first is refused
abbrev pub runs_left : RunList → Result Stretch ℕ → RunList
runs_left l (Ok s) = s.runs
runs_left l (Err k) = l

-- the number that refuses the first, where there is one
abbrev pub refusal_in : Result Stretch ℕ → Option ℕ
refusal_in (Ok s) = None
refusal_in (Err k) = Some k

-- what is left of bytes compared with held ones: so many are taken as agree, and where none does 17 refuses the first
pub record Compared (l : RunList) (a b : List ℕ) (r : Result Stretch ℕ) : Type 0 where
  pub agrees : Agrees a b (taken_in r)
  pub is : r ≡ cond (eqb (taken_in r) 0) (Err 17) (Ok (record { runs = l; taken = taken_in r; refusal = None }))

-- how many bytes at the front of two lists agree
abbrev pub alike : List ℕ → List ℕ → ℕ
alike [] b = 0
alike (x ∷ a) [] = 0
alike (x ∷ a) (y ∷ b) = cond (eqb x y) (suc (alike a b)) 0

-- how many runs there are at most with a position of this kind
pub record Counted (kind : Kind) (rs : List Run) (r : ℕ) : Type 0 where
  pub room : length rs ≤ max_runs
  pub is : r ≡ cond (is_apart kind) (suc (length rs)) (length rs)

-- the runs with the k positions from p on as one run
abbrev pub added : ℕ → ℕ → List Run → List Run
added p k rs = cond (eqb k 0) rs (add_run p (p + (k - 1)) rs)

module _ (l : RunList) (buffer : List ℕ) (next : ℕ) (piece : List ℕ) (most : ℕ) where
  -- where the next position stands
  abbrev pub standing : Standing
  standing = look_at (length buffer) next (runs_in l)

  -- how many bytes can be taken at most: those wanted, those given, and those that the buffer has positions for
  abbrev pub offered : ℕ
  offered = min (min most (length piece)) (length buffer - next)

  -- how many positions the stretch has: those of the run that has the next, as far as the bytes agree, or those before the next run
  abbrev pub reach : ℕ
  reach = cond (is_held standing.kind) (min (suc standing.end - next) (alike (drop next buffer) piece)) (standing.end - next)

  -- the number that refuses the first byte, where one does: another byte than the one held, or one run too many
  abbrev pub refusal_of : Option ℕ
  refusal_of =
      cond (eqb offered 0) None
      (cond (is_held standing.kind) (cond (eqb (alike (drop next buffer) piece) 0) (Some 17) None)
      (cond (leb (length (insert next (runs_in l))) max_runs) None (Some 16)))

  -- how many bytes are taken
  abbrev pub taken_of : ℕ
  taken_of = cond (is_none refusal_of) (min offered reach) 0

-- all that a stretch leaves, for any runs, buffer, position and piece
pub record StretchExactly (l : RunList) (buffer : List ℕ) (next : ℕ) (piece : List ℕ) (most : ℕ) (r : Result Stretch ℕ) (after : List ℕ) : Type 0 where
  pub refusal : refusal_in r ≡ refusal_of l buffer next piece most
  pub taken : taken_in r ≡ taken_of l buffer next piece most
  pub runs : runs_in (runs_left l r) ≡ cond (is_held (standing l buffer next piece most).kind) (runs_in l) (added next (taken_in r) (runs_in l))
  pub bytes : after ≡ cond (is_held (standing l buffer next piece most).kind) buffer (sets buffer next (take (taken_in r) piece))
  pub untaken : taken_in r ≡ 0 → runs_left l r ≡ l
  pub compared : (standing l buffer next piece most).kind ≡ InRun → runs_left l r ≡ l
  pub counted : 1 ≤ taken_in r → is_free (standing l buffer next piece most).kind ≡ true → (runs_left l r).count ≤ max_runs

-- the k positions from p on are all of the runs, or all not
abbrev pub Along : Bool → ℕ → ℕ → List Run → Type 0
Along x p k runs = (q : ℕ) → p ≤ q → q < p + k → member q runs ≡ x

-- what holds where data is fed: the runs are those of the buffer's file, at least one byte is given, and what is wanted lies in the file
pub record Ready (l : RunList) (buffer : List ℕ) (next : ℕ) (piece : List ℕ) (most : ℕ) : Type 0 where
  pub formed : WellFormed 0 (length buffer) (runs_in l)
  pub fits : next + most ≤ length buffer
  pub some : 1 ≤ most
  pub given : 1 ≤ length piece

-- positions that are not held are stored, where the first makes at most max_runs runs
pub record Fresh (l : RunList) (buffer : List ℕ) (next : ℕ) (piece : List ℕ) (r : Result Stretch ℕ) (after : List ℕ) : Type 0 where
  pub some : 1 ≤ taken_in r
  pub free : Along false next (taken_in r) (runs_in l)
  pub few : length (insert next (runs_in l)) ≤ max_runs
  pub runs : runs_in (runs_left l r) ≡ insert_span next (taken_in r) (runs_in l)
  pub bytes : after ≡ sets buffer next (take (taken_in r) piece)

-- the bytes of held positions are as held
pub record HeldStretch (l : RunList) (buffer : List ℕ) (next : ℕ) (piece : List ℕ) (r : Result Stretch ℕ) (after : List ℕ) : Type 0 where
  pub some : 1 ≤ taken_in r
  pub held : Along true next (taken_in r) (runs_in l)
  pub alike : take (taken_in r) (drop next buffer) ≡ take (taken_in r) piece
  pub runs : runs_left l r ≡ l
  pub bytes : after ≡ buffer

-- the first position is not held and would make more than max_runs runs
pub record Many (l : RunList) (buffer : List ℕ) (next : ℕ) (r : Result Stretch ℕ) (after : List ℕ) : Type 0 where
  pub refused : r ≡ Err 16
  pub free : member next (runs_in l) ≡ false
  pub many : max_runs < length (insert next (runs_in l))
  pub bytes : after ≡ buffer

-- the first position is held with another byte
pub record Other (l : RunList) (buffer : List ℕ) (next : ℕ) (piece : List ℕ) (r : Result Stretch ℕ) (after : List ℕ) : Type 0 where
  pub refused : r ≡ Err 17
  pub held : member next (runs_in l) ≡ true
  pub differ : get_or buffer next 0 ≡ get_or piece 0 0 → ⊥
  pub bytes : after ≡ buffer

-- one of the four
pub data StretchOutcome (l : RunList) (buffer : List ℕ) (next : ℕ) (piece : List ℕ) (r : Result Stretch ℕ) (after : List ℕ) : Type 0 where
  fresh : Fresh l buffer next piece r after → StretchOutcome l buffer next piece r after
  held : HeldStretch l buffer next piece r after → StretchOutcome l buffer next piece r after
  many : Many l buffer next r after → StretchOutcome l buffer next piece r after
  other : Other l buffer next piece r after → StretchOutcome l buffer next piece r after

-- what a stretch leaves
pub record StretchIs (l : RunList) (buffer : List ℕ) (next : ℕ) (piece : List ℕ) (most : ℕ) (r : Result Stretch ℕ) (after : List ℕ) : Type 0 where
  pub kept : length after ≡ length buffer
  pub wanted : taken_in r ≤ most
  pub within : taken_in r ≤ length piece
  pub room : l.count ≤ max_runs → (runs_left l r).count ≤ max_runs
  pub blank : all_blank (unused l) ≡ true → all_blank (unused (runs_left l r)) ≡ true
  pub exact : StretchExactly l buffer next piece most r after
  pub stored : Ready l buffer next piece most → StretchOutcome l buffer next piece r after
