-- A step over data: from what a stretch of positions leaves and where its bytes take the parser.
-- Assumes nothing.
use Prim.Native.Nat.{ℕ, suc, ◌+◌, ◌-◌, ◌≤◌, ◌<◌}
use native.Mathlib.Omega.{arith}
use mathlib.Core.Path.{◌≡◌, refl, subst}
use mathlib.Core.Bool.{Bool, true, false, cond}
use mathlib.Core.List.{List}
use Rattle.std.specs.Prelude.{None, Some, Result, Ok, Err}
use lib.Dec.{leb}
use lib.ListN.{length, get_or, take, drop}
use lib.Seq.{length-take-le}
use borrow.Author.Tests.{leb-true, leb-false}
use Rattle.rules_tablet.specs.Limits.{max_runs}
use Rattle.rules_tablet.specs.Parsers.{Parser, at, with_framing, counted_body, event}
use Rattle.rules_tablet.specs.declared.Stage.{Stage}
use Rattle.rules_tablet.specs.declared.Stage.TheVariants.{Plain, Delimiter, Data, Finished, Refused}
use Rattle.copy.specs.declared.runs.RunList.{RunList}
use Rattle.copy.specs.Lists.{runs_in}
use Rattle.reader_data.specs.declared.Stretch.{Stretch}
use Rattle.reader_data.specs.Stretches.{StretchIs, StretchOutcome, Ready, fresh, held, many, other}
use Rattle.laws_reader.proofs.Stages.{each}
use Rattle.laws_reader.proofs.at_once.Steps.{Moves}
use Rattle.laws_reader.proofs.at_once.Moves.{plain_moves, plain-ends, data_moves, data_ends}
use Rattle.laws_reader.proofs.at_once.Loops.{byte_rest}
use Rattle.laws_reader.proofs.at_once.Laws.{fresh_taken, held_taken, feed-many, feed_other}
use Rattle.reader_state.proofs.stages.Laws.{no}
use Rattle.reader.specs.Fitting.{Fitting}
use Rattle.reader_text.specs.Steps.{Went, on, off}
use Rattle.reader.specs.declared.pieces.DataAhead.{DataAhead}
use Rattle.reader.specs.Steps.{tablet_on, ahead_of, behind, stage_behind, DataFits, DataReady, DataIs}

-- what is taken is no refusal
taken-refused : {A : Type 0} (s : Stretch) (k : ℕ) → ◌≡◌ {A = Result Stretch ℕ} (Ok s) (Err k) → A
taken-refused s k e = cc

module _ (tag : List ℕ) (l : RunList) (buffer : List ℕ) (next : ℕ) (piece : List ℕ) (s : Stretch) (bytes : List ℕ) (r : DataReady l buffer piece)
    (w : s.taken ≤ length piece) (o : StretchOutcome l buffer next piece (Ok s) bytes) where
  -- bytes that are stored, or are as held
  pub data_went : (p q : Parser) → Moves tag (length buffer) Some next (take s.taken piece) p q
      → Went tag (length buffer) piece (tablet_on (runs_in l) buffer p) s.taken (tablet_on (runs_in s.runs) bytes q)
  data_went p q m = go o
    where
      go : StretchOutcome l buffer next piece (Ok s) bytes
          → Went tag (length buffer) piece (tablet_on (runs_in l) buffer p) s.taken (tablet_on (runs_in s.runs) bytes q)
      go (fresh f) =
          on f.some w (λ rest.
          rw (f.runs, f.bytes)
          (fresh_taken max_runs tag (length buffer) s.taken (take s.taken piece) rest (length-take-le s.taken piece w) p next (runs_in l) buffer r.formed
          f.free f.few q m))
      go (held f) =
          on f.some w (λ rest.
          rw (f.runs, f.bytes)
          (held_taken max_runs tag (length buffer) s.taken (take s.taken piece) rest (length-take-le s.taken piece w) p next (runs_in l) buffer f.held
          f.alike q m))
      go (many f) = taken-refused s 16 f.refused
      go (other f) = taken-refused s 17 f.refused

  -- where they take a parser
  module _ (p : Parser) (after : ℕ) (a : p.framing.after ≡ after) where
    -- of a plain body, before the last counted byte
    pub plain_on : p.stage ≡ Plain next → s.taken ≤ after
        → Moves tag (length buffer) Some next (take s.taken piece) p (at (Plain (next + s.taken)) (with_framing (counted_body (after - s.taken)) p))
    plain_on e u = rw (← a) (plain_moves tag (length buffer) s.taken (take s.taken piece) (length-take-le s.taken piece w) p next e (omega arith))

    -- up to the last counted byte
    pub plain_end : p.stage ≡ Plain next → s.taken ≡ suc after
        → Moves tag (length buffer) Some next (take s.taken piece) p (at Finished (with_framing (counted_body 0) p))
    plain_end e u = plain-ends tag (length buffer) s.taken (take s.taken piece) (length-take-le s.taken piece w) p next e (omega arith)

    -- of a part, before its last byte
    pub part_on : (left : ℕ) → p.stage ≡ Data next left → s.taken < left → s.taken ≤ after
        → Moves tag (length buffer) Some next (take s.taken piece) p
        (at (Data (next + s.taken) (left - s.taken)) (with_framing (counted_body (after - s.taken)) p))
    part_on left e u v = rw (← a) (data_moves tag (length buffer) s.taken (take s.taken piece) (length-take-le s.taken piece w) p next left e u
        (omega arith))

    -- up to its last byte
    pub part_end_lem : (left : ℕ) → p.stage ≡ Data next left → s.taken ≡ left → 1 ≤ left → s.taken ≤ after
        → Moves tag (length buffer) Some next (take s.taken piece) p (at (Delimiter 0) (with_framing (counted_body (after - s.taken)) p))
    part_end_lem left e u i v = rw (← a) (data_ends tag (length buffer) s.taken (take s.taken piece) (length-take-le s.taken piece w) p next (rw u e)
        (omega arith) (omega arith))

  -- where the bytes of a plain body leave the parser
  pub plain_goes : (p : Parser) (after : ℕ) → p.framing.after ≡ after → p.stage ≡ Plain next → s.taken ≤ suc after
      → Went tag (length buffer) piece (tablet_on (runs_in l) buffer p) s.taken
      (tablet_on (runs_in s.runs) bytes (at (behind (Plain next) next (suc after) s.taken) (with_framing (counted_body (after - s.taken)) p)))
  plain_goes p after m e u = go (leb (suc after) s.taken) refl
    where
      go : (t : Bool) → leb (suc after) s.taken ≡ t → Went tag (length buffer) piece (tablet_on (runs_in l) buffer p) s.taken
          (tablet_on (runs_in s.runs) bytes (at (cond t Finished (Plain (next + s.taken))) (with_framing (counted_body (after - s.taken)) p)))
      go true t =
          let v = leb-true (suc after) s.taken t in
          let q : after - s.taken ≡ 0 = omega arith in
          rw q (data_went p _ (plain_end p after m e (omega arith)))
      go false t = data_went p _ (plain_on p after m e (omega (arith, leb-false (suc after) s.taken t)))

  -- and those of a part
  pub part_goes : (p : Parser) (after : ℕ) → p.framing.after ≡ after → (left : ℕ) → p.stage ≡ Data next left → 1 ≤ left → left ≤ after → s.taken ≤ left
      → Went tag (length buffer) piece (tablet_on (runs_in l) buffer p) s.taken
      (tablet_on (runs_in s.runs) bytes (at (behind (Data next left) next left s.taken) (with_framing (counted_body (after - s.taken)) p)))
  part_goes p after m left e i v u = go (leb left s.taken) refl
    where
      go : (t : Bool) → leb left s.taken ≡ t → Went tag (length buffer) piece (tablet_on (runs_in l) buffer p) s.taken
          (tablet_on (runs_in s.runs) bytes (at (cond t (Delimiter 0) (Data (next + s.taken) (left - s.taken))) (with_framing (counted_body (after - s.taken)) p)))
      go true t =
          let d = leb-true left s.taken t in
          data_went p _ (part_end_lem p after m left e (omega arith) i (omega arith))
      go false t =
          let d = leb-false left s.taken t in
          data_went p _ (part_on p after m left e (omega arith) (omega arith))

-- a refusal by its number
number_of : (k m : ℕ) → ◌≡◌ {A = Result Stretch ℕ} (Err k) (Err m) → k ≡ m
number_of k m e = cc

-- a byte that is refused
pub data_stops : (tag : List ℕ) (l : RunList) (buffer : List ℕ) (next : ℕ) (piece : List ℕ) (k : ℕ) (bytes : List ℕ) → DataReady l buffer piece → (p : Parser)
    → StretchOutcome l buffer next piece (Err k) bytes → event p.stage ≡ Some next
    → Went tag (length buffer) piece (tablet_on (runs_in l) buffer p) 0 (tablet_on (runs_in l) bytes (at (Refused k) p))
data_stops tag l buffer next piece k bytes r p (fresh f) e = absurd (omega (arith, f.some))
data_stops tag l buffer next piece k bytes r p (held f) e = absurd (omega (arith, f.some))
data_stops tag l buffer next piece k bytes r p (many f) e =
    let number : k ≡ 16 = number_of k 16 f.refused in
    off refl (rw (number, f.bytes)
    (rw (byte_rest 0 piece r.given) at (feed-many max_runs tag (length buffer) next (get_or piece 0 0) (drop 1 piece) (runs_in l) buffer p e f.free
    f.many)))
data_stops tag l buffer next piece k bytes r p (other f) e =
    let number : k ≡ 17 = number_of k 17 f.refused in
    off refl (rw (number, f.bytes)
    (rw (byte_rest 0 piece r.given) at (feed_other max_runs tag (length buffer) next (get_or piece 0 0) (drop 1 piece) (runs_in l) buffer p e f.held
    f.differ)))

-- ---- where data comes next, a plain body or a part's data stands

pub fitting_cases : (P : Stage → Type 0) (after n : ℕ) → ((next : ℕ) → Fitting (Plain next) after n → P (Plain next))
    → ((next left : ℕ) → Fitting (Data next left) after n → P (Data next left)) → (s : Stage) → Fitting s after n → P s
fitting_cases P after n f g s =
    each (λ x. Fitting x after n → P x) (no, no, f, no, λ k. no, λ k. no, λ i. no, λ i. no, no, no, no, no, no, g, no, no, λ k. no) s

-- the data that comes next is what is ahead
pub same_ahead : (c d : DataAhead) → Some c ≡ Some d → c ≡ d
same_ahead c d e = cc

-- it stands where the reader does
pub ahead_same : (s : Stage) (after : ℕ) (d : DataAhead) → ahead_of s after ≡ Some d → (d.stage ≡ s) × (d.after ≡ after)
ahead_same s after d =
    each (λ x. ahead_of x after ≡ Some d → (d.stage ≡ x) × (d.after ≡ after)) (
      none,
      none,
      λ next e. subst (λ (c : DataAhead). (c.stage ≡ Plain next) × (c.after ≡ after)) (same_ahead _ d e) (refl, refl),
      none,
      λ k. none,
      λ k. none,
      λ i. none,
      λ i. none,
      none,
      none,
      none,
      none,
      none,
      λ next left e. subst (λ (c : DataAhead). (c.stage ≡ Data next left) × (c.after ≡ after)) (same_ahead _ d e) (refl, refl),
      none,
      none,
      λ k. none,
    ) s
  where
    none : {A : Type 0} → None ≡ Some d → A
    none e = cc

-- what may come lies in the copy, and the next byte is stored at the first position
pub record Room (s : Stage) (d : DataAhead) (n : ℕ) : Type 0 where
  pub fits : d.next + d.room ≤ n
  pub some : 1 ≤ d.room
  pub event : event s ≡ Some d.next

pub ahead_room : (d : DataAhead) (n : ℕ) → DataFits d n → Room d.stage d n
ahead_room d n f =
    fitting_cases (λ s. ahead_of s d.after ≡ Some d → Room s d n) d.after n
    (λ next h e. subst (λ (c : DataAhead). Room (Plain next) c n) (same_ahead _ d e) (record { fits = omega (arith, h.0); some = omega arith; event = refl }))
    (λ next left h e. subst (λ (c : DataAhead). Room (Data next left) c n) (same_ahead _ d e) (record { fits = h.1; some = h.0; event = refl }))
    d.stage f.fitting f.is

-- ---- a step over data

module _ (l : RunList) (buffer piece : List ℕ) (r : DataReady l buffer piece) (index : ℕ) (u : index < max_runs) (d : DataAhead)
    (f : DataFits d (length buffer)) where
  room : Room d.stage d (length buffer)
  room = ahead_room d (length buffer) f

  -- what is wanted of a stretch
  wanted : Ready l buffer d.next piece d.room
  wanted = record { formed = r.formed; fits = room.fits; some = room.some; given = r.given }

  -- where bytes that are taken leave the parser
  abbrev Goes : Stretch → List ℕ → Stage → DataAhead → Type 0
  Goes x bytes s c = StretchIs l buffer c.next piece c.room (Ok x) bytes → StretchOutcome l buffer c.next piece (Ok x) bytes → (tag : List ℕ) (p : Parser)
      → p.stage ≡ s → p.framing.after ≡ d.after
      → Went tag (length buffer) piece (tablet_on (runs_in l) buffer p) x.taken
      (tablet_on (runs_in x.runs) bytes (at (behind s c.next c.room x.taken) (with_framing (counted_body (d.after - x.taken)) p)))

  goes : (x : Stretch) (bytes : List ℕ) → Goes x bytes d.stage d
  goes x bytes =
      fitting_cases (λ s. ahead_of s d.after ≡ Some d → Goes x bytes s d) d.after (length buffer)
      (λ next h e. subst (Goes x bytes (Plain next)) (same_ahead _ d e) (λ i o tag p q m.
      plain_goes tag l buffer next piece x bytes r i.within o p d.after m q i.wanted))
      (λ next left h e. subst (Goes x bytes (Data next left)) (same_ahead _ d e) (λ i o tag p q m.
      part_goes tag l buffer next piece x bytes r i.within o p d.after m left q h.0 h.2 i.wanted))
      d.stage f.fitting f.is

  pub data_is : (x : Stretch) (bytes : List ℕ) → StretchIs l buffer d.next piece d.room (Ok x) bytes
      → DataIs l d.stage d.after buffer piece (record {
        runs = x.runs;
        stage = stage_behind d x.taken;
        after = d.after - x.taken;
        taken = x.taken;
        index = index;
      }) bytes
  data_is x bytes h = record { kept = h.kept; room = h.room; blank = h.blank; index = u; went = goes x bytes h (h.stored wanted) }

  -- a byte that is refused
  pub data_refused : (k : ℕ) (bytes : List ℕ) → StretchIs l buffer d.next piece d.room (Err k) bytes
      → DataIs l d.stage d.after buffer piece (record { runs = l; stage = Refused k; after = d.after; taken = 0; index = index }) bytes
  data_refused k bytes h = record {
    kept = h.kept;
    room = h.room;
    blank = h.blank;
    index = u;
    went = λ tag p q m. rw (← m) (data_stops tag l buffer d.next piece k bytes r p (h.stored wanted) (rw q room.event));
  }
