-- The loop over a piece: what holds before each step, what a step makes of it, and the end of a call.
-- Assumes nothing.
use Prim.Native.Nat.{ℕ, suc, ◌+◌, ◌-◌, ◌≤◌, ◌<◌}
use native.Mathlib.Omega.{arith}
use mathlib.Core.Path.{◌≡◌, refl, sym, ap, subst, ◌∙◌}
use mathlib.Core.Bool.{Bool, true, false, cond, false≢true}
use mathlib.Core.List.{List, [], ◌∷◌}
use lib.Dec.{leb, eqb}
use lib.ListN.{length, take, drop, length-take, length-drop, take-append-drop}
use lib.Seq.{length-take-le, take-take}
use borrow.Author.Tests.{leb-true, le-leb, lt-ltb, eq-eqb, ne_eqb, eqb-true, eqb-false}
use Rattle.rules_server.specs.Limits.{max_file, max_tag, max_boundary}
use Rattle.rules_tablet.specs.Limits.{max_runs, max_line, max_size, max_preamble}
use Rattle.rules_tablet.specs.Copies.{all_blank, tag_of, runs_of, copy_rule}
use Rattle.rules_tablet.specs.Feeding.{Held, Tablet, Fed, feed}
use Rattle.rules_tablet.specs.Calls.{reader_ok, feedable, feed_call}
use Rattle.rules_tablet.specs.Readers.{parser_in}
use Rattle.rules_tablet.specs.declared.Copy.{Copy}
use Rattle.rules_tablet.specs.declared.Reader.{Reader as Record}
use Rattle.rules_tablet.specs.declared.Stage.{Stage}
use Rattle.rules_tablet.specs.declared.Stage.TheVariants.{Status, Fields, Plain, Skip, Preamble, PreambleEnd, FirstDelimiter, Delimiter, AfterFirstDelimiter}
use Rattle.rules_tablet.specs.declared.Stage.TheVariants.{AfterDelimiter, PartBegin, Closing, PartLine, Data, Epilogue, Finished, Refused}
use Rattle.copy.specs.declared.runs.RunList.{RunList}
use Rattle.copy.specs.Lists.{runs_in, unused}
use Rattle.copy.specs.States.{state_of}
use Rattle.copy.proofs.Laws.{rule_kept, kept_rule, rule_ok}
use Rattle.reader.specs.Rules.{reader_rule}
use Rattle.laws_reader.proofs.rules_kept.Tests.{trues}
use Rattle.laws_reader.proofs.rules_kept.Pieces.{feed_nil}
use Rattle.laws_reader.proofs.rules_kept.Rules.{Known, known, Room, reader_of_lem, of_reader}
use Rattle.laws_reader.proofs.rules_kept.Keeping.{TabletKept, feed_kept}
use Rattle.laws_reader.proofs.at_once.Loops.{Reached, reached_none, reached_on, reached_stop, reached_end}
use Rattle.laws_reader.proofs.Stages.{each}
use Rattle.std.specs.Prelude.{None, Some}
use Rattle.reader.specs.declared.pieces.DataAhead.{DataAhead}
use Rattle.reader.proofs.pieces.Data.{same_ahead}
use Rattle.reader.proofs.pieces.Fronts.{stop_rest}
use Rattle.reader_text.specs.Steps.{Went, on, off, Fits, TextIs, room_for, StepReady}
use Rattle.reader.specs.Steps.{tablet_on, moved_to, state_in, ahead_of, DataFits, DataReady, DataIs}
use Rattle.reader.specs.declared.pieces.DataStep.{DataStep}
use Rattle.reader.specs.Loops.{Feedable, Done}
use Rattle.reader.specs.Calls.{feed_rule, FeedReady, FedRight, Rejected, FedIs, end_of}
use Rattle.reader.specs.declared.fed.Fed.{Fed as Result}

-- where data comes next, what is still to come of it fits the copy
pub stands_fitting : (t : List ℕ) (n : ℕ) (s : Stage) (after : ℕ) (k : Known) → after < max_size → Room t n s (suc after) k
    → (d : DataAhead) → ahead_of s after ≡ Some d → DataFits d n
stands_fitting t n s after k u h d =
    each (λ x. Room t n x (suc after) k → ahead_of x after ≡ Some d → DataFits d n) (
      λ r. no,
      λ r. no,
      λ next r e. subst (λ (c : DataAhead). DataFits c n) (same_ahead _ d e) (record { is = refl; fitting = (omega arith, u) }),
      λ r. no,
      λ i r. no,
      λ i r. no,
      λ i r. no,
      λ i r. no,
      λ r. no,
      λ r. no,
      λ r. no,
      λ r. no,
      λ r. no,
      λ next left r e. subst (λ (c : DataAhead). DataFits c n) (same_ahead _ d e) (record { is = refl; fitting = (r.1, r.2, omega arith, u) }),
      λ r. no,
      λ r. no,
      λ i r. no,
    ) s h
  where
    no : None ≡ Some d → DataFits d n
    no e = cc

-- where no data comes next, the numbers fit
stands_room : (t : List ℕ) (n : ℕ) (s : Stage) (after : ℕ) (k : Known) (m : ℕ) → length k.boundary ≤ m → Room t n s (suc after) k → ahead_of s after ≡ None
    → room_for s m ≡ true
stands_room t n Status after k m v h e = refl
stands_room t n Fields after k m v h e = refl
stands_room t n (Plain next) after k m v h e = cc
stands_room t n Skip after k m v h e = refl
stands_room t n (Preamble i) after k m v h e = refl
stands_room t n (PreambleEnd i) after k m v h e = lt-ltb i max_preamble h.1
stands_room t n (FirstDelimiter i) after k m v h e = lt-ltb i (m + 4) (omega (arith, h.2))
stands_room t n (Delimiter i) after k m v h e = lt-ltb i (m + 4) (omega (arith, h.1))
stands_room t n AfterFirstDelimiter after k m v h e = refl
stands_room t n AfterDelimiter after k m v h e = refl
stands_room t n PartBegin after k m v h e = refl
stands_room t n Closing after k m v h e = refl
stands_room t n PartLine after k m v h e = refl
stands_room t n (Data next left) after k m v h e = cc
stands_room t n Epilogue after k m v h e = refl
stands_room t n Finished after k m v h e = refl
stands_room t n (Refused i) after k m v h e = refl

-- the lengths of a reader that meets its rule, and the rule on what it means
pub rule_fits : (c : Copy) (r : Record) → reader_rule c r ≡ true → Fits r × (reader_ok (state_of c) (parser_in r) ≡ true)
unfolding reader_rule
rule_fits c r e =
    let h = trues (leb r.line_len max_line) (leb r.tag_len max_tag ∷ leb r.boundary_len max_boundary ∷ reader_ok (state_of c) (parser_in r) ∷ []) e in
    (record { line = leb-true _ _ h.0; tag = leb-true _ _ h.1.0; boundary = leb-true _ _ h.1.1.0 }, h.1.1.1.0)

-- and back
pub fits_rule : (c : Copy) (r : Record) → Fits r → reader_ok (state_of c) (parser_in r) ≡ true → reader_rule c r ≡ true
unfolding reader_rule
fits_rule c r f e = rw (le-leb _ _ f.line, le-leb _ _ f.tag, le-leb _ _ f.boundary) e

-- a tablet that a piece left keeps the rules
left_kept : (tag : List ℕ) (n : ℕ) (h : Held) (l : List ℕ) (t u : Tablet) (f : Fed) → feed max_runs tag n l t ≡ f → f.tablet ≡ u → TabletKept tag n h t
    → TabletKept tag n h u
left_kept tag n h l t u f e g k = rw (ap (λ (x : Fed). x.tablet) e ∙ g) at (feed_kept tag n h l t k)

-- before a step: i bytes of the piece were taken, from the tablet t on
pub record Before (tag : List ℕ) (n : ℕ) (piece : List ℕ) (t : Tablet) (l : RunList) (buffer : List ℕ) (r : Record) (i : ℕ) : Type 0 where
  pub within : i ≤ length piece
  pub reached : Reached max_runs tag n piece t i (tablet_on (runs_in l) buffer (parser_in r))
  pub now : Feedable tag n t l buffer r

-- what a step leaves beside the tablet
pub record Beside (n : ℕ) (l : RunList) (buffer : List ℕ) (r : Record) : Type 0 where
  pub fits : Fits r
  pub few : l.count ≤ max_runs
  pub blank : all_blank (unused l) ≡ true
  pub room : length buffer ≡ n

-- the loop goes on up to the end of the bytes, or ends where it is
pub data Phase (tag : List ℕ) (n : ℕ) (piece : List ℕ) (t : Tablet) (l : RunList) (buffer : List ℕ) (r : Record) (i limit : ℕ) : Type 0 where
  going : limit ≡ length piece → Before tag n piece t l buffer r i → Phase tag n piece t l buffer r i limit
  over : limit ≡ i → Done tag n piece t l buffer r i → Phase tag n piece t l buffer r i limit

module _ {tag : List ℕ} {n : ℕ} {piece : List ℕ} {t : Tablet} {l : RunList} {buffer : List ℕ} {r : Record} {i : ℕ} (g : Before tag n piece t l buffer r i) where
  -- what a step over data wants: its numbers leave room
  pub data_fitting : (d : DataAhead) → ahead_of r.stage r.framing.after ≡ Some d → DataFits d (length buffer)
  data_fitting d e =
      rw g.now.room
      (stands_fitting tag n r.stage r.framing.after (known (parser_in r)) g.now.kept.reader.frame.after
      g.now.kept.reader.stands d e)

  -- what is counted is not too much
  pub after_small : r.framing.after < max_size
  after_small = g.now.kept.reader.frame.after

  -- no byte is left
  step_end : length piece ≤ i → Done tag n piece t l buffer r i
  step_end u = record {
    is = reached_end max_runs tag n piece t i (tablet_on (runs_in l) buffer (parser_in r)) g.reached u;
    now = g.now;
  }

  -- a step sees the bytes from i up to e
  module _ (e : ℕ) (u : i < e) (v : e ≤ length piece) where
    abbrev rest : List ℕ
    rest = take (e - i) (drop i piece)

    -- so many they are
    pub rest_long : length rest ≡ e - i
    rest_long = length-take-le (e - i) (drop i piece) (rw length-drop (omega arith))

    -- what a step over data wants
    pub data_ready : n ≤ max_file → DataReady l buffer rest
    data_ready w = record { formed = rw g.now.room g.now.kept.grown.formed; given = rw rest_long (omega arith); small = omega (arith, g.now.room) }

    -- what a step without data wants
    pub text_ready : ahead_of r.stage r.framing.after ≡ None → length r.line ≡ max_line → length r.tag ≡ max_tag → length r.boundary ≡ max_boundary
        → StepReady (state_in r) r.line r.tag r.boundary rest
    text_ready d x y z = record {
      arrays = record {
        line_room = x;
        tag_room = y;
        boundary_room = z;
        within = record { line_fits = g.now.fits.line; tag_fits = g.now.fits.tag; boundary_fits = g.now.fits.boundary };
      };
      room = stands_room tag n r.stage r.framing.after (known (parser_in r)) r.boundary_len (rw length-take (omega arith))
          g.now.kept.reader.stands d;
      given = rw rest_long (omega arith);
    }

    module _ (m : RunList) (bytes : List ℕ) (x : Record) (k : ℕ) (b : Beside n m bytes x)
        (s : Went tag n rest (tablet_on (runs_in l) buffer (parser_in r)) k (tablet_on (runs_in m) bytes (parser_in x))) where
      -- a step that takes bytes
      step_on : Went tag n rest (tablet_on (runs_in l) buffer (parser_in r)) k (tablet_on (runs_in m) bytes (parser_in x)) → (k ≡ 0 → ⊥)
          → Before tag n piece t m bytes x (i + k)
      step_on (on some w f) z =
          let d : k ≤ e - i = rw rest_long at w in
          let taken = rw (take-take k (e - i) (drop i piece) d) at (f (drop (i + k) piece)) in
          record {
            within = omega arith;
            reached = reached_on max_runs tag n piece t i (tablet_on (runs_in l) buffer (parser_in r)) g.reached k
                (tablet_on (runs_in m) bytes (parser_in x)) taken;
            now = record {
              kept = left_kept tag n t.held _ (tablet_on (runs_in l) buffer (parser_in r)) (tablet_on (runs_in m) bytes (parser_in x)) _ (f [])
                  (ap (λ (y : Fed). y.tablet) (feed_nil max_runs tag n (tablet_on (runs_in m) bytes (parser_in x)))) g.now.kept;
              fits = b.fits;
              few = b.few;
              blank = b.blank;
              room = b.room;
            };
          }
      step_on (off h f) z = absurd (z h)

      -- a step that takes none
      step_off : Went tag n rest (tablet_on (runs_in l) buffer (parser_in r)) k (tablet_on (runs_in m) bytes (parser_in x)) → k ≡ 0 → Done tag n piece t m bytes x i
      step_off (on some w f) z = absurd (omega arith)
      step_off (off h f) z =
          let all = stop_rest max_runs tag n rest (drop (e - i) (drop i piece)) (tablet_on (runs_in l) buffer (parser_in r))
          (tablet_on (runs_in m) bytes (parser_in x)) (rw rest_long (omega arith)) f in
          let d = rw (take-append-drop (e - i) (drop i piece)) at all in
          record {
            is = reached_stop max_runs tag n piece t i (tablet_on (runs_in l) buffer (parser_in r)) g.reached (tablet_on (runs_in m) bytes (parser_in x)) d;
            now = record {
              kept = left_kept tag n t.held (drop i piece) (tablet_on (runs_in l) buffer (parser_in r))
                  (tablet_on (runs_in m) bytes (parser_in x)) _ d refl g.now.kept;
              fits = b.fits;
              few = b.few;
              blank = b.blank;
              room = b.room;
            };
          }

      -- how far a step goes
      step_within : Went tag n rest (tablet_on (runs_in l) buffer (parser_in r)) k (tablet_on (runs_in m) bytes (parser_in x)) → i + k ≤ e
      step_within (on some w f) = omega (arith, w, rest_long)
      step_within (off h f) = omega (arith, h, u)

      module _ (limit new : ℕ) (q : limit ≡ length piece) (h : new ≡ cond (eqb k 0) i limit) where
        -- the loop goes on behind a step that takes bytes, and ends at one that takes none
        step_phase : Phase tag n piece t m bytes x (i + k) new
        step_phase = go (eqb k 0) refl
          where
            go : (y : Bool) → eqb k 0 ≡ y → Phase tag n piece t m bytes x (i + k) new
            go true y =
                let z = eqb-true k 0 y in
                let here : i + k ≡ i = omega arith in
                let stop : new ≡ i = rw y at h in
                rw here (over stop (step_off s z))
            go false y = let on : new ≡ limit = rw y at h in going (on ∙ q) (step_on s (eqb-false k 0 y))

        -- there is less to come
        step_less : new - (i + k) < limit - i
        step_less = go (eqb k 0) refl
          where
            go : (y : Bool) → eqb k 0 ≡ y → new - (i + k) < limit - i
            go true y = let stop : new ≡ i = rw y at h in omega (arith, stop, u, v, q)
            go false y =
                let on : new ≡ limit = rw y at h in
                let z = eqb-false k 0 y in
                omega (arith, on, z, u, v, q)

    -- a step over data
    module _ (d : DataStep) (bytes : List ℕ) (h : DataIs l r.stage r.framing.after buffer rest d bytes) where
      -- what it makes of the tablet
      data_step_went : Went tag n rest (tablet_on (runs_in l) buffer (parser_in r)) d.taken
          (tablet_on (runs_in d.runs) bytes (parser_in (moved_to d.stage d.after r)))
      data_step_went = rw g.now.room at (h.went tag (parser_in r) refl refl)

      -- what it leaves beside the tablet
      data_beside : Beside n d.runs bytes (moved_to d.stage d.after r)
      data_beside = record {
        fits = record { line = g.now.fits.line; tag = g.now.fits.tag; boundary = g.now.fits.boundary };
        few = h.room g.now.few;
        blank = h.blank g.now.blank;
        room = h.kept ∙ g.now.room;
      }

      -- how far it goes
      pub data_within : i + d.taken ≤ e
      data_within = step_within d.runs bytes (moved_to d.stage d.after r) d.taken data_beside data_step_went data_step_went

      module _ (limit new : ℕ) (q : limit ≡ length piece) (c : new ≡ cond (eqb d.taken 0) i limit) where
        -- the loop behind it
        pub data_phase : Phase tag n piece t d.runs bytes (moved_to d.stage d.after r) (i + d.taken) new
        data_phase = step_phase d.runs bytes (moved_to d.stage d.after r) d.taken data_beside data_step_went limit new q c

        -- there is less to come
        pub data_less : new - (i + d.taken) < limit - i
        data_less = step_less d.runs bytes (moved_to d.stage d.after r) d.taken data_beside data_step_went limit new q c

    -- a step without data
    module _ (k : ℕ) (x : Record) (h : TextIs tag n rest r k x) where
      -- what it makes of the tablet
      text_went : Went tag n rest (tablet_on (runs_in l) buffer (parser_in r)) k (tablet_on (runs_in l) buffer (parser_in x))
      text_went = h.went (record { runs = runs_in l; bytes = buffer })

      -- what it leaves beside the tablet
      text_beside : Beside n l buffer x
      text_beside = record { fits = h.fits; few = g.now.few; blank = g.now.blank; room = g.now.room }

      -- how far it goes
      pub text_within : i + k ≤ e
      text_within = step_within l buffer x k text_beside text_went text_went

      module _ (limit new : ℕ) (q : limit ≡ length piece) (c : new ≡ cond (eqb k 0) i limit) where
        -- the loop behind it
        pub text_phase : Phase tag n piece t l buffer x (i + k) new
        text_phase = step_phase l buffer x k text_beside text_went limit new q c

        -- there is less to come
        pub text_less : new - (i + k) < limit - i
        text_less = step_less l buffer x k text_beside text_went limit new q c

module _ {tag : List ℕ} {n : ℕ} {piece : List ℕ} {t : Tablet} {l : RunList} {buffer : List ℕ} {r : Record} {i limit : ℕ} where
  -- in the loop
  pub is_before : Phase tag n piece t l buffer r i limit → i < limit → Before tag n piece t l buffer r i
  is_before (going e g) u = g
  is_before (over e d) u = absurd (omega arith)

  pub is_limit : Phase tag n piece t l buffer r i limit → i < limit → limit ≡ length piece
  is_limit (going e g) u = e
  is_limit (over e d) u = absurd (omega arith)

  -- behind it
  pub is_done : Phase tag n piece t l buffer r i limit → limit ≤ i → Done tag n piece t l buffer r i
  is_done (going e g) u = step_end g (omega arith)
  is_done (over e d) u = d

  -- the buffer keeps its length
  pub phase_room : Phase tag n piece t l buffer r i limit → length buffer ≡ n
  phase_room (going e g) = g.now.room
  phase_room (over e d) = d.now.room

-- before the first step
pub begun : (tag : List ℕ) (n : ℕ) (piece : List ℕ) (l : RunList) (buffer : List ℕ) (r : Record)
    → Feedable tag n (tablet_on (runs_in l) buffer (parser_in r)) l buffer r
    → Before tag n piece (tablet_on (runs_in l) buffer (parser_in r)) l buffer r 0
begun tag n piece l buffer r f = record { within = omega arith; reached = reached_none max_runs tag n piece (tablet_on (runs_in l) buffer (parser_in r)); now = f }

-- a call where the rules are met
module _ (c : Copy) (r : Record) (buffer piece : List ℕ) (w : FeedReady c r buffer) where
  -- before the first step
  pub start : Feedable (tag_of c) c.length (tablet_on (runs_of c) buffer (parser_in r)) (record { runs = c.runs; count = c.count }) buffer r
  start =
      let k = rule_kept c w.copy in
      let f = rule_fits c r w.reader in
      record {
        kept = record {
          grown = record {
            formed = k.formed;
            few = rw length-take (omega (arith, k.few));
            room = refl;
            grows = λ q m. m;
            keeps = λ q m. refl;
            writes = λ q m. refl;
          };
          reader = reader_of_lem (state_of c) (parser_in r) f.1;
        };
        fits = f.0;
        few = k.few;
        blank = k.blank;
        room = w.room;
      }

  -- the rules on what the records mean
  feeds : feedable (state_of c) (parser_in r) buffer ≡ true
  unfolding feedable
  feeds = rw (rule_ok c w.copy, eq-eqb (length buffer) c.length w.room) (rule_fits c r w.reader).1

  -- at its end
  pub end : (l : RunList) (bytes : List ℕ) (x : Record) (i : ℕ) → Done (tag_of c) c.length piece (tablet_on (runs_of c) buffer (parser_in r)) l bytes x i
      → FedRight c r buffer piece (end_of c l x i) bytes
  unfolding feed_call
  end l bytes x i d =
      let k = rule_kept c w.copy in
      record {
        copy = rw (feeds, d.is);
        reader = rw (feeds, d.is);
        stored = rw (feeds, d.is);
        taken = rw (feeds, d.is);
        report = rw (feeds, d.is);
        copy_rule = kept_rule (end_of c l x i).copy (record {
          short = k.short;
          strong = k.strong;
          zeros = k.zeros;
          below = k.below;
          few = d.now.few;
          formed = d.now.kept.grown.formed;
          blank = d.now.blank;
        });
        reader_rule = fits_rule (end_of c l x i).copy x d.now.fits (of_reader (state_of (end_of c l x i).copy) (parser_in x) d.now.kept.reader);
      }

-- a call where a rule is broken
pub reject : (c : Copy) (r : Record) (buffer piece : List ℕ) (f : Result) → Rejected c r f → feed_rule c r buffer ≡ false → FedIs c r buffer piece f buffer
reject c r buffer piece f x e = record { rejected = λ h. (x, refl); fed = λ h. absurd (false≢true (sym e ∙ h)) }

-- the copy's rule is broken
pub copy_broken : (c : Copy) (r : Record) (buffer : List ℕ) → copy_rule c ≡ false → feed_rule c r buffer ≡ false
unfolding feed_rule
copy_broken c r buffer e = rw e

-- the buffer has another length
pub room_broken : (c : Copy) (r : Record) (buffer : List ℕ) → copy_rule c ≡ true → (length buffer ≡ c.length → ⊥) → feed_rule c r buffer ≡ false
unfolding feed_rule
room_broken c r buffer e n = rw (e, ne_eqb (length buffer) c.length n)

-- the reader's rule is broken
pub reader_broken : (c : Copy) (r : Record) (buffer : List ℕ) → copy_rule c ≡ true → length buffer ≡ c.length → reader_rule c r ≡ false
    → feed_rule c r buffer ≡ false
unfolding feed_rule
reader_broken c r buffer e n f = rw (e, eq-eqb (length buffer) c.length n, f)

-- a call where the rules are met
pub accept : (c : Copy) (r : Record) (buffer piece : List ℕ) (f : Result) (bytes : List ℕ) → FeedReady c r buffer → FedRight c r buffer piece f bytes
    → FedIs c r buffer piece f bytes
unfolding feed_rule
accept c r buffer piece f bytes w x = record {
  rejected = λ h. absurd (false≢true (sym h ∙ rw (w.copy, eq-eqb (length buffer) c.length w.room) w.reader));
  fed = λ h. x;
}
