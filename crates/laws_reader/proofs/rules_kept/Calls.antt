-- A call of feed, for any bytes, any copy and any reader: 19 exactly when a rule is broken, and what it does to a copy, its buffer and its reader otherwise.
-- Assumes nothing.
use Prim.Native.Nat.{ℕ, suc}
use native.Mathlib.Omega.{arith}
use mathlib.Core.Path.{◌≡◌, refl, sym, ap, ◌∙◌}
use mathlib.Core.Bool.{Bool, true, false, true≢false}
use mathlib.Core.List.{List, [], ◌∷◌}
use lib.Dec.{leb, eqb}
use lib.ListN.{length, take}
use borrow.Author.Tests.{leb-true, le-leb, eqb-true, eq-eqb}
use Rattle.rules_server.specs.Limits.{max_file, max_tag}
use Rattle.rules_server.specs.Tags.{is_strong}
use Rattle.rules_tablet.specs.Limits.{max_runs}
use Rattle.rules_tablet.specs.Runs.{well_formed}
use Rattle.rules_tablet.specs.Parsers.{Parser, report_of, is_refusal}
use Rattle.rules_tablet.specs.Feeding.{Held, Fed, feed}
use Rattle.rules_tablet.specs.Calls.{State, copy_ok, reader_ok, feedable, Feeding, feeding_of, feed_call, tablet_of}
use Rattle.rules_tablet.specs.declared.Report.TheVariants.{Refused as ByNumber}
use Rattle.rules_tablet.specs.declared.Stage.{Stage}
use Rattle.laws_runs.proofs.Laws.{run_laws}
use Rattle.rules_demands.specs.Demand1Reader.{Fair, FairAlways}
use Rattle.laws_reader.proofs.Stages.{by_refusal}
use Rattle.laws_reader.proofs.rules_kept.Tests.{trues, all_true}
use Rattle.laws_reader.proofs.rules_kept.Rules.{Known, known, Room, Reader, reader_of_lem, of_reader}
use Rattle.laws_reader.proofs.rules_kept.Pieces.{taken_le, front-held, front_parser}
use Rattle.laws_reader.proofs.rules_kept.Keeping.{TabletKept, feed_kept}

-- a report has one number
same-number : (j k : ℕ) → ByNumber j ≡ ByNumber k → j ≡ k
same-number j k e = cc

-- where a reader may stand, it does not report 19
no_19 : (t : List ℕ) (n : ℕ) (s : Stage) (m : ℕ) (k : Known) → Room t n s m k → report_of s ≡ ByNumber 19 → ⊥
no_19 t n s m k h e =
    by_refusal (λ x. Room t n x m k → report_of x ≡ ByNumber 19 → ⊥) (λ i r q. omega (arith, same-number i 19 q)) s (ap is_refusal e) h e

-- a reader that meets its rule does not report 19
not_19 : (t : List ℕ) (n : ℕ) (p : Parser) → Reader t n p → report_of p.stage ≡ ByNumber 19 → ⊥
not_19 t n p r e = no_19 t n p.stage (suc p.framing.after) (known p) r.stands e

-- the tests of a copy, the first one apart
abbrev copy_tests : State → List Bool
copy_tests c = leb (length c.tag) max_tag ∷ leb c.length max_file ∷ leb (length c.runs) max_runs ∷ well_formed 0 c.length c.runs ∷ []

module _ (c : State) (p : Parser) (buffer : List ℕ) where
  -- what a call of feed leaves where a rule is broken
  abbrev rejected : Feeding
  rejected = record { copy = c; reader = p; buffer = buffer; taken = 0; report = ByNumber 19 }

  -- and where they are met
  abbrev fed : List ℕ → Fed
  fed l = feed max_runs c.tag c.length l (tablet_of c p buffer)

  -- the call where a rule is broken
  call_rejected : (l : List ℕ) → feedable c p buffer ≡ false → feed_call c p buffer l ≡ rejected
  unfolding feed_call
  call_rejected l e = rw e

  -- the call where the rules are met
  call_fed : (l : List ℕ) → feedable c p buffer ≡ true → feed_call c p buffer l ≡ feeding_of c (fed l)
  unfolding feed_call
  call_fed l e = rw e

  -- a broken rule
  broken_fair : (l : List ℕ) → feedable c p buffer ≡ false → Fair c p buffer l
  broken_fair l e = record {
    refused = (λ r. e, λ r. rw (call_rejected l e));
    untouched = λ r. call_rejected l e;
    taken = rw (call_rejected l e) (omega arith);
    front = rw (call_rejected l e) (rw (call_rejected (take 0 l) e));
    front_bytes = rw (call_rejected l e) (rw (call_rejected (take 0 l) e));
    front_reader = rw (call_rejected l e) (rw (call_rejected (take 0 l) e));
    tag = rw (call_rejected l e);
    size = rw (call_rejected l e);
    room = rw (call_rejected l e);
    grows = λ q m. rw (call_rejected l e) m;
    keeps = λ q m. rw (call_rejected l e);
    writes = λ q m. rw (call_rejected l e);
    rules = λ m. absurd (true≢false (sym m ∙ e));
  }

  module _ (e : feedable c p buffer ≡ true) where
    -- the rules that are met
    tests : (copy_ok c ≡ true) × (length buffer ≡ c.length) × (reader_ok c p ≡ true)
    unfolding feedable
    tests = let h = trues (copy_ok c) (eqb (length buffer) c.length ∷ reader_ok c p ∷ []) e in (h.0, eqb-true _ _ h.1.0, h.1.1.0)

    -- before a piece
    start : TabletKept c.tag c.length (tablet_of c p buffer).held (tablet_of c p buffer)
    unfolding copy_ok
    start =
        let h = trues (is_strong c.tag) (copy_tests c) tests.0 in
        record {
          grown = record {
            formed = run_laws.test_true 0 c.length c.runs h.1.1.1.1.0;
            few = omega (arith, leb-true);
            room = refl;
            grows = λ q m. m;
            keeps = λ q m. refl;
            writes = λ q m. refl;
          };
          reader = reader_of_lem c p tests.2;
        }

    -- behind it
    end : (l : List ℕ) → TabletKept c.tag c.length (tablet_of c p buffer).held (fed l).tablet
    end l = feed_kept c.tag c.length (tablet_of c p buffer).held l (tablet_of c p buffer) start

    -- the copy meets its rule again
    copy_again : (l : List ℕ) → copy_ok (feeding_of c (fed l)).copy ≡ true
    unfolding copy_ok
    copy_again l =
        let h = trues (is_strong c.tag) (copy_tests c) tests.0 in
        all_true (is_strong c.tag) (copy_tests (feeding_of c (fed l)).copy) (
          h.0,
          (
            h.1.0,
            (
              h.1.1.0,
              (
                le-leb _ _ (end l).grown.few,
                (run_laws.true_test 0 c.length (fed l).tablet.held.runs (end l).grown.formed, tt),
              ),
            ),
          ),
        )

    -- all rules are met again
    rules_again : (l : List ℕ) → feedable (feeding_of c (fed l)).copy (feeding_of c (fed l)).reader (feeding_of c (fed l)).buffer ≡ true
    unfolding feedable
    rules_again l =
        rw (copy_again l, eq-eqb _ _ ((end l).grown.room ∙ tests.1)) (of_reader (feeding_of c (fed l)).copy (fed l).tablet.parser (end l).reader)

    -- a call where the rules are met
    fed_fair : (l : List ℕ) → Fair c p buffer l
    fed_fair l = record {
      refused = (λ r. absurd (not_19 _ _ _ (end l).reader (rw (call_fed l e) at r)), λ r. absurd (true≢false (sym e ∙ r)));
      untouched = λ r. absurd (true≢false (sym e ∙ r));
      taken = rw (call_fed l e) (taken_le max_runs c.tag c.length l (tablet_of c p buffer));
      front = rw (call_fed l e) (rw (call_fed (take (fed l).taken l) e)
          (ap (λ (h : Held). (feeding_of c (record { tablet = record { held = h; parser = p }; taken = 0 })).copy)
          (front-held max_runs c.tag c.length l (tablet_of c p buffer))));
      front_bytes = rw (call_fed l e) (rw (call_fed (take (fed l).taken l) e)
          (ap (λ (h : Held). h.bytes) (front-held max_runs c.tag c.length l (tablet_of c p buffer))));
      front_reader = rw (call_fed l e) (rw (call_fed (take (fed l).taken l) e) (front_parser max_runs c.tag c.length l (tablet_of c p buffer)));
      tag = rw (call_fed l e);
      size = rw (call_fed l e);
      room = rw (call_fed l e) (end l).grown.room;
      grows = λ q m. rw (call_fed l e) ((end l).grown.grows q m);
      keeps = λ q m. rw (call_fed l e) ((end l).grown.keeps q m);
      writes = λ q m. rw (call_fed l e) ((end l).grown.writes q (rw (call_fed l e) at m));
      rules = λ r. rw (call_fed l e) (rules_again l);
    }

-- every call of feed is fair
pub fair_always : FairAlways
fair_always c p buffer l = go (feedable c p buffer) refl
  where
    go : (b : Bool) → feedable c p buffer ≡ b → Fair c p buffer l
    go true e = fed_fair c p buffer e l
    go false e = broken_fair c p buffer l e
