-- Feeding keeps the copy's and the reader's rules; held positions grow, held bytes stay, and only what becomes held is written.
-- Assumes nothing.
use Prim.Native.Nat.{ℕ, suc, ◌≤◌, ◌<◌}
use native.Mathlib.Omega.{arith}
use mathlib.Core.Path.{◌≡◌, refl, sym, ◌∙◌}
use mathlib.Core.Bool.{true, false, ◌||◌, true≢false, or-true}
use mathlib.Core.List.{List, [], ◌∷◌}
use Rattle.std.specs.Prelude.{Option, None, Some}
use lib.Dec.{eqb, ltb}
use lib.ListN.{length, get_or, set, length-set}
use lib.Seq.{get_or-set_other}
use borrow.Author.Tests.{eqb-false, ltb-false}
use Rattle.rules_tablet.specs.Limits.{max_runs}
use Rattle.rules_tablet.specs.Runs.{member, WellFormed, insert}
use Rattle.rules_tablet.specs.Parsers.{Parser, event, is_refused}
use Rattle.rules_tablet.specs.Feeding.{Held, Stored, kept, refused_by, store, take_in, Tablet, Byte, Fed, is_over, settled, feed_byte, feed_on, feed}
use Rattle.rules_tablet.specs.declared.Stage.{Stage}
use Rattle.laws_runs.proofs.Laws.{run_laws}
use Rattle.laws_reader.proofs.Stages.{by_refusal, has_position, by_data}
use Rattle.laws_reader.proofs.rules_kept.Tests.{by_test, or_left, or_right}
use Rattle.laws_reader.proofs.rules_kept.Rules.{Known, Room, Reader}
use Rattle.laws_reader.proofs.rules_kept.Bodies.{parse_keeps}
use Rattle.laws_reader.proofs.rules_kept.Pieces.{feed_nil, feed_cons}

-- what is held in a copy of n bytes, from h to k
pub record Grown (n : ℕ) (h k : Held) : Type 0 where
  pub formed : WellFormed 0 n k.runs
  pub few : length k.runs ≤ max_runs
  pub room : length k.bytes ≡ length h.bytes
  pub grows : (q : ℕ) → member q h.runs ≡ true → member q k.runs ≡ true
  pub keeps : (q : ℕ) → member q h.runs ≡ true → get_or k.bytes q 0 ≡ get_or h.bytes q 0
  pub writes : (q : ℕ) → member q k.runs ≡ false → get_or k.bytes q 0 ≡ get_or h.bytes q 0

-- a byte for a position that is not held
added : (n : ℕ) (h k : Held) (p b : ℕ) → Grown n h k → p < n → member p k.runs ≡ false → length (insert p k.runs) ≤ max_runs
    → Grown n h (record { runs = insert p k.runs; bytes = set k.bytes p b })
added n h k p b g below away few = record {
  formed = run_laws.insert_formed n p k.runs below g.formed;
  few = few;
  room = length-set k.bytes p b ∙ g.room;
  grows = λ q m. rw (run_laws.insert_member n p q k.runs g.formed, g.grows q m, or-true);
  keeps = λ q m. get_or-set_other k.bytes p q b 0 (λ e. true≢false (sym (g.grows q m) ∙ rw e away)) ∙ g.keeps q m;
  writes = λ q m.
      let o : (eqb q p || member q k.runs) ≡ false = sym (run_laws.insert_member n p q k.runs g.formed) ∙ m in
      get_or-set_other k.bytes p q b 0 (eqb-false q p (or_left (eqb q p) (member q k.runs) o)) ∙ g.writes q (or_right (eqb q p) (member q k.runs) o);
}

-- the position of a data byte lies in the copy
abbrev Below : ℕ → Option ℕ → Type 0
Below n None = Unit {0}
Below n (Some q) = q < n

-- where there is one
below : (n : ℕ) (o : Option ℕ) → (has_position o ≡ true → Below n o) → Below n o
below n None f = tt
below n (Some q) f = f refl

-- where a reader may stand, it does
event_below : (t : List ℕ) (n : ℕ) (s : Stage) (m : ℕ) (k : Known) → Room t n s (suc m) k → Below n (event s)
event_below t n s m k h =
    below n (event s)
    (λ e. by_data (λ x. Room t n x (suc m) k → Below n (event x)) (λ next r. omega arith) (λ next left r. omega arith) s e h)

-- where a refused reader stands depends on nothing else
refused_room : (t : List ℕ) (n : ℕ) (s : Stage) (m m' : ℕ) (k k' : Known) → is_refused s ≡ true → Room t n s m k → Room t n s m' k'
refused_room t n s m m' k k' = by_refusal (λ x. Room t n x m k → Room t n x m' k') (λ i h. h) s

-- what feeding a copy under the tag t of n bytes, that held h, keeps
pub record TabletKept (t : List ℕ) (n : ℕ) (h : Held) (x : Tablet) : Type 0 where
  pub grown : Grown n h x.held
  pub reader : Reader t n x.parser

module _ (t : List ℕ) (n : ℕ) (h : Held) where
  -- what a byte leaves keeps it
  abbrev KeptByte : Byte → Type 0
  KeptByte y = TabletKept t n h y.tablet

  -- a byte that the copy refuses
  refused_kept : (x : Tablet) (k : ℕ) (next : Parser) → (11 ≤ k) × (k ≤ 17) → TabletKept t n h x → KeptByte (settled x (refused_by k) next)
  refused_kept x k next i g = record { grown = g.grown; reader = record { frame = g.reader.frame; stands = i } }

  -- a byte that the copy keeps
  settled_kept : (x : Tablet) (held : Held) (next : Parser) → Grown n h held → Reader t n next → TabletKept t n h x → KeptByte (settled x (kept held) next)
  settled_kept x held next g r before =
      by_test KeptByte (is_refused next.stage)
      (λ e. record {
        grown = before.grown;
        reader = record { frame = before.reader.frame; stands = refused_room t n next.stage _ _ _ _ e r.stands };
      })
      (λ e. record { grown = g; reader = r })

  -- a byte with its event
  stored_kept : (x : Tablet) (o : Option ℕ) (b : ℕ) (next : Parser) → Below n o → Reader t n next → TabletKept t n h x
      → KeptByte (settled x (take_in max_runs x.held o b) next)
  unfolding store
  stored_kept x None b next i r g = settled_kept x x.held next g.grown r g
  stored_kept x (Some p) b next i r g =
      by_test (λ (s : Stored). KeptByte (settled x s next)) (member p x.held.runs)
      (λ e. by_test (λ (s : Stored). KeptByte (settled x s next)) (eqb (get_or x.held.bytes p 0) b)
      (λ j. settled_kept x x.held next g.grown r g)
      (λ j. refused_kept x 17 next (omega arith) g))
      (λ e. by_test (λ (s : Stored). KeptByte (settled x s next)) (ltb max_runs (length (insert p x.held.runs)))
      (λ j. refused_kept x 16 next (omega arith) g)
      (λ j. settled_kept x _ next (added n h x.held p b g.grown i e (ltb-false _ _ j)) r g))

  -- a byte
  byte_kept : (x : Tablet) (b : ℕ) → TabletKept t n h x → KeptByte (feed_byte max_runs t n x b)
  unfolding feed_byte
  byte_kept x b g =
      by_test KeptByte (is_over x.parser.stage) (λ e. g)
      (λ e. stored_kept x (event x.parser.stage) b _ (event_below t n x.parser.stage _ _ g.reader.stands)
      (parse_keeps t n x.parser b g.reader) g)

  -- a piece
  pub feed_kept : (l : List ℕ) (x : Tablet) → TabletKept t n h x → TabletKept t n h (feed max_runs t n l x).tablet
  feed_kept [] x g = rw feed_nil g
  feed_kept (b ∷ l) x g = rw feed_cons (on (feed_byte max_runs t n x b) (byte_kept x b g) (feed_kept l _ (byte_kept x b g)))
    where
      on : (y : Byte) → KeptByte y → TabletKept t n h (feed max_runs t n l y.tablet).tablet
          → TabletKept t n h (feed_on y (feed max_runs t n l y.tablet)).tablet
      on y now rest = by_test (λ (f : Fed). TabletKept t n h f.tablet) y.is_taken (λ e. rest) (λ e. now)
