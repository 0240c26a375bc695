-- The calls of one answer, one after the other, are one feeding of its delivered bytes.
use Prim.Native.Nat.{ℕ, ◌+◌}
use mathlib.Core.Path.{◌≡◌, refl, sym, ◌∙◌}
use mathlib.Core.Bool.{true}
use mathlib.Core.List.{List, [], ◌∷◌, ◌++◌}
use native.Mathlib.Omega.{arith}
use Rattle.rules_tablet.specs.Limits.{max_runs}
use Rattle.rules_tablet.specs.Parsers.{Parser}
use Rattle.rules_tablet.specs.Feeding.{Tablet, feed_byte, feed}
use Rattle.rules_tablet.specs.Calls.{State, feedable, feed_call, feeding_of, tablet_of}
use Rattle.rules_demands.specs.Demand3Sessions.{Event, piece, ask, delivered, Session, after_feed, after_ask, run_events}
use Rattle.rules_demands.specs.Demand1Reader.{Splits, FairAlways}
use Rattle.rules_demands.specs.Demand3.{taken_in}

-- the session's tablet
abbrev pub tablet_in : Session → Tablet
tablet_in s = tablet_of s.copy s.reader s.buffer

-- the session's rules hold
abbrev pub Able : Session → Type 0
Able s = feedable s.copy s.reader s.buffer ≡ true

-- feeding, where the rules hold
pub feed_able : (c : State) (p : Parser) (buffer l : List ℕ) → feedable c p buffer ≡ true
    → feed_call c p buffer l ≡ feeding_of c (feed max_runs c.tag c.length l (tablet_of c p buffer))
unfolding feed_call
feed_able c p buffer l e = rw e refl

-- what a session's calls leave: the tablet of one feeding; tag and length as they were
pub record Ran (s : Session) (l : List ℕ) (k : ℕ) (e : Session) : Type 0 where
  pub tablet : tablet_in e ≡ (feed max_runs s.copy.tag s.copy.length l (tablet_in s)).tablet
  pub tag : e.copy.tag ≡ s.copy.tag
  pub size : e.copy.length ≡ s.copy.length
  pub able : Able e
  pub taken : taken_in e.said ≡ k + (feed max_runs s.copy.tag s.copy.length l (tablet_in s)).taken

-- nothing fed is nothing changed
pub feed_nothing : (lim : ℕ) (tag : List ℕ) (n : ℕ) (t : Tablet) → feed lim tag n [] t ≡ record { tablet = t; taken = 0 }
unfolding feed_byte
feed_nothing lim tag n t = refl

module _ (splits : Splits) (fair : FairAlways) where
  -- one piece, and then the rest
  ran_piece : (l r : List ℕ) (s e : Session)
      → Ran (after_feed s (feeding_of s.copy (feed max_runs s.copy.tag s.copy.length l (tablet_in s)))) r
      ((feed max_runs s.copy.tag s.copy.length l (tablet_in s)).taken + taken_in s.said) e
      → Ran s (l ++ r) (taken_in s.said) e
  ran_piece l r s e h =
      let x = splits max_runs s.copy.tag s.copy.length l r (tablet_in s) in
      let y = h.taken in
      let z = x.1 in
      record {
        tablet = h.tablet ∙ sym x.0;
        tag = h.tag;
        size = h.size;
        able = h.able;
        taken = omega arith;
      }

  pub run_events_lem : (es : List Event) (s : Session) → Able s → Ran s (delivered es) (taken_in s.said) (run_events es s)
  run_events_lem [] s a =
      let z = feed_nothing max_runs s.copy.tag s.copy.length (tablet_in s) in
      record { tablet = rw z refl; tag = refl; size = refl; able = a; taken = rw z (omega arith) }
  run_events_lem (ask out ∷ es) s a =
      let h = run_events_lem es (after_ask s out) a in
      record { tablet = h.tablet; tag = h.tag; size = h.size; able = h.able; taken = h.taken }
  run_events_lem (piece l ∷ es) s a =
      let h = run_events_lem es (after_feed s (feed_call s.copy s.reader s.buffer l)) ((fair s.copy s.reader s.buffer l).rules a) in
      rw (feed_able s.copy s.reader s.buffer l a)
      (ran_piece l (delivered es) s (run_events es (after_feed s (feeding_of s.copy (feed max_runs s.copy.tag s.copy.length l (tablet_in s)))))
      (rw (feed_able s.copy s.reader s.buffer l a) at h))
