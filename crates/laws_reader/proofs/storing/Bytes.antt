-- Feeding a byte that the parser follows, and what it leaves of a piece.
-- Assumes nothing.
use Prim.Native.Nat.{ℕ, suc}
use mathlib.Core.Path.{◌≡◌, refl, ap}
use mathlib.Core.Bool.{true, false}
use mathlib.Core.List.{List, [], ◌∷◌}
use Rattle.rules_server.specs.Answers.{Cell, byte_of}
use Rattle.rules_tablet.specs.Parsers.{refuse}
use Rattle.rules_tablet.specs.Feeding.{Held, kept, refused_by, take_in, Tablet, Byte, feed_byte, feed_on, feed}
use Rattle.rules_demands.specs.FeedingFollowed.{position_of, next, Follows}

-- no byte
pub feed-none : (lim : ℕ) (tag : List ℕ) (n : ℕ) (t : Tablet) → feed lim tag n [] t ≡ record { tablet = t; taken = 0 }
unfolding feed_byte
feed-none lim tag n t = refl

-- the copy and the parser after a cell's byte that is kept
abbrev pub moved : List ℕ → ℕ → Tablet → Cell → Held → Tablet
moved tag n t c h = record { held = h; parser = next tag n t.parser c }

module _ (lim : ℕ) (tag : List ℕ) (n : ℕ) (t : Tablet) (c : Cell) where
  -- a byte that the parser follows and the copy keeps
  pub byte_kept : (h : Held) → Follows tag n t.parser c → take_in lim t.held (position_of c) (byte_of c) ≡ kept h
      → feed_byte lim tag n t (byte_of c) ≡ record { tablet = moved tag n t c h; is_taken = true }
  unfolding feed_byte
  byte_kept h f e = rw (f.going, f.carries, e, f.allowed)

  -- a byte that the parser follows and the copy refuses
  pub byte_refused : (k : ℕ) → Follows tag n t.parser c → take_in lim t.held (position_of c) (byte_of c) ≡ refused_by k
      → feed_byte lim tag n t (byte_of c) ≡ record { tablet = record { held = t.held; parser = refuse k t.parser }; is_taken = false }
  unfolding feed_byte
  byte_refused k f e = rw (f.going, f.carries, e)

  -- a piece whose first byte is kept
  pub feed_kept : (l : List ℕ) (h : Held) → Follows tag n t.parser c → take_in lim t.held (position_of c) (byte_of c) ≡ kept h
      → feed lim tag n (byte_of c ∷ l) t ≡ record {
        tablet = (feed lim tag n l (moved tag n t c h)).tablet;
        taken = suc (feed lim tag n l (moved tag n t c h)).taken;
      }
  unfolding feed_byte
  feed_kept l h f e = ap (λ (one : Byte). feed_on one (feed lim tag n l one.tablet)) (byte_kept h f e)

  -- a piece whose first byte is refused
  pub feed-refused : (l : List ℕ) (k : ℕ) → Follows tag n t.parser c → take_in lim t.held (position_of c) (byte_of c) ≡ refused_by k
      → feed lim tag n (byte_of c ∷ l) t ≡ record { tablet = record { held = t.held; parser = refuse k t.parser }; taken = 0 }
  unfolding feed_byte
  feed-refused l k f e = ap (λ (one : Byte). feed_on one (feed lim tag n l one.tablet)) (byte_refused k f e)
