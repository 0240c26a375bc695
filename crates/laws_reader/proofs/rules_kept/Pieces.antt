-- Feeding piece by piece: two pieces end to end are their concatenation, and the taken bytes alone leave the same copy and buffer, and the same reader but for
-- where it stands.
-- Assumes nothing.
use Prim.Native.Nat.{ℕ, suc, ◌+◌, ◌≤◌}
use native.Mathlib.Omega.{arith}
use mathlib.Core.Path.{◌≡◌, refl}
use mathlib.Core.Bool.{Bool, true, false, true≢false}
use mathlib.Core.List.{List, [], ◌∷◌, ◌++◌}
use lib.ListN.{length, take}
use Rattle.rules_tablet.specs.Parsers.{Parser, at, parse, event, is_refused}
use Rattle.rules_tablet.specs.Feeding.{Held, Tablet, Fed, Byte, Stored, kept, refused_by, take_in, is_over, settled, feed_byte, feed_on, feed}
use Rattle.rules_tablet.specs.declared.Stage.{Stage}
use Rattle.rules_demands.specs.Demand1Reader.{Splits}
use Rattle.laws_reader.proofs.Stages.{by_refusal}
use Rattle.laws_reader.proofs.rules_kept.Tests.{by_test}

-- a refused parser takes no more
refused-over : (s : Stage) → is_refused s ≡ true → is_over s ≡ true
refused-over = by_refusal (λ s. is_over s ≡ true) (λ k. refl)

-- a byte that is not taken leaves a reader that takes no more
abbrev Ends : Byte → Type 0
Ends y = y.is_taken ≡ false → is_over y.tablet.parser.stage ≡ true

-- what is made of a stored byte is such
settled-ends : (t : Tablet) (s : Stored) (next : Parser) → Ends (settled t s next)
settled-ends t (refused_by k) next = λ e. refl
settled-ends t (kept h) next =
    by_test Ends (is_refused next.stage) (λ r e. refused-over next.stage r) (λ r e. absurd (true≢false e))

module _ (lim : ℕ) (tag : List ℕ) (n : ℕ) where
  -- a byte is such
  byte_ends : (t : Tablet) (b : ℕ) → Ends (feed_byte lim tag n t b)
  unfolding feed_byte
  byte_ends t b =
      by_test Ends (is_over t.parser.stage) (λ o e. o)
      (λ o. settled-ends t (take_in lim t.held (event t.parser.stage) b) (parse tag n t.parser.stage b t.parser))

  -- a piece of one byte and more
  pub feed_cons : (b : ℕ) (l : List ℕ) (t : Tablet)
      → feed lim tag n (b ∷ l) t ≡ feed_on (feed_byte lim tag n t b) (feed lim tag n l (feed_byte lim tag n t b).tablet)
  unfolding feed_byte
  feed_cons b l t = refl

  -- an empty piece
  pub feed_nil : (t : Tablet) → feed lim tag n [] t ≡ record { tablet = t; taken = 0 }
  unfolding feed_byte
  feed_nil t = refl

  -- a byte for a reader that takes no more leaves all as it is
  over_byte : (t : Tablet) (b : ℕ) → is_over t.parser.stage ≡ true → feed_byte lim tag n t b ≡ record { tablet = t; is_taken = false }
  unfolding feed_byte
  over_byte t b e = rw e

  -- and so does a piece
  pub over-feed : (l : List ℕ) (t : Tablet) → is_over t.parser.stage ≡ true → feed lim tag n l t ≡ record { tablet = t; taken = 0 }
  over-feed [] t e = feed_nil t
  over-feed (b ∷ l) t e = rw (feed_cons, over_byte t b e)

  -- of two pieces, by the first one's first byte
  splits_on :
      (y : Byte) (whole front : Fed) (b : List ℕ) → Ends y
      → (whole.tablet ≡ (feed lim tag n b front.tablet).tablet) × (whole.taken ≡ front.taken + (feed lim tag n b front.tablet).taken)
      → ((feed_on y whole).tablet ≡ (feed lim tag n b (feed_on y front).tablet).tablet)
      × ((feed_on y whole).taken ≡ (feed_on y front).taken + (feed lim tag n b (feed_on y front).tablet).taken)
  splits_on y whole front b ends rest = go y.is_taken refl
    where
      go : (i : Bool) → y.is_taken ≡ i
          → ((feed_on y whole).tablet ≡ (feed lim tag n b (feed_on y front).tablet).tablet)
          × ((feed_on y whole).taken ≡ (feed_on y front).taken + (feed lim tag n b (feed_on y front).tablet).taken)
      go true e = rw e (rest.0, omega (arith, rest.1))
      go false e = rw (e, over-feed b y.tablet (ends e)) (refl, omega arith)

  -- of two pieces
  splits_at :
      (a b : List ℕ) (t : Tablet)
      → ((feed lim tag n (a ++ b) t).tablet ≡ (feed lim tag n b (feed lim tag n a t).tablet).tablet)
      × ((feed lim tag n (a ++ b) t).taken ≡ (feed lim tag n a t).taken + (feed lim tag n b (feed lim tag n a t).tablet).taken)
  splits_at [] b t = rw feed_nil (refl, omega arith)
  splits_at (x ∷ a) b t =
      rw (feed_cons x (a ++ b) t, feed_cons x a t)
      (splits_on (feed_byte lim tag n t x) _ _ b (byte_ends t x) (splits_at a b (feed_byte lim tag n t x).tablet))

  -- a byte is taken at most once
  taken_on : (y : Byte) (r : Fed) (k : ℕ) → r.taken ≤ k → (feed_on y r).taken ≤ suc k
  taken_on y r k h = by_test (λ (f : Fed). f.taken ≤ suc k) y.is_taken (λ i. omega arith) (λ i. omega arith)

  -- no more bytes are taken than there are
  pub taken_le : (l : List ℕ) (t : Tablet) → (feed lim tag n l t).taken ≤ length l
  taken_le [] t = rw feed_nil (omega arith)
  taken_le (b ∷ l) t = rw feed_cons (taken_on (feed_byte lim tag n t b) _ (length l) (taken_le l (feed_byte lim tag n t b).tablet))

  -- a refused byte leaves copy and buffer as they were
  abbrev Stays : Held → Byte → Type 0
  Stays h y = y.is_taken ≡ false → y.tablet.held ≡ h

  -- a byte is such
  byte_stays : (t : Tablet) (b : ℕ) → Stays t.held (feed_byte lim tag n t b)
  unfolding feed_byte
  byte_stays t b =
      by_test (Stays t.held) (is_over t.parser.stage) (λ o e. refl)
      (λ o. go (take_in lim t.held (event t.parser.stage) b) (parse tag n t.parser.stage b t.parser))
    where
      go : (s : Stored) (next : Parser) → Stays t.held (settled t s next)
      go (refused_by k) next = λ e. refl
      go (kept h) next = by_test (Stays t.held) (is_refused next.stage) (λ r e. refl) (λ r e. absurd (true≢false e))

  -- the taken bytes alone leave the same copy and buffer
  pub front-held : (l : List ℕ) (t : Tablet) → (feed lim tag n l t).tablet.held ≡ (feed lim tag n (take (feed lim tag n l t).taken l) t).tablet.held
  front-held [] t = rw feed_nil (rw feed_nil)
  front-held (b ∷ l) t = rw (feed_cons b l t) (go (feed_byte lim tag n t b).is_taken refl (front-held l (feed_byte lim tag n t b).tablet))
    where
      y : Byte
      y = feed_byte lim tag n t b

      go : (i : Bool) → y.is_taken ≡ i
          → (feed lim tag n l y.tablet).tablet.held ≡ (feed lim tag n (take (feed lim tag n l y.tablet).taken l) y.tablet).tablet.held
          → (feed_on y (feed lim tag n l y.tablet)).tablet.held
          ≡ (feed lim tag n (take (feed_on y (feed lim tag n l y.tablet)).taken (b ∷ l)) t).tablet.held
      go true e h = rw e (rw (feed_cons, e) h)
      go false e h = rw e (rw feed_nil (byte_stays t b e))

  -- a refused byte leaves the reader as it was, but for where it stands
  abbrev Stands : Parser → Byte → Type 0
  Stands p y = y.is_taken ≡ false → y.tablet.parser ≡ at y.tablet.parser.stage p

  -- a byte is such
  byte_stands : (t : Tablet) (b : ℕ) → Stands t.parser (feed_byte lim tag n t b)
  unfolding feed_byte
  byte_stands t b =
      by_test (Stands t.parser) (is_over t.parser.stage) (λ o e. refl)
      (λ o. go (take_in lim t.held (event t.parser.stage) b) (parse tag n t.parser.stage b t.parser))
    where
      go : (s : Stored) (next : Parser) → Stands t.parser (settled t s next)
      go (refused_by k) next = λ e. refl
      go (kept h) next = by_test (Stands t.parser) (is_refused next.stage) (λ r e. refl) (λ r e. absurd (true≢false e))

  -- the taken bytes alone leave the same reader, but for where it stands
  pub front_parser :
      (l : List ℕ) (t : Tablet)
      → (feed lim tag n l t).tablet.parser
      ≡ at (feed lim tag n l t).tablet.parser.stage (feed lim tag n (take (feed lim tag n l t).taken l) t).tablet.parser
  front_parser [] t = rw feed_nil (rw feed_nil)
  front_parser (b ∷ l) t = rw (feed_cons b l t) (go (feed_byte lim tag n t b).is_taken refl (front_parser l (feed_byte lim tag n t b).tablet))
    where
      y : Byte
      y = feed_byte lim tag n t b

      go : (i : Bool) → y.is_taken ≡ i
          → (feed lim tag n l y.tablet).tablet.parser
          ≡ at (feed lim tag n l y.tablet).tablet.parser.stage (feed lim tag n (take (feed lim tag n l y.tablet).taken l) y.tablet).tablet.parser
          → (feed_on y (feed lim tag n l y.tablet)).tablet.parser
          ≡ at (feed_on y (feed lim tag n l y.tablet)).tablet.parser.stage
          (feed lim tag n (take (feed_on y (feed lim tag n l y.tablet)).taken (b ∷ l)) t).tablet.parser
      go true e h = rw e (rw (feed_cons, e) h)
      go false e h = rw e (rw feed_nil (byte_stands t b e))

-- feeding two pieces end to end is feeding their concatenation
pub splits : Splits
splits lim tag n a b t = splits_at lim tag n a b t
