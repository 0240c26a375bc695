-- Feeding several bytes at once, from where they take the parser and what the copy keeps of them.
-- Assumes nothing.
use Prim.Native.Nat.{ℕ, suc, ◌+◌}
use native.Mathlib.Omega.{arith}
use mathlib.Core.Path.{◌≡◌, refl, sym, ap, ◌∙◌}
use mathlib.Core.Bool.{true, false}
use mathlib.Core.List.{List, [], ◌∷◌, ◌++◌}
use Rattle.std.specs.Prelude.{Option, None}
use lib.ListN.{length}
use Rattle.rules_tablet.specs.Parsers.{Parser, at, refuse, parse, event, is_refused}
use Rattle.rules_tablet.specs.Feeding.{Held, Tablet, Fed, Byte, kept, refused_by, take_in, is_over, feed_byte, feed_on, feed}

-- what is held with where the parser stands
abbrev pub tablet_at : Held → Parser → Tablet
tablet_at h p = record { held = h; parser = p }

-- what feeding gives, with k bytes taken before it
abbrev pub ahead : ℕ → Fed → Fed
ahead k f = record { tablet = f.tablet; taken = k + f.taken }

-- no byte before it
pub ahead_zero : (f : Fed) → ahead 0 f ≡ f
ahead_zero f = let e : 0 + f.taken ≡ f.taken = omega arith in λ i. record { tablet = f.tablet; taken = e i }

-- j bytes and then k
pub ahead_add : (j k : ℕ) (f : Fed) → ahead j (ahead k f) ≡ ahead (j + k) f
ahead_add j k f = let e : j + (k + f.taken) ≡ j + k + f.taken = omega arith in λ i. record { tablet = f.tablet; taken = e i }

-- one byte
ahead_one : (f : Fed) → record { tablet = f.tablet; taken = suc f.taken } ≡ ahead 1 f
ahead_one f = let e : suc f.taken ≡ 1 + f.taken = omega arith in λ i. record { tablet = f.tablet; taken = e i }

-- a byte that the parser passes, with the event e
pub record Passes (tag : List ℕ) (n : ℕ) (e : Option ℕ) (b : ℕ) (p : Parser) : Type 0 where
  pub going : is_over p.stage ≡ false
  pub carries : event p.stage ≡ e
  pub allowed : is_refused (parse tag n p.stage b p).stage ≡ false

-- the bytes take the parser from p to q, with the events from ev next on
abbrev pub Moves : List ℕ → ℕ → (ℕ → Option ℕ) → ℕ → List ℕ → Parser → Parser → Type 0
Moves tag n ev next [] p q = p ≡ q
Moves tag n ev next (b ∷ l) p q = Passes tag n (ev next) b p × Moves tag n ev (suc next) l (parse tag n p.stage b p) q

-- the bytes with these events take what is held from h to k
abbrev pub Keeps : ℕ → (ℕ → Option ℕ) → ℕ → List ℕ → Held → Held → Type 0
Keeps lim ev next [] h k = h ≡ k
Keeps lim ev next (b ∷ l) h k = (m : Held) × (take_in lim h (ev next) b ≡ kept m) × Keeps lim ev (suc next) l m k

-- bytes of the framing: no event
abbrev pub framing : ℕ → Option ℕ
framing next = None

-- bytes of the framing change nothing held
pub framing_keeps : (lim next : ℕ) (l : List ℕ) (h : Held) → Keeps lim framing next l h h
framing_keeps lim next [] h = refl
framing_keeps lim next (b ∷ l) h = (h, refl, framing_keeps lim (suc next) l h)

module _ (lim : ℕ) (tag : List ℕ) (n : ℕ) where
  -- a first byte that is taken
  feed_first : (b : ℕ) (rest : List ℕ) (t u : Tablet) → feed_byte lim tag n t b ≡ record { tablet = u; is_taken = true }
      → feed lim tag n (b ∷ rest) t ≡ ahead 1 (feed lim tag n rest u)
  unfolding feed_byte
  feed_first b rest t u e = ap (λ (one : Byte). feed_on one (feed lim tag n rest one.tablet)) e ∙ ahead_one (feed lim tag n rest u)

  -- a first byte that is not taken
  feed_stop : (b : ℕ) (rest : List ℕ) (t u : Tablet) → feed_byte lim tag n t b ≡ record { tablet = u; is_taken = false }
      → feed lim tag n (b ∷ rest) t ≡ record { tablet = u; taken = 0 }
  unfolding feed_byte
  feed_stop b rest t u e = ap (λ (one : Byte). feed_on one (feed lim tag n rest one.tablet)) e

  -- a byte that the parser passes and the copy keeps
  byte_one : (b : ℕ) (h k : Held) (p : Parser) (e : Option ℕ) → Passes tag n e b p → take_in lim h e b ≡ kept k
      → feed_byte lim tag n (tablet_at h p) b ≡ record { tablet = tablet_at k (parse tag n p.stage b p); is_taken = true }
  unfolding feed_byte
  byte_one b h k p e f s = rw (f.going, f.carries, s, f.allowed)

  -- it is taken
  pub feed_one : (b : ℕ) (rest : List ℕ) (h k : Held) (p : Parser) (e : Option ℕ) → Passes tag n e b p → take_in lim h e b ≡ kept k
      → feed lim tag n (b ∷ rest) (tablet_at h p) ≡ ahead 1 (feed lim tag n rest (tablet_at k (parse tag n p.stage b p)))
  feed_one b rest h k p e f s = feed_first b rest (tablet_at h p) (tablet_at k (parse tag n p.stage b p)) (byte_one b h k p e f s)

  -- a byte that the copy refuses
  byte_refused : (b : ℕ) (h : Held) (p : Parser) (k : ℕ) → is_over p.stage ≡ false → take_in lim h (event p.stage) b ≡ refused_by k
      → feed_byte lim tag n (tablet_at h p) b ≡ record { tablet = tablet_at h (refuse k p); is_taken = false }
  unfolding feed_byte
  byte_refused b h p k o s = rw (o, s)

  -- it is not taken
  pub feed-refused : (b : ℕ) (rest : List ℕ) (h : Held) (p : Parser) (k : ℕ) → is_over p.stage ≡ false → take_in lim h (event p.stage) b ≡ refused_by k
      → feed lim tag n (b ∷ rest) (tablet_at h p) ≡ record { tablet = tablet_at h (refuse k p); taken = 0 }
  feed-refused b rest h p k o s = feed_stop b rest (tablet_at h p) (tablet_at h (refuse k p)) (byte_refused b h p k o s)

  -- a byte of the framing that the parser refuses
  byte_unfit : (b : ℕ) (h : Held) (p : Parser) → is_over p.stage ≡ false → event p.stage ≡ None → is_refused (parse tag n p.stage b p).stage ≡ true
      → feed_byte lim tag n (tablet_at h p) b ≡ record { tablet = tablet_at h (at (parse tag n p.stage b p).stage p); is_taken = false }
  unfolding feed_byte
  byte_unfit b h p o e r = rw (o, e, r)

  -- it is not taken
  pub feed_unfit : (b : ℕ) (rest : List ℕ) (h : Held) (p : Parser) → is_over p.stage ≡ false → event p.stage ≡ None
      → is_refused (parse tag n p.stage b p).stage ≡ true
      → feed lim tag n (b ∷ rest) (tablet_at h p) ≡ record { tablet = tablet_at h (at (parse tag n p.stage b p).stage p); taken = 0 }
  feed_unfit b rest h p o e r = feed_stop b rest (tablet_at h p) (tablet_at h (at (parse tag n p.stage b p).stage p)) (byte_unfit b h p o e r)

  -- a finished or refused reader takes none
  pub feed-over : (l : List ℕ) (t : Tablet) → is_over t.parser.stage ≡ true → feed lim tag n l t ≡ record { tablet = t; taken = 0 }
  unfolding feed_byte
  feed-over [] t o = refl
  feed-over (b ∷ l) t o = rw o

  -- bytes that the parser passes and the copy keeps are all taken
  pub feed_through : (ev : ℕ → Option ℕ) (next : ℕ) (l rest : List ℕ) (h k : Held) (p q : Parser) → Moves tag n ev next l p q → Keeps lim ev next l h k
      → feed lim tag n (l ++ rest) (tablet_at h p) ≡ ahead (length l) (feed lim tag n rest (tablet_at k q))
  feed_through ev next [] rest h k p q m s = rw (m, s) (sym (ahead_zero (feed lim tag n rest (tablet_at k q))))
  feed_through ev next (b ∷ l) rest h k p q m s =
      let e : 1 + length l ≡ suc (length l) = omega arith in
      feed_one b (l ++ rest) h s.0 p (ev next) m.0 s.1
      ∙ ap (ahead 1) (feed_through ev (suc next) l rest s.0 k (parse tag n p.stage b p) q m.1 s.2)
      ∙ ahead_add 1 (length l) (feed lim tag n rest (tablet_at k q))
      ∙ ap (λ (j : ℕ). ahead j (feed lim tag n rest (tablet_at k q))) e
