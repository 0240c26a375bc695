-- A loop over a piece: how far it is, and what the rest of the piece still does, is what the whole piece does.
-- Assumes nothing.
use Prim.Native.Nat.{ℕ, ◌+◌, ◌≤◌, ◌<◌}
use native.Mathlib.Omega.{arith}
use native.Mathlib.Numerals.{add-one}
use mathlib.Core.Path.{◌≡◌, sym, ap, ◌∙◌}
use mathlib.Core.Bool.{true}
use mathlib.Core.List.{List, ◌∷◌, ◌++◌}
use lib.ListN.{length, get_or, take, drop, length-drop, take-append-drop, drop_of_length-le}
use lib.Seq.{drop-cons, drop-drop, length-take-le}
use Rattle.rules_tablet.specs.Feeding.{Tablet, is_over, feed_byte, feed}
use Rattle.laws_reader.proofs.at_once.Steps.{ahead, ahead_zero, ahead_add, feed-over}

-- k bytes of a piece from i on
abbrev pub part : ℕ → ℕ → List ℕ → List ℕ
part i k piece = take k (drop i piece)

-- so many there are
pub part_length_lem : (i k : ℕ) (piece : List ℕ) → i + k ≤ length piece → length (part i k piece) ≡ k
part_length_lem i k piece u = length-take-le k (drop i piece) (rw length-drop (omega arith))

-- the piece from i on is k bytes and those behind them
pub part_rest : (i k : ℕ) (piece : List ℕ) → part i k piece ++ drop (i + k) piece ≡ drop i piece
part_rest i k piece = rw (← drop-drop k i piece) (take-append-drop k (drop i piece))

-- the piece from i on is a byte and those behind it
pub byte_rest : (i : ℕ) (piece : List ℕ) → i < length piece → get_or piece i 0 ∷ drop (i + 1) piece ≡ drop i piece
byte_rest i piece u = rw add-one (sym (drop-cons piece i 0 u))

module _ (lim : ℕ) (tag : List ℕ) (n : ℕ) (piece : List ℕ) (t : Tablet) where
  -- behind i bytes, all taken, the tablet is u
  abbrev pub Reached : ℕ → Tablet → Type 0
  Reached i u = feed lim tag n piece t ≡ ahead i (feed lim tag n (drop i piece) u)

  -- before the first byte
  pub reached_none : Reached 0 t
  reached_none = sym (ahead_zero (feed lim tag n piece t))

  module _ (i : ℕ) (u : Tablet) (r : Reached i u) where
    -- k bytes more
    pub reached_on : (k : ℕ) (v : Tablet) → feed lim tag n (part i k piece ++ drop (i + k) piece) u ≡ ahead k (feed lim tag n (drop (i + k) piece) v)
        → Reached (i + k) v
    reached_on k v e = r ∙ ap (ahead i) (rw (part_rest i k piece) at e) ∙ ahead_add i k (feed lim tag n (drop (i + k) piece) v)

    -- one byte more
    pub reached_one : (v : Tablet) → i < length piece
        → feed lim tag n (get_or piece i 0 ∷ drop (i + 1) piece) u ≡ ahead 1 (feed lim tag n (drop (i + 1) piece) v) → Reached (i + 1) v
    reached_one v l e = r ∙ ap (ahead i) (rw (byte_rest i piece l) at e) ∙ ahead_add i 1 (feed lim tag n (drop (i + 1) piece) v)

    -- the rest is not taken
    pub reached_stop : (v : Tablet) → feed lim tag n (drop i piece) u ≡ record { tablet = v; taken = 0 }
        → feed lim tag n piece t ≡ record { tablet = v; taken = i }
    reached_stop v e =
        let z : i + 0 ≡ i = omega arith in
        r ∙ ap (ahead i) e ∙ (λ j. record { tablet = v; taken = z j })

    -- the next byte is refused
    pub reached_refused : (v : Tablet) → i < length piece → feed lim tag n (get_or piece i 0 ∷ drop (i + 1) piece) u ≡ record { tablet = v; taken = 0 }
        → feed lim tag n piece t ≡ record { tablet = v; taken = i }
    reached_refused v l e = reached_stop v (rw (byte_rest i piece l) at e)

    -- no byte is left
    pub reached_end : length piece ≤ i → feed lim tag n piece t ≡ record { tablet = u; taken = i }
    unfolding feed_byte
    reached_end l = reached_stop u (rw (drop_of_length-le piece l))

    -- the reader is finished or has refused
    pub reached_over : is_over u.parser.stage ≡ true → feed lim tag n piece t ≡ record { tablet = u; taken = i }
    reached_over o = reached_stop u (feed-over lim tag n (drop i piece) u o)
