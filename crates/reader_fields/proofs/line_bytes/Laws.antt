-- The number of bytes at the front that may stand in a line: behind some of them, in a front, and what those bytes are.
-- Assumes nothing.
use Prim.Native.Nat.{ℕ, zero, suc, ◌+◌, ◌≤◌, min}
use native.Mathlib.Omega.{arith}
use mathlib.Core.Path.{◌≡◌, refl, ap}
use mathlib.Core.Bool.{Bool, true, false, cond, ◌&&◌, and-eq-true_iff}
use mathlib.Core.List.{List, [], ◌∷◌}
use lib.ListN.{length, take, drop}
use lib.Seq.{drop-drop}
use Rattle.std.specs.Prelude.{take_while}
use Rattle.std.proofs.lemmas.List.Sums.{take_while-cons}
use Rattle.rules_server.specs.Octets.{all}
use Rattle.rules_tablet.specs.Lines.{is_line_byte}
use Rattle.reader_fields.specs.Runs.{leading}

-- no more than there are
pub leading_le : (l : List ℕ) → leading l ≤ length l
leading_le [] = omega arith
leading_le (b ∷ l) = go (is_line_byte b) (leading_le l)
  where
    go : (x : Bool) → leading l ≤ length l → cond x (suc (leading l)) 0 ≤ suc (length l)
    go true u = omega arith
    go false u = omega arith

-- those of a front
pub leading-take : (m : ℕ) (l : List ℕ) → leading (take m l) ≡ min m (leading l)
leading-take zero l = omega arith
leading-take (suc m) [] = omega arith
leading-take (suc m) (b ∷ l) = go (is_line_byte b) (leading-take m l)
  where
    go : (x : Bool) → leading (take m l) ≡ min m (leading l) → cond x (suc (leading (take m l))) 0 ≡ min (suc m) (cond x (suc (leading l)) 0)
    go true e = omega arith
    go false e = omega arith

-- behind bytes that may
pub leading-behind : (k : ℕ) (l : List ℕ) → k ≤ length l → all is_line_byte (take k l) ≡ true → leading l ≡ k + leading (drop k l)
leading-behind zero l u e = omega arith
leading-behind (suc k) [] u e = absurd (omega arith)
leading-behind (suc k) (b ∷ l) u e =
    let h = (and-eq-true_iff (is_line_byte b) (all is_line_byte (take k l))).0 e in
    rw h.0 (omega (arith, leading-behind k l (omega arith) h.1))

-- behind bytes that may, and behind more where that holds of the rest
pub leading_more : (n m : ℕ) (l : List ℕ) → n ≤ length l → all is_line_byte (take n l) ≡ true → leading (drop n l) ≡ m + leading (drop m (drop n l))
    → leading l ≡ n + m + leading (drop (n + m) l)
leading_more n m l u e h = rw (← drop-drop m n l) (omega (arith, leading-behind n l u e, h))

-- those that std counts
pub leading_is : (l : List ℕ) → length (take_while is_line_byte l) ≡ leading l
leading_is [] = refl
leading_is (b ∷ l) = rw (take_while-cons is_line_byte b l) (go (is_line_byte b) (leading_is l)) where
  go : (x : Bool) → length (take_while is_line_byte l) ≡ leading l → length (cond x (b ∷ take_while is_line_byte l) []) ≡ cond x (suc (leading l)) 0
  go true h = ap suc h
  go false h = refl

-- they may stand in a line
pub leading_fit : (k : ℕ) (l : List ℕ) → k ≤ leading l → all is_line_byte (take k l) ≡ true
leading_fit zero l u = refl
leading_fit (suc k) [] u = refl
leading_fit (suc k) (b ∷ l) u = go (is_line_byte b) refl u (leading_fit k l)
  where
    go : (x : Bool) → is_line_byte b ≡ x → suc k ≤ cond x (suc (leading l)) 0 → (k ≤ leading l → all is_line_byte (take k l) ≡ true)
        → (is_line_byte b && all is_line_byte (take k l)) ≡ true
    go true e v h = rw (e, h (omega arith))
    go false e v h = absurd (omega arith)
