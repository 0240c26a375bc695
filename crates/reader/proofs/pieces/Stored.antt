-- Bytes stored piece by piece: what is still to be stored makes of a part what all of it makes of the part before.
-- Assumes nothing.
use Prim.Native.Nat.{ℕ, suc, ◌+◌, ◌-◌, ◌≤◌}
use native.Mathlib.Nat.{add-zero, sub-zero}
use native.Mathlib.Omega.{arith}
use mathlib.Core.Path.{◌≡◌, refl, sym, ap, ◌∙◌}
use mathlib.Core.List.{List, [], ◌∷◌, ◌++◌}
use lib.ListN.{length, set, take, drop, length-drop, take-append-drop}
use lib.Seq.{sets, length-sets, length-take-le, drop-drop}
use borrow.Author.Tests.{le-leb}
use Rattle.octets.specs.Overwriting.{overwritten}

-- bytes stored behind others
sets_append : (l : List ℕ) (i : ℕ) (a b : List ℕ) → sets l i (a ++ b) ≡ sets (sets l i a) (i + length a) b
sets_append l i [] b = ap (λ (k : ℕ). sets l k b) (sym (add-zero i))
sets_append l i (x ∷ a) b = sets_append (set l i x) (suc i) a b ∙ ap (λ (k : ℕ). sets (sets (set l i x) (suc i) a) k b) (omega arith)

-- the bytes of a piece, from i up to e, before those behind them
piece_stored : (part src : List ℕ) (i e : ℕ) → i ≤ e → e ≤ length src → sets (sets part i (take (e - i) (drop i src))) e (drop e src) ≡ sets part i (drop i src)
piece_stored part src i e u v =
    let long : length (take (e - i) (drop i src)) ≡ e - i = length-take-le (e - i) (drop i src) (rw length-drop (omega arith)) in
    let behind : i + length (take (e - i) (drop i src)) ≡ e = omega (arith, long) in
    let sum : i + (e - i) ≡ e = omega arith in
    let rest : drop (e - i) (drop i src) ≡ drop e src = drop-drop (e - i) i src ∙ ap (λ (k : ℕ). drop k src) sum in
    sym (ap (sets part i) (sym (take-append-drop (e - i) (drop i src))) ∙ sets_append part i (take (e - i) (drop i src)) (drop (e - i) (drop i src))
    ∙ rw (behind, rest))

-- bytes that fit are stored
pub stored : (part : List ℕ) (i : ℕ) (vs : List ℕ) → i + length vs ≤ length part → overwritten part i vs ≡ sets part i vs
stored part i vs u = rw (le-leb (i + length vs) (length part) u)

-- a piece from i up to e, where what is still to be stored makes `done` of the part
pub next_piece : (part src done : List ℕ) (i e k : ℕ) → i ≤ e → e ≤ length src → length src ≤ length part → sets part i (drop i src) ≡ done → length part ≡ k
    → let after = overwritten part i (take (e - i) (drop i src)) in (e ≤ length src) × (sets after e (drop e src) ≡ done) × (length after ≡ k)
    × (length src ≤ length after)
next_piece part src done i e k u v w h l =
    let long : length (take (e - i) (drop i src)) ≡ e - i = length-take-le (e - i) (drop i src) (rw length-drop (omega arith)) in
    let same = length-sets part i (take (e - i) (drop i src)) in
    rw (stored part i (take (e - i) (drop i src)) (omega (arith, long, w)))
    (v, piece_stored part src i e u v ∙ h, same ∙ l, rw same w)

-- the first piece
pub first_piece : (part src : List ℕ) (e : ℕ) → e ≤ length src → length src ≤ length part
    → let after = overwritten part 0 (take e src) in (e ≤ length src) × (sets after e (drop e src) ≡ sets part 0 src) × (length after ≡ length part)
    × (length src ≤ length after)
first_piece part src e v w = rw (sub-zero e) at (next_piece part src (sets part 0 src) 0 e (length part) (omega arith) v w refl refl)
