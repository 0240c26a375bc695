-- The laws of writing into a buffer: one text behind another, and what a whole text leaves in the buffer. Assumes nothing.
use Prim.Native.Nat.{ℕ, zero, suc, ◌+◌, ◌-◌, ◌≤◌, min, max}
use mathlib.Core.Path.{◌≡◌, refl, sym, ap, subst, ◌∙◌}
use mathlib.Core.Bool.{Bool, true, false}
use mathlib.Core.List.{List, [], ◌∷◌, ◌++◌, append_assoc}
use native.Mathlib.Nat.{zero-add}
use native.Mathlib.Numerals.{add-one}
use native.Mathlib.Omega.{arith}
use lib.Dec.{ltb}
use lib.ListN.{length, take, drop, set, length-set, drop_of_length-le, length-drop}
use lib.Seq.{sets, length-sets, sets-eq, set_out, take-nil, drop-nil, take-length}
use Rattle.std.proofs.Common.{length-take}
use borrow.Author.Rules.{rules}
use borrow.Author.Tests.{ltb-true, ltb-false, le-leb}
use borrow.Rule.Slice.PartMut.{put_mid}
use Rattle.std.proofs.lemmas.Slice.{put_mid-paste}
use Rattle.octets.specs.Overwriting.{overwritten as over}
use Rattle.writing.specs.declared.window.Writer.{Writer}
use Rattle.writing.specs.Window.{Window, Wrote, window_of, write, store, put_byte}

-- ---- stores past the end of a list

-- from behind its end on, stores leave a list as it is
sets_out : (vs l : List ℕ) (i : ℕ) → length l ≤ i → sets l i vs ≡ l
sets_out [] l i h = refl
sets_out (a ∷ vs) l i h = rw (set_out l i a h) (sets_out vs l (suc i) (omega arith))

-- stores reach only as far as the list does
sets_room : (vs l : List ℕ) (i r : ℕ) → length l ≤ i + r → sets l i (take r vs) ≡ sets l i vs
sets_room [] l i r h = ap (sets l i) (take-nil r)
sets_room (a ∷ vs) l i zero h = sym (sets_out (a ∷ vs) l i (omega arith))
sets_room (a ∷ vs) l i (suc r) h = sets_room vs (set l i a) (suc i) r (rw length-set (omega arith))

-- ---- one text behind another

-- nothing written changes nothing
pub nothing : (w : Window) → write [] w ≡ w
unfolding write
nothing w = refl

-- two texts end to end are the second written behind the first
pub seq : (a b : List ℕ) (w : Window) → write (a ++ b) w ≡ write b (write a w)
unfolding write
seq [] b w = refl
seq (x ∷ a) b w = seq a b (put_byte x w.bytes w.skip w.at)

-- a text goes out byte by byte
pub one_by_one : (x : ℕ) (l : List ℕ) (w : Window) → write (x ∷ l) w ≡ write l (write (x ∷ []) w)
unfolding write
one_by_one x l w = refl

-- for `grind`: texts in a row, with short literals among them
pub ruleset writes = (nothing, seq, one_by_one)

-- two calls, one behind the other, write their texts end to end
pub both : (a b : List ℕ) (w : Window) {v u : Window} → v ≡ write a w → u ≡ write b v → u ≡ write (a ++ b) w
both a b w first second = second ∙ ap (write b) first ∙ sym (seq a b w)

-- ---- a whole text at once

-- windows with the same bytes and the same place are the same
pub same : {o o' : List ℕ} {s s' a a' : ℕ} → o ≡ o' → s ≡ s' → a ≡ a'
    → ◌≡◌ {A = Window} (record { bytes = o; skip = s; at = a }) (record { bytes = o'; skip = s'; at = a' })
same p q r = λ i. record { bytes = p i; skip = q i; at = r i }

-- what a text leaves in a buffer
abbrev left : List ℕ → List ℕ → ℕ → ℕ → Window
left l out s at = record { bytes = sets out at (drop s l); skip = s - length l; at = max at (min (length out) (at + (length l - s))) }

-- a byte stored where there is room, or dropped where there is none, and a text behind it
stored : (b : ℕ) (l out : List ℕ) (at : ℕ) (t : Bool) → ltb at (length out) ≡ t
    → write l (record { bytes = set out at b; skip = 0; at = at + 1 }) ≡ left l (set out at b) 0 (at + 1)
    → write l (record { bytes = out; skip = 0; at = at }) ≡ left l out 0 at → write l (store b out at) ≡ left (b ∷ l) out 0 at
stored b l out at true e room none = rw e
    (room ∙ same (ap (λ k. sets (set out at b) k l) (add-one at)) (omega arith) (rw length-set (omega (arith, ltb-true at (length out) e))))
stored b l out at false e room none =
    let h : length out ≤ at = ltb-false at (length out) e in
    rw e (none ∙ same (sets_out l out at h ∙ sym (sets_out (b ∷ l) out at h)) (omega arith) (omega arith))

-- what a text leaves: its bytes behind the skip are stored from the place on, as far as the buffer goes
pub written : (l out : List ℕ) (s at : ℕ) → write l (record { bytes = out; skip = s; at = at }) ≡ record {
  bytes = sets out at (drop s l);
  skip = s - length l;
  at = max at (min (length out) (at + (length l - s)));
}
unfolding write
written [] out s at = same (ap (sets out at) (sym (drop-nil s))) (omega arith) (omega arith)
written (b ∷ l) out (suc k) at = written l out k at ∙ same refl (omega arith) (omega arith)
written (b ∷ l) out zero at = stored b l out at (ltb at (length out)) refl (written l (set out at b) zero (at + 1)) (written l out zero at)

-- the skip is not used up: the text is passed over whole
pub passed : (l out : List ℕ) (s at : ℕ) → length l ≤ s
    → write l (record { bytes = out; skip = s; at = at }) ≡ record { bytes = out; skip = s - length l; at = at }
passed l out s at h = written l out s at ∙ same (ap (sets out at) (drop_of_length-le l h)) refl (omega arith)

-- what stands behind the skip is stored
pub behind : (l out : List ℕ) (s at : ℕ) → s ≤ length l
    → write l (record { bytes = out; skip = s; at = at }) ≡ write (drop s l) (record { bytes = out; skip = 0; at = at })
behind l out s at h =
    written l out s at ∙ same refl (omega arith) (omega (arith, length-drop s l)) ∙ sym (written (drop s l) out 0 at)

-- the buffer is full: it stays as it is
pub full : (l out : List ℕ) (s at : ℕ) → length out ≤ at
    → write l (record { bytes = out; skip = s; at = at }) ≡ record { bytes = out; skip = s - length l; at = at }
full l out s at h = written l out s at ∙ same (sets_out (drop s l) out at h) refl (omega arith)

-- there is room: all that stands behind the skip is stored
pub stores : (l out : List ℕ) (s at : ℕ) → s ≤ length l → at + (length l - s) ≤ length out
    → write l (record { bytes = out; skip = s; at = at }) ≡ record { bytes = sets out at (drop s l); skip = 0; at = at + (length l - s) }
stores l out s at h room = written l out s at ∙ same refl (omega arith) (omega arith)

-- the buffer gets full: it is stored as far as there is room
pub fills : (l out : List ℕ) (s at : ℕ) → at ≤ length out → length out ≤ at + (length l - s) → s ≤ length l
    → write l (record { bytes = out; skip = s; at = at }) ≡ record { bytes = sets out at (take (length out - at) (drop s l)); skip = 0; at = length out }
fills l out s at h over passed = written l out s at ∙ same (sym (sets_room (drop s l) out at (length out - at) (omega arith))) (omega arith) (omega arith)

-- a buffer keeps its length
pub keeps_length : (l : List ℕ) (w : Window) → length (write l w).bytes ≡ length w.bytes
keeps_length l w = ap (λ (v : Window). length v.bytes) (written l w.bytes w.skip w.at) ∙ length-sets w.bytes w.at (drop w.skip l)

-- the whole text from the front of a buffer that is long enough; what lies beyond stays
pub whole : (l out : List ℕ) → length l ≤ length out
    → write l (record { bytes = out; skip = 0; at = 0 }) ≡ record { bytes = l ++ drop (length l) out; skip = 0; at = length l }
whole l out h = stores l out 0 0 (omega arith) (omega arith) ∙ same (sets-eq l out 0 (omega arith) ∙ rw zero-add) refl (omega arith)

-- what is left of the skip: the part of it that is gone is the length of the text, so an enormous skip measures a text
pub measured : (l out : List ℕ) (s at : ℕ) → (write l (record { bytes = out; skip = s; at = at })).skip ≡ s - length l
measured l out s at = ap (λ (v : Window). v.skip) (written l out s at)

-- no more of a text is stored than there is room for
pub as_far : (l out : List ℕ) (s at r : ℕ) → s ≡ 0 → length out ≤ at + r
    → write (take r l) (record { bytes = out; skip = s; at = at }) ≡ write l (record { bytes = out; skip = s; at = at })
as_far l out s at r e h = rw e
    (written (take r l) out 0 at ∙ same (sets_room l out at r h) (omega arith) (omega (arith, length-take r l)) ∙ sym (written l out 0 at))

-- a part of the buffer that is overwritten with a text
pub overwritten : (out text ys : List ℕ) (at k : ℕ) → ys ≡ text → length text ≡ k → at + length text ≤ length out → put_mid at k out ys ≡ sets out at text
overwritten out text ys at k e n h = put_mid-paste at k out ys text k e refl (sym n) ∙ rw (← n, take-length) (sym (sets-eq text out at h))

-- the same, as a writer leaves the buffer
pub put_whole : (text out ys : List ℕ) (s at k : ℕ) → s ≡ 0 → ys ≡ text → length text ≡ k → at + length text ≤ length out
    → ◌≡◌ {A = Window} (record { bytes = put_mid at k out ys; skip = s; at = at + length text })
    (write text (record { bytes = out; skip = s; at = at }))
put_whole text out ys s at k z e n h = rw z
    (same (overwritten out text ys at k e n h) refl (omega arith) ∙ sym (stores text out 0 at (omega arith) (omega arith)))

-- the same where the text is put over the buffer's bytes
pub put_over : (text out ys : List ℕ) (s at : ℕ) → s ≡ 0 → ys ≡ over out at text → at + length text ≤ length out
    → ◌≡◌ {A = Window} (record { bytes = ys; skip = s; at = at + length text }) (write text (record { bytes = out; skip = s; at = at }))
put_over text out ys s at z e h =
    let fits : over out at text ≡ sets out at text = rw (le-leb (at + length text) (length out) h) refl in
    rw z (same (e ∙ fits) refl (omega arith) ∙ sym (stores text out 0 at (omega arith) (omega arith)))

-- ---- writers

-- a writer that writes two texts writes them end to end
pub append : {a b : List ℕ} {w v u : Writer} → Wrote a w v → Wrote b v u → Wrote (a ++ b) w u
append {a} {b} {w} {v} {u} first second = record { name = second.name ∙ first.name; bytes = both a b (window_of w) first.bytes second.bytes }

-- the same for a text that begins with a literal, which is no `++` where it has computed
pub lead : {a t : List ℕ} {w v u : Writer} → Wrote a w v → a ++ drop (length a) t ≡ t → Wrote (drop (length a) t) v u → Wrote t w u
lead {a} {t} {w} {v} {u} first e second = subst (λ (l : List ℕ). Wrote l w u) e (append first second)

-- the same for a text that is grouped in another way
pub in_turn : {a b t : List ℕ} {w v u : Writer} → Wrote a w v → Wrote b v u → a ++ b ≡ t → Wrote t w u
in_turn {a} {b} {t} {w} {v} {u} first second e = subst (λ (l : List ℕ). Wrote l w u) e (append first second)

-- for `search`: texts in a row, of any length
pub ruleset composing = (rules, append, lead)

-- a writer's buffer keeps its length
pub same_room : {t : List ℕ} {w v : Writer} → Wrote t w v → length v.out.now ≡ length w.out.now
same_room {t} {w} {v} h = ap (λ (u : Window). length u.bytes) h.bytes ∙ keeps_length t (window_of w)

-- a writer passes over as many bytes as its text has
pub skips_text : {t : List ℕ} {w v : Writer} → Wrote t w v → v.skip ≡ w.skip - length t
skips_text {t} {w} {v} h = ap (λ (u : Window). u.skip) h.bytes ∙ measured t w.out.now w.skip w.at

-- what a writer leaves that began at the front of a buffer
pub from_front : {t out : List ℕ} {w v : Writer} → w.out.now ≡ out → w.skip ≡ 0 → w.at ≡ 0 → Wrote t w v
    → window_of v ≡ write t (record { bytes = out; skip = 0; at = 0 })
from_front {t} e f g h = h.bytes ∙ ap (write t) (same e f g)

-- a writer that has not written
pub unwritten : (w : Writer) → Wrote [] w w
unwritten w = record { name = refl; bytes = sym (nothing (window_of w)) }
