-- What the copy keeps of several bytes for positions next to each other.
-- Assumes nothing.
use Prim.Native.Nat.{ℕ, zero, suc, ◌+◌, ◌≤◌, ◌<◌}
use native.Mathlib.Omega.{arith}
use mathlib.Core.Path.{◌≡◌, refl, ap}
use mathlib.Core.Bool.{Bool, true, false, or-true}
use mathlib.Core.List.{List, [], ◌∷◌}
use Rattle.std.specs.Prelude.{Some}
use lib.ListN.{length, get_or, take, drop, set, length-take, length-drop}
use lib.Seq.{sets, drop-cons}
use borrow.Author.Tests.{lt-ltb, le-ltb, eq-eqb, ne_eqb}
use Rattle.rules_server.specs.declared.Run.{Run}
use Rattle.rules_tablet.specs.Runs.{member, WellFormed, insert}
use Rattle.rules_tablet.specs.Feeding.{Held, kept, refused_by, store}
use Rattle.laws_runs.specs.Spans.{insert_span, next_held}
use Rattle.laws_runs.proofs.Members.{formed_below, head-member}
use Rattle.laws_runs.proofs.Insert.{insert_formed, insert_member, insert_own, insert_next}
use Rattle.laws_runs.proofs.Next.{next_free}
use Rattle.laws_reader.proofs.at_once.Steps.{Keeps}

-- runs with their bytes
abbrev pub held_of : List Run → List ℕ → Held
held_of runs bytes = record { runs = runs; bytes = bytes }

-- the k positions from p on are all of the runs, or all not
abbrev pub Stretch : Bool → ℕ → ℕ → List Run → Type 0
Stretch x p k runs = (q : ℕ) → p ≤ q → q < p + k → member q runs ≡ x

-- the positions before the next held one are not held
pub free_stretch : (n p k : ℕ) (runs : List Run) → WellFormed 0 n runs → p + k ≤ next_held n p runs → Stretch false p k runs
free_stretch n p k runs f u q a b = next_free 0 n p q runs f a (omega arith)

-- the positions of the run at an index are held
pub held_stretch : (i p k : ℕ) (runs : List Run) (d : Run) → i < length runs → (get_or runs i d).first ≤ p → p + k ≤ suc (get_or runs i d).last
    → Stretch true p k runs
held_stretch i p k [] d u a b q l w = absurd (omega arith)
held_stretch zero p k (r ∷ rs) d u a b q l w = head-member q r rs (omega arith) (omega arith)
held_stretch (suc i) p k (r ∷ rs) d u a b q l w = rw (held_stretch i p k rs d (omega arith) a b q l w, or-true)

module _ (lim p b : ℕ) (runs : List Run) (bytes : List ℕ) where
  -- a position that is not held, and makes at most lim runs, is added
  pub store-fresh : member p runs ≡ false → length (insert p runs) ≤ lim → store lim (held_of runs bytes) p b ≡ kept (held_of (insert p runs) (set bytes p b))
  unfolding store
  store-fresh m l = rw (m, le-ltb lim (length (insert p runs)) l)

  -- one that makes more is refused by 16
  pub store-many : member p runs ≡ false → lim < length (insert p runs) → store lim (held_of runs bytes) p b ≡ refused_by 16
  unfolding store
  store-many m l = rw (m, lt-ltb lim (length (insert p runs)) l)

  -- the held byte of a held position is kept
  pub store-held : member p runs ≡ true → get_or bytes p 0 ≡ b → store lim (held_of runs bytes) p b ≡ kept (held_of runs bytes)
  unfolding store
  store-held m e = rw (m, eq-eqb (get_or bytes p 0) b e)

  -- another is refused by 17
  pub store_other : member p runs ≡ true → (get_or bytes p 0 ≡ b → ⊥) → store lim (held_of runs bytes) p b ≡ refused_by 17
  unfolding store
  store_other m e = rw (m, ne_eqb (get_or bytes p 0) b e)

-- positions that are not held stay so where one before them is added
stretch_next : (m p k : ℕ) (runs : List Run) → WellFormed 0 m runs → Stretch false p (suc k) runs → Stretch false (suc p) k (insert p runs)
stretch_next m p k runs f h q a u = rw (insert_member m p q runs f, ne_eqb q p (omega arith)) (h q (omega arith) (omega arith))

-- bytes for positions that are not held are all added, where the first makes at most lim runs
pub fresh_keeps : (lim m p : ℕ) (l : List ℕ) (runs : List Run) (bytes : List ℕ) → WellFormed 0 m runs → Stretch false p (length l) runs
    → length (insert p runs) ≤ lim
    → Keeps lim Some p l (held_of runs bytes) (held_of (insert_span p (length l) runs) (sets bytes p l))
fresh_keeps lim m p [] runs bytes f h c = refl
fresh_keeps lim m p (b ∷ l) runs bytes f h c =
    let g = insert_formed (m + suc p) p runs (omega arith) (formed_below 0 m (m + suc p) runs (omega arith) f) in (
      held_of (insert p runs) (set bytes p b),
      store-fresh lim p b runs bytes (h p (omega arith) (omega arith)) c,
      fresh_keeps lim (m + suc p) (suc p) l (insert p runs) (set bytes p b) g (stretch_next m p (length l) runs f h)
          (omega (arith, insert_next (m + suc p) p (insert p runs) g (insert_own m p runs f))),
    )

-- the first of the held bytes from p on, and those behind it
held-next : (p b : ℕ) (l bytes : List ℕ) → take (suc (length l)) (drop p bytes) ≡ b ∷ l → (get_or bytes p 0 ≡ b) × (take (length l) (drop (suc p) bytes) ≡ l)
held-next p b l bytes e =
    let w : p < length bytes = omega (arith, simp (length-take, length-drop) at (ap length e)) in
    let f : get_or bytes p 0 ∷ take (length l) (drop (suc p) bytes) ≡ b ∷ l = rw (drop-cons bytes p 0 w) at e in
    (cc, cc)

-- the held bytes of held positions are kept, and nothing changes
pub held_keeps : (lim p : ℕ) (l : List ℕ) (runs : List Run) (bytes : List ℕ) → Stretch true p (length l) runs → take (length l) (drop p bytes) ≡ l
    → Keeps lim Some p l (held_of runs bytes) (held_of runs bytes)
held_keeps lim p [] runs bytes h e = refl
held_keeps lim p (b ∷ l) runs bytes h e =
    let g = held-next p b l bytes e in (
      held_of runs bytes,
      store-held lim p b runs bytes (h p (omega arith) (omega arith)) g.0,
      held_keeps lim (suc p) l runs bytes (λ q a u. h q (omega arith) (omega arith)) g.1,
    )
