-- Placing a run keeps the runs in the order of the first spec that begins inside each.
-- Assumes nothing.
use Prim.Native.Nat.{ℕ, suc, ◌≤◌, ◌<◌}
use native.Mathlib.Omega.{arith}
use mathlib.Core.Path.{◌≡◌, refl}
use mathlib.Core.Logic.{inl, inr}
use mathlib.Core.Bool.{Bool, true, false, cond}
use mathlib.Core.List.{List, [], ◌∷◌}
use lib.Dec.{ltb}
use borrow.Author.Tests.{ltb-true, ltb-false}
use Rattle.rules_server.specs.Limits.{merge_gap}
use Rattle.rules_server.specs.Ranges.{ByteSpec}
use Rattle.rules_server.specs.Parts.{near, hull, joined, apart, place}
use Rattle.rules_server.specs.declared.Run.{Run}
use Rattle.rules_demands.specs.Positions.{Each, Pairs, In, Covers}
use Rattle.laws_server.proofs.Runs.{tested, Closed, near_false, apart_in, each_map, each_apart, pairs-apart, closed_place}
use Rattle.laws_server.proofs.Covering.{covers_each}
use Rattle.laws_server.proofs.Starting.{starting, starting_hull}

-- the first spec that begins inside x begins at a position that the runs cover
pub record Reach (n : ℕ) (ss : List ByteSpec) (x : Run) (rs : List Run) : Type 0 where
  pub at : ℕ
  pub inside : In at x
  pub covered : Covers at rs
  pub least : (y : Run) → In at y → starting n y ss ≤ starting n x ss

-- r's first place is less than q's
abbrev pub Earlier : ℕ → List ByteSpec → Run → Run → Type 0
Earlier n ss r q = starting n r ss < starting n q ss

-- runs later than x have a hull later than x
later-hull : (n : ℕ) (ss : List ByteSpec) (x : Run) → Closed merge_gap (Earlier n ss x)
later-hull n ss x r q e h k = omega (arith, starting_hull n r q ss e)

-- a bound of the first place goes over to the joined run
bound_joined : (n k : ℕ) (ss : List ByteSpec) (r : Run) (qs : List Run) → starting n r ss ≤ k → starting n (joined merge_gap r qs) ss ≤ k
bound_joined n k ss r [] h = h
bound_joined n k ss r (q ∷ qs) h = bound_joined n k ss (cond (near merge_gap r q) (hull r q) r) qs (step (near merge_gap r q) refl)
  where
    step : (b : Bool) → near merge_gap r q ≡ b → starting n (cond b (hull r q) r) ss ≤ k
    step true e = omega (arith, starting_hull n r q ss e)
    step false e = h

-- run r can be placed among the runs made of the specs before number i: its first place is at most i, and below i that spec begins in one of the runs
pub record Placeable (n : ℕ) (ss : List ByteSpec) (i : ℕ) (r : Run) (qs : List Run) : Type 0 where
  pub at_most : starting n r ss ≤ i
  pub reach : starting n r ss < i → Reach n ss r qs

-- if r does not meet q, it is later than q
later : (n : ℕ) (ss : List ByteSpec) (i : ℕ) (r q : Run) (qs : List Run) → near merge_gap r q ≡ false → Placeable n ss i r (q ∷ qs) → starting n q ss < i
    → Each (Earlier n ss q) qs → Earlier n ss q r
later n ss i r q qs e h b hs = tested (ltb (starting n q ss) (starting n r ss)) (ltb-true _ _) (λ f. absurd (no_reach (ltb-false _ _ f)))
  where
    here : (t : Reach n ss r (q ∷ qs)) → Covers t.at (q ∷ qs) → starting n r ss ≤ starting n q ss → ⊥
    here t (inl i) l = apart_in merge_gap t.at r q (near_false merge_gap r q e) t.inside i
    here t (inr c) l = covers_each ⊥ t.at qs c (each_map qs (λ (x : Run) (k : Earlier n ss q x) (i : In t.at x). let m = t.least x i in omega arith) hs)

    no_reach : starting n r ss ≤ starting n q ss → ⊥
    no_reach l = let t = h.reach (omega arith) in here t t.covered l

-- and can be placed among the runs behind q
behind : (n : ℕ) (ss : List ByteSpec) (i : ℕ) (r q : Run) (qs : List Run) → near merge_gap r q ≡ false → Placeable n ss i r (q ∷ qs) → Placeable n ss i r qs
behind n ss i r q qs e h = record { at_most = h.at_most; reach = λ l. go (h.reach l) (h.reach l).covered }
  where
    go : (t : Reach n ss r (q ∷ qs)) → Covers t.at (q ∷ qs) → Reach n ss r qs
    go t (inl i) = absurd (apart_in merge_gap t.at r q (near_false merge_gap r q e) t.inside i)
    go t (inr c) = record { at = t.at; inside = t.inside; covered = c; least = t.least }

-- placing keeps the order
pub place-ordered : (n : ℕ) (ss : List ByteSpec) (i : ℕ) (r : Run) (qs : List Run) → Placeable n ss i r qs → Each (λ (x : Run). starting n x ss < i) qs
    → Pairs (Earlier n ss) qs → Pairs (Earlier n ss) (place merge_gap r qs)
place-ordered n ss i r [] h bs ps = (tt, tt)
place-ordered n ss i r (q ∷ qs) h bs ps = go (near merge_gap r q) refl (λ e. place-ordered n ss i r qs (behind n ss i r q qs e h) bs.1 ps.1)
  where
    first : near merge_gap r q ≡ true → starting n (joined merge_gap (hull r q) qs) ss ≤ starting n q ss
    first e = bound_joined n (starting n q ss) ss (hull r q) qs (omega (arith, starting_hull n r q ss e))

    go : (b : Bool) → near merge_gap r q ≡ b → (near merge_gap r q ≡ false → Pairs (Earlier n ss) (place merge_gap r qs))
        → Pairs (Earlier n ss) (cond b (joined merge_gap (hull r q) qs ∷ apart merge_gap (hull r q) qs) (q ∷ place merge_gap r qs))
    go true e rest = (
      each_map (apart merge_gap (hull r q) qs) (λ (x : Run) (k : Earlier n ss q x). let l = first e in omega arith)
          (each_apart (Earlier n ss q) merge_gap (hull r q) qs ps.0),
      pairs-apart (Earlier n ss) merge_gap (hull r q) qs ps.1,
    )
    go false e rest =
        (closed_place (Earlier n ss q) merge_gap (later-hull n ss q) r qs (later n ss i r q qs e h bs.0 ps.0) ps.0, rest e)

-- and the bound, one spec further
pub place-bounded : (n : ℕ) (ss : List ByteSpec) (i : ℕ) (r : Run) (qs : List Run) → starting n r ss ≤ i → Each (λ (x : Run). starting n x ss < i) qs
    → Each (λ (x : Run). starting n x ss < suc i) (place merge_gap r qs)
place-bounded n ss i r qs h bs =
    closed_place (λ (x : Run). starting n x ss < suc i) merge_gap
    (λ (x y : Run) (e : near merge_gap x y ≡ true) (k : starting n x ss < suc i) (l : starting n y ss < suc i). omega (arith, starting_hull n x y ss e))
    r qs (omega arith) (each_map qs (λ (x : Run) (k : starting n x ss < i). omega arith) bs)
