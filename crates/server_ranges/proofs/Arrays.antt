-- The parts that stand at the front of a slice of runs.
use Prim.Native.Nat.{ℕ, ◌+◌, ◌≤◌, ◌<◌}
use mathlib.Core.Path.{◌≡◌, refl}
use mathlib.Core.List.{List, [], ◌∷◌}
use native.Mathlib.Numerals.{add-one}
use native.Mathlib.Omega.{arith}
use lib.ListN.{length, drop, length-take}
use lib.Seq.{drop-cons, get_or-take}
use Rattle.std.proofs.lemmas.List.{get_or_past}
use Rattle.rules_server.specs.declared.Run.{Run}
use Rattle.server_ranges.specs.Listing.{listing}
use Rattle.server_ranges.proofs.parts.Steps.{at}

-- behind the last there is none
pub run-none : (runs : List Run) (k : ℕ) → length runs ≤ k → at runs k ≡ record { first = 0; last = 0 }
run-none runs k h = get_or_past runs k _ h

-- the parts that a slice lists
module _ (count : ℕ) (runs : List Run) where
  -- the run at k of the first `count`
  listed-at : (k : ℕ) → k < length (listing count runs) → at (listing count runs) k ≡ at runs k
  listed-at k h = get_or-take count runs k _ (omega (arith, length-take count runs))

  -- the parts from k on are the run at k and the parts behind it
  pub listed-next : (k : ℕ) {r : Run} → k < length (listing count runs) → r ≡ at runs k → drop k (listing count runs) ≡ r ∷ drop (k + 1) (listing count runs)
  listed-next k h e = rw (add-one, e, ← listed-at k h) (drop-cons (listing count runs) k _ h)

  -- one part is the first run
  pub single : {r : Run} → length (listing count runs) ≡ 1 → r ≡ at runs 0 → listing count runs ≡ r ∷ []
  single h e = rw (e, ← listed-at 0 (omega (arith, h))) (go (listing count runs) h)
    where
      go : (rs : List Run) → length rs ≡ 1 → rs ≡ at rs 0 ∷ []
      go [] p = absurd (omega (arith, p))
      go (q ∷ []) p = refl
      go (q ∷ s ∷ rs) p = absurd (omega (arith, p))
