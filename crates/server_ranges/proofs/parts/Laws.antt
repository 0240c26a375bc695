-- Laws of the parts that rooms above use.
use Prim.Native.Nat.{ℕ, suc, ◌+◌, ◌≤◌}
use native.Mathlib.Omega.{arith}
use mathlib.Core.Path.{◌≡◌, refl}
use mathlib.Core.Bool.{Bool, true, false, cond}
use mathlib.Core.List.{List, [], ◌∷◌}
use lib.ListN.{length}
use lib.Seq.{take_all}
use Rattle.rules_server.specs.declared.Run.{Run}
use Rattle.rules_server.specs.Parts.{near, hull, joined, apart, place, gather}
use Rattle.server_ranges.specs.Listing.{capped}

-- no more runs stay apart from r than there are
apart-length : (g : ℕ) (r : Run) (qs : List Run) → length (apart g r qs) ≤ length qs
apart-length g r [] = omega arith
apart-length g r (q ∷ qs) = pick (near g r q) (apart g (hull r q) qs) (apart g r qs) (apart-length g (hull r q) qs) (apart-length g r qs)
  where
    pick : (b : Bool) (x y : List Run) → length x ≤ length qs → length y ≤ length qs → length (cond b x (q ∷ y)) ≤ suc (length qs)
    pick true x y hx hy = omega arith
    pick false x y hx hy = omega arith

-- a run adds one part at most
pub place-length : (g : ℕ) (r : Run) (qs : List Run) → length (place g r qs) ≤ suc (length qs)
place-length g r [] = omega arith
place-length g r (q ∷ qs) = pick (near g r q) (joined g (hull r q) qs) (apart g (hull r q) qs) (place g r qs) (apart-length g (hull r q) qs)
    (place-length g r qs)
  where
    pick : (b : Bool) (p : Run) (x y : List Run) → length x ≤ length qs → length y ≤ suc (length qs) → length (cond b (p ∷ x) (q ∷ y)) ≤ suc (suc (length qs))
    pick true p x y hx hy = omega arith
    pick false p x y hx hy = omega arith

-- where there is room for a part for each run, none is left out
pub capped_is_gather : (room g : ℕ) (rs done : List Run) → length done + length rs ≤ room → capped room g rs done ≡ gather g rs done
capped_is_gather room g [] done h = refl
capped_is_gather room g (r ∷ rs) done h =
    rw (take_all room (place g r done) (omega (arith, place-length g r done)))
    (capped_is_gather room g rs (place g r done) (omega (arith, place-length g r done)))
