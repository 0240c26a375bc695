-- Runs of a saved copy: their bytes, and when one follows others. Assumes nothing.
use Prim.Native.Nat.{ℕ, suc, ◌+◌, ◌*◌, ◌≤◌, ◌<◌}
use mathlib.Core.Path.{◌≡◌, refl, sym, ap, ap₂, subst, ◌∙◌}
use mathlib.Core.Bool.{false, ◌&&◌, and-false}
use mathlib.Core.List.{List, [], ◌∷◌, ◌++◌, append_assoc}
use native.Mathlib.Omega.{arith}
use lib.Dec.{leb}
use lib.ListN.{length, take, drop, length-append, length-take, length-drop, take-append-drop}
use lib.Seq.{take_at, drop_at}
use borrow.Author.Tests.{leb-false, lt-leb}
use Rattle.rules_server.specs.Numbers.{value_of, in_bytes, AreBytes}
use Rattle.rules_server.specs.declared.Run.{Run}
use Rattle.rules_tablet.specs.Runs.{run, WellFormed}
use Rattle.rules_tablet.specs.SavedCopies.{runs_bytes, run_of}
use Rattle.rules_demands.specs.SavedRefusals.{OutOfOrder, backward, behind_last}
use Rattle.laws_numerals.proofs.Bytes.{bytes_append, bytes_take, bytes_drop, in_bytes_long, in_bytes_lem, value_back, bytes_back_in, bytes_below_in}
use Rattle.laws_saved.proofs.Tests.{by_test}
use Rattle.laws_saved.proofs.Places.{behind, behind-last}

-- ---- bytes

-- the bytes of a run
abbrev pub run_bytes : Run → List ℕ
run_bytes r = in_bytes 8 r.first ++ in_bytes 8 r.last

-- they are sixteen
pub run_long : (r : Run) → length (run_bytes r) ≡ 16
run_long r = length-append (in_bytes 8 r.first) (in_bytes 8 r.last) ∙ ap₂ ◌+◌ (in_bytes_long 8 r.first) (in_bytes_long 8 r.last)

-- and bytes
pub run_bytes_lem : (r : Run) → AreBytes (run_bytes r)
run_bytes_lem r = bytes_append (in_bytes 8 r.first) (in_bytes 8 r.last) (in_bytes_lem 8 r.first) (in_bytes_lem 8 r.last)

-- a run is read back from its bytes
pub run_back : (r : Run) → r.first < 18446744073709551616 → r.last < 18446744073709551616 → run_of (run_bytes r) ≡ r
run_back r f g =
    let a = in_bytes 8 r.first in
    let b = in_bytes 8 r.last in
    ap₂ run (ap value_of (take_at a b 8 (in_bytes_long 8 r.first)) ∙ value_back 8 r.first f)
    (ap value_of (drop_at a b 8 (in_bytes_long 8 r.first)) ∙ value_back 8 r.last g)

-- what holds of the halves of sixteen bytes
module _ (u : List ℕ) (h : AreBytes u) (s : length u ≡ 16) where
  -- the first has eight
  first_long : length (take 8 u) ≡ 8
  first_long = omega (arith, length-take 8 u)

  -- and so has the second
  last_long : length (drop 8 u) ≡ 8
  last_long = omega (arith, length-drop 8 u)

  -- sixteen bytes are those of their run
  pub bytes_of-run : run_bytes (run_of u) ≡ u
  bytes_of-run =
      ap₂ ◌++◌ (bytes_back_in 8 (take 8 u) (bytes_take 8 u h) first_long) (bytes_back_in 8 (drop 8 u) (bytes_drop 8 u h) last_long) ∙ take-append-drop 8 u

  -- its first position is a number of eight bytes
  pub first_below : (run_of u).first < 18446744073709551616
  first_below = bytes_below_in 8 (take 8 u) (bytes_take 8 u h) first_long

  -- and so is its last
  pub last_below : (run_of u).last < 18446744073709551616
  last_below = bytes_below_in 8 (drop 8 u) (bytes_drop 8 u h) last_long

-- the bytes of runs behind others
pub runs-append : (rs qs : List Run) → runs_bytes (rs ++ qs) ≡ runs_bytes rs ++ runs_bytes qs
runs-append [] qs = refl
runs-append (r ∷ rs) qs = ap (λ (l : List ℕ). run_bytes r ++ l) (runs-append rs qs) ∙ sym (append_assoc (run_bytes r) (runs_bytes rs) (runs_bytes qs))

-- sixteen for each run
pub runs_long : (rs : List Run) → length (runs_bytes rs) ≡ 16 * length rs
runs_long [] = refl
runs_long (r ∷ rs) = omega (arith, length-append (run_bytes r) (runs_bytes rs), run_long r, runs_long rs)

-- and bytes
pub runs_bytes_lem : (rs : List Run) → AreBytes (runs_bytes rs)
runs_bytes_lem [] = tt
runs_bytes_lem (r ∷ rs) = bytes_append (run_bytes r) (runs_bytes rs) (run_bytes_lem r) (runs_bytes_lem rs)

-- ---- order

-- one run more, behind the others
pub formed_last : (lo n : ℕ) (rs : List Run) (r : Run) → WellFormed lo n rs → behind lo rs ≤ r.first → r.first ≤ r.last → r.last < n
    → WellFormed lo n (rs ++ (r ∷ []))
formed_last lo n [] r w a b c = (a, b, c, tt)
formed_last lo n (q ∷ rs) r w a b c = (w.0, w.1, w.2, formed_last (suc (suc q.last)) n rs r w.3 a b c)

-- a run that begins before it may behind q and the runs rs does not follow
early : (qs : List Run) (q : Run) (rs : List Run) (r : Run) → r.first < behind (suc (suc q.last)) rs → OutOfOrder (qs ++ (q ∷ rs)) r
early qs q [] r h = behind_last qs q r (omega arith)
early qs q (p ∷ rs) r h = subst (λ (l : List Run). OutOfOrder l r) (append_assoc qs (q ∷ []) (p ∷ rs)) (early (qs ++ (q ∷ [])) p rs r h)

-- nor one that begins before it may behind any runs
too_early : (rs : List Run) (r : Run) → r.first < behind 0 rs → OutOfOrder rs r
too_early [] r h = absurd (omega arith)
too_early (q ∷ rs) r h = early [] q rs r h

-- the test of the reading fails: the run does not follow
pub test_out_of_order : (rs : List Run) (r : Run) → (leb r.first r.last && leb (behind 0 rs) r.first) ≡ false → OutOfOrder rs r
test_out_of_order rs r e =
    by_test (leb r.first r.last) (λ f. too_early rs r (leb-false _ _ (rw f at e))) (λ f. backward rs r (leb-false _ _ f))

-- the run does not follow: the test fails
pub out_of_order_test : (rs : List Run) (r : Run) → OutOfOrder rs r → (leb r.first r.last && leb (behind 0 rs) r.first) ≡ false
out_of_order_test rs r (backward qs q h) = rw (lt-leb r.first r.last h)
out_of_order_test rs r (behind_last qs q p h) = rw (behind-last 0 qs q, lt-leb (suc (suc q.last)) p.first (omega arith), and-false)
