-- A step over the front of some bytes is a step over all of them.
-- Assumes nothing.
use Prim.Native.Nat.{ℕ, suc, ◌≤◌}
use native.Mathlib.Omega.{arith}
use mathlib.Core.Path.{◌≡◌, refl, ap}
use mathlib.Core.Bool.{Bool, true, false, cond}
use mathlib.Core.List.{List, [], ◌∷◌, ◌++◌}
use lib.ListN.{length, take, drop, take-append-drop}
use lib.Seq.{length-take-le, take-take}
use Rattle.rules_tablet.specs.Limits.{max_runs}
use Rattle.rules_tablet.specs.Feeding.{Tablet, Fed, feed_byte, feed}
use Rattle.rules_tablet.specs.declared.Stage.{Stage}
use Rattle.copy.specs.declared.runs.RunList.{RunList}
use Rattle.reader_text.specs.Steps.{Went, on, off}
use Rattle.reader.specs.Steps.{DataIs}
use Rattle.reader.specs.declared.pieces.DataStep.{DataStep}

-- a byte that is not taken ends what is taken, whatever follows it
none-behind : (y : Bool) (v : Tablet) (f g r : Fed) → r.taken ≡ 0
    → cond y (record { tablet = f.tablet; taken = suc f.taken }) (record { tablet = v; taken = 0 }) ≡ r
    → cond y (record { tablet = g.tablet; taken = suc g.taken }) (record { tablet = v; taken = 0 }) ≡ r
none-behind true v f g r z e = let w : suc f.taken ≡ r.taken = ap (λ (x : Fed). x.taken) e in absurd (omega arith)
none-behind false v f g r z e = e

-- where none of some bytes is taken, none of those behind them is
pub stop_rest : (lim : ℕ) (tag : List ℕ) (n : ℕ) (l x : List ℕ) (t u : Tablet) → 1 ≤ length l → feed lim tag n l t ≡ record { tablet = u; taken = 0 }
    → feed lim tag n (l ++ x) t ≡ record { tablet = u; taken = 0 }
unfolding feed_byte
stop_rest lim tag n [] x t u h e = absurd (omega arith)
stop_rest lim tag n (b ∷ l) x t u h e =
    let one = feed_byte lim tag n t b in
    none-behind one.is_taken one.tablet (feed lim tag n l one.tablet) (feed lim tag n (l ++ x) one.tablet) (record { tablet = u; taken = 0 }) refl e

module _ (e : ℕ) (rest : List ℕ) (some : 1 ≤ e) (far : e ≤ length rest) where
  -- so many they are
  pub front_long : length (take e rest) ≡ e
  front_long = length-take-le e rest far

  -- a step over the first e bytes
  went_longer : (tag : List ℕ) (n : ℕ) (t : Tablet) (k : ℕ) (u : Tablet) → Went tag n (take e rest) t k u → Went tag n rest t k u
  went_longer tag n t k u (on s w f) = let d : k ≤ e = rw front_long at w in on s (omega (arith, d, far)) (rw (take-take k e rest d) at f)
  went_longer tag n t k u (off h f) = off h (rw (take-append-drop e rest) at (stop_rest max_runs tag n (take e rest) (drop e rest) t u (rw front_long some) f))

  -- a step over data
  pub data_longer : (l : RunList) (s : Stage) (after : ℕ) (buffer : List ℕ) (r : DataStep) (bytes : List ℕ) → DataIs l s after buffer (take e rest) r bytes
      → DataIs l s after buffer rest r bytes
  data_longer l s after buffer r bytes h = record {
    kept = h.kept;
    room = h.room;
    blank = h.blank;
    index = h.index;
    went = λ tag p q m. went_longer tag (length buffer) _ _ _ (h.went tag p q m);
  }
