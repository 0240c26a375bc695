-- Lists whose fronts and ends are the same.
use Prim.Native.Nat.{ℕ}
use mathlib.Core.List.{List}
use mathlib.Core.Path.{◌≡◌, sym, ◌∙◌}
use lib.ListN.{take, drop, take-append-drop}

-- two lists with the same first k elements and the same behind them
pub same-ends : (k : ℕ) (a b : List ℕ) → take k a ≡ take k b → drop k a ≡ drop k b → a ≡ b
same-ends k a b f g = sym (rw (f, g) at (take-append-drop k a)) ∙ take-append-drop k b
