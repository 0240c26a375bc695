-- The data of a run that does not lie within the file.
use Prim.Native.Nat.{ℕ, suc, ◌-◌, ◌≤◌, ◌<◌}
use mathlib.Core.List.{List, []}
use mathlib.Core.Path.{◌≡◌, sym, ◌∙◌}
use native.Mathlib.Omega.{arith}
use lib.ListN.{length, take, drop, length-drop, drop_of_length-le}
use lib.Seq.{take_all, take-nil}
use Rattle.rules_server.specs.Answers.{data_of}
use Rattle.rules_server.specs.declared.Run.{Run}

-- a run that begins at the file's end or behind it has no data
pub data_beyond : (file : List ℕ) (r : Run) → length file ≤ r.first → data_of file r ≡ []
data_beyond file r h = rw (drop_of_length-le file h) (take-nil (suc r.last - r.first))

-- a run that ends before it begins has none
pub data_none : (file : List ℕ) (r : Run) → r.last < r.first → data_of file r ≡ []
data_none file r h =
    let e : suc r.last - r.first ≡ 0 = omega arith in
    rw e

-- a run that reaches the file's end has the file's data up to it
pub data_rest : (file : List ℕ) (r : Run) → length file ≤ r.last → data_of file r ≡ take (length file - r.first) (drop r.first file)
data_rest file r h =
    take_all (suc r.last - r.first) (drop r.first file) (simp length-drop (omega arith))
    ∙ sym (take_all (length file - r.first) (drop r.first file) (simp length-drop (omega arith)))
