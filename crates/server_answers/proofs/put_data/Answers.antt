-- `put_data` writes the data in two parts.
use Prim.Native.Nat.{ℕ, ◌-◌}
use mathlib.Core.Path.{◌≡◌}
use mathlib.Core.List.{List, ◌++◌}
use native.Mathlib.Omega.{arith}
use lib.ListN.{length, take, drop, length-drop, take-append-drop}
use lib.Seq.{take_all}
use Rattle.writing.proofs.window.Laws.{in_turn}
use Rattle.server_answers.proofs.put_data.Goals as goal

-- a list is its first k elements and the others
halves : (k : ℕ) (l : List ℕ) → take k l ++ take (length l - k) (drop k l) ≡ l
halves k l = rw (take_all (length l - k) (drop k l) (rw length-drop (omega arith))) (take-append-drop k l)

pub returns : goal.returns
returns c = in_turn c.put.ensures c.put-2.ensures (halves c.lead-k.result c.args.bytes.now)
