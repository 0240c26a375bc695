-- `store_bytes` stores two parts of the bytes, one behind the other.
-- Assumes nothing.
use Prim.Native.Nat.{◌+◌, ◌-◌, ◌≤◌}
use native.Mathlib.Omega.{arith}
use mathlib.Core.Path.{◌∙◌}
use lib.ListN.{length, take, drop, length-drop}
use lib.Seq.{take_all}
use Rattle.octets.proofs.sizes.Laws.{lead_within}
use Rattle.octets.specs.Overwriting.{overwritten}
use Rattle.reader.proofs.pieces.Stored.{stored, first_piece}
use Rattle.reader.proofs.pieces.store_bytes.Goals as goal

pub returns : goal.returns
returns c =
    let part = c.args.part.now in
    let src = c.args.src.now in
    let k = c.lead-k.result in
    let w : k ≤ length src = rw c.lead-k.ensures
    (lead_within c.args.at
    (length c.args.src.now)) in
    let f = first_piece part src k w c.requires in
    let rest = take_all (length src - k) (drop k src) (rw length-drop (omega arith)) in
    let fits : k + length (drop k src) ≤ length (overwritten part 0 (take k src)) = rw length-drop (omega (arith, f.3)) in
    rw (rest, c.overwrite.ensures) at c.overwrite-2.ensures
    ∙ stored _ k (drop k src) fits ∙ f.1
