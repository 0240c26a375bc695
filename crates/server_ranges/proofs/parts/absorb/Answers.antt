-- `absorb`: each turn either meets the run at `i` or keeps it.
use Rattle.std.proofs.Common.{sym, ◌∙◌}
use Rattle.server_ranges.proofs.parts.Steps.{meet, keep, absorbed}
use Rattle.server_ranges.proofs.parts.absorb.Goals as goal
use Rattle.server_ranges.proofs.parts.absorb.Goals.{then-near, else-near}

pub loop-i-preserved : goal.loop-i-preserved
loop-i-preserved c =
    let w = c.loop-i.invariant in
    elim c.if-near.branch [
      | then-near v ↦ rw (v.parts-is, v.h-is, v.j-is) (meet w c.loop-i-test.true (sym c.near.ensures ∙ v.if-near.true) v.hull-h-then-near.ensures)
      | else-near v ↦ rw (v.parts-is, v.h-is, v.j-is) (keep w c.loop-i-test.true (sym c.near.ensures ∙ v.if-near.false))
    ]

-- the joined run is stored at `k`
pub returns : goal.returns
returns c = absorbed c.loop-i.invariant c.loop-i-test.false c.requires.fits c.requires.first c.hull-h.ensures
