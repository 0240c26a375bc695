-- `place`, where no run is near the placed one: with room for it, it goes last; without, the parts stay.
use Rattle.std.proofs.Common.{arith, sym, ap, ◌∙◌}
use Rattle.server_ranges.specs.Placing.{first_near}
use Rattle.server_ranges.proofs.parts.Steps.{stored, full}
use Rattle.server_ranges.proofs.parts.place.Goals as goal

pub returns-in-None : goal.returns-in-None
returns-in-None c =
    let a = c.args in
    stored a.r a.count a.parts.now c.requires (ap (first_near a.r) (sym c.listed.ensures) ∙ sym c.first_near.ensures ∙ c.in-None.is) (omega arith)

pub returns-in-None-2 : goal.returns-in-None-2
returns-in-None-2 c =
    let a = c.args in
    full a.r a.count a.parts.now c.requires (ap (first_near a.r) (sym c.listed.ensures) ∙ sym c.first_near.ensures ∙ c.in-None-2.is) (omega arith)
