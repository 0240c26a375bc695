-- `colon_of`: a colon is next behind the bytes of a token.
use Rattle.std.proofs.Common.{arith}
use Rattle.std.proofs.lemmas.Grind.{common_steps}
use Rattle.reader_fields.proofs.lines.Laws.{colon_is}
use Rattle.reader_fields.proofs.lines.colon_of.Goals as goal

pub returns-in_err-place-clause-place : goal.returns-in_err-place-clause-place
returns-in_err-place-clause-place c = rw (← colon_is c.args.l.now, ← c.token_end.ensures, c.in_err-place.was) c.from_residual.ensures

pub returns-clause-place : goal.returns-clause-place
returns-clause-place c = rw (← colon_is c.args.l.now, ← c.token_end.ensures, c.in_ok-place.was) (grind (arith, common_steps))
