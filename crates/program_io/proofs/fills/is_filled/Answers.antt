use Rattle.std.proofs.Common.{rules}
use Rattle.program_io.proofs.fills.Laws.{decided}
use Rattle.program_io.proofs.fills.is_filled.Goals as goal

pub returns : goal.returns
returns c = decided c.all.result c.args.b c.args.v.now (search rules)
