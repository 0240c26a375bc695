-- `put_dash_boundary` writes `--` and the boundary.
use Rattle.writing.proofs.window.Laws.{append}
use Rattle.server_answers.proofs.put_dash_boundary.Goals as goal

pub returns : goal.returns
returns c = append c.put.ensures c.put-2.ensures
