-- `put_closing` writes the delimiter, `--` and CR LF.
use Rattle.rules_server.specs.Answers.{closing}
use Rattle.writing.proofs.window.Laws.{append}
use Rattle.server_answers.proofs.put_closing.Goals as goal

pub returns : goal.returns
unfolding closing
returns c = append c.put_dash_boundary.ensures (append c.put.ensures c.put_line_end.ensures)
