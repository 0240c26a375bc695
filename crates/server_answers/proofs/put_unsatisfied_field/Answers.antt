-- `put_unsatisfied_field` writes the line and its end.
use Rattle.rules_server.specs.Answers.{unsatisfied_line}
use Rattle.writing.proofs.window.Laws.{append}
use Rattle.server_answers.proofs.put_unsatisfied_field.Goals as goal

pub returns : goal.returns
unfolding unsatisfied_line
returns c = append (append c.put.ensures c.put_number.ensures) c.put_line_end.ensures
