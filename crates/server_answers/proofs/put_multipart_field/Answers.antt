-- `put_multipart_field` writes the line and its end.
use Rattle.rules_server.specs.Answers.{multipart_line}
use Rattle.writing.proofs.window.Laws.{append}
use Rattle.server_answers.proofs.put_multipart_field.Goals as goal

pub returns : goal.returns
unfolding multipart_line
returns c = append (append c.put.ensures c.put-2.ensures) c.put_line_end.ensures
