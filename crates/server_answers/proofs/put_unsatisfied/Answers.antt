-- `put_unsatisfied` writes the status line, two lines and an empty line.
use Rattle.rules_server.specs.Texts.{crlf}
use Rattle.rules_server.specs.Answers.{bytes_of, head_then, unsatisfied_answer, unsatisfied_line, length_line}
use Rattle.writing.proofs.window.Laws.{append}
use Rattle.server_answers.proofs.Multiparts.{joined}
use Rattle.server_answers.proofs.put_unsatisfied.Goals as goal

pub returns : goal.returns
unfolding bytes_of head_then unsatisfied_answer
returns c =
    append c.put.ensures (append c.put_line_end.ensures
    (joined (unsatisfied_line c.args.n) crlf c.put_unsatisfied_field.ensures (joined (length_line 0) crlf c.put_length_field.ensures c.put_line_end-2.ensures)))
