-- `put_multipart_head` writes the first lines, two more and an empty line.
use Rattle.server_answers.specs.Bodies.{multipart_head}
use Rattle.writing.proofs.window.Laws.{append}
use Rattle.server_answers.proofs.put_multipart_head.Goals as goal

pub returns : goal.returns
unfolding multipart_head
returns c = append c.put_start.ensures (append c.put_multipart_field.ensures (append c.put_length_field.ensures c.put_line_end.ensures))
