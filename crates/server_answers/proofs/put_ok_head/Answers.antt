-- `put_ok_head` writes the first lines, two more and an empty line.
use Rattle.server_answers.specs.Heads.{ok_head}
use Rattle.writing.proofs.window.Laws.{append}
use Rattle.server_answers.proofs.put_ok_head.Goals as goal

pub returns : goal.returns
unfolding ok_head
returns c = append c.put_start.ensures (append c.put_optional_field.ensures (append c.put_length_field.ensures c.put_line_end.ensures))
