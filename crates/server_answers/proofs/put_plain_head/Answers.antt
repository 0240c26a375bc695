-- `put_plain_head` writes the first lines, three more and an empty line.
use Rattle.server_answers.specs.Heads.{plain_head}
use Rattle.writing.proofs.window.Laws.{append}
use Rattle.server_answers.proofs.put_plain_head.Goals as goal

pub returns : goal.returns
unfolding plain_head
returns c =
    append c.put_start.ensures (append c.put_optional_field.ensures (append c.put_range_field.ensures (append c.put_length_field.ensures c.put_line_end.ensures)))
