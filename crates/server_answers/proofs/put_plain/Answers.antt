-- `put_plain` writes the head and the data.
use Rattle.writing.proofs.window.Laws.{append}
use Rattle.server_answers.proofs.put_plain.Goals as goal

pub returns : goal.returns
returns c = rw (← c.data_of-body.ensures) (append c.put_plain_head.ensures c.put_data.ensures)
