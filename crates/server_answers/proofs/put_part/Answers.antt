-- `put_part` writes the lines, the data and CR LF.
use Rattle.writing.proofs.window.Laws.{append}
use Rattle.server_answers.proofs.put_part.Goals as goal

pub returns : goal.returns
returns c = append c.put_part_head.ensures (append (rw c.data_of.ensures at c.put_data.ensures) c.put_line_end.ensures)
