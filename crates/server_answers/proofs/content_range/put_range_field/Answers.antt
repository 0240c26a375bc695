-- `put_range_field` writes the line and its end.
use mathlib.Core.List.{◌++◌}
use Rattle.rules_server.specs.Octets.{codes}
use Rattle.rules_server.specs.Numerals.{print}
use Rattle.rules_server.specs.Answers.{range_line}
use Rattle.writing.proofs.window.Laws.{append}
use Rattle.server_answers.proofs.Multiparts.{joined}
use Rattle.server_answers.proofs.content_range.put_range_field.Goals as goal

pub returns : goal.returns
unfolding range_line
returns c =
    let r = c.args.r in
    append (append c.put.ensures (joined (print r.first) (codes "-" ++ print r.last) c.put_range.ensures (append c.put-2.ensures c.put_number.ensures)))
    c.put_line_end.ensures
