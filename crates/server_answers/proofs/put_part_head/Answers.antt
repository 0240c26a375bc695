-- `put_part_head` writes the delimiter, its lines and an empty line.
use lib.ListN.{length}
use Rattle.rules_server.specs.Texts.{crlf}
use Rattle.rules_server.specs.Answers.{type_lines, range_line, part_head}
use Rattle.writing.proofs.window.Laws.{append}
use Rattle.server_answers.proofs.Multiparts.{joined, lines-both}
use Rattle.server_answers.proofs.put_part_head.Goals as goal

pub returns : goal.returns
unfolding part_head
returns c =
    let f = c.args.f.now in
    append c.put_dash_boundary.ensures (append c.put_line_end.ensures
    (lines-both (type_lines f.media.now) c.put_optional_field.ensures
    (joined (range_line c.args.r (length f.file.now)) crlf c.put_range_field.ensures c.put_line_end-2.ensures)))
