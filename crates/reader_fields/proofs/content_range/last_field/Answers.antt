-- `last_field`: digits, then `/`, then as `stated_field` reads.
use Rattle.std.proofs.Common.{rules}
use Rattle.octets.proofs.strings.Laws.{part_to_end}
use Rattle.rules_server.specs.Numerals.{decimal}
use Rattle.reader_fields.proofs.content_range.Laws.{marked, last_marked}
use Rattle.reader_fields.proofs.content_range.last_field.Goals as goal

pub returns-in_err-k : goal.returns-in_err-k
returns-in_err-k c = rw (marked (last_marked (decimal c.args.first.now)) c.args.t.now, ← c.digits_before.ensures, c.in_err-k.was) (search rules)

pub returns : goal.returns
returns c = rw (marked (last_marked (decimal c.args.first.now)) c.args.t.now, ← c.digits_before.ensures, c.in_ok-k.was)
    (simp part_to_end at c.stated_field.ensures)
