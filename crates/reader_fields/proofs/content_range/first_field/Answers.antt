-- `first_field`: digits, then `-`, then as `last_field` reads.
use Rattle.std.proofs.Common.{rules}
use Rattle.octets.proofs.strings.Laws.{part_to_end}
use Rattle.reader_fields.proofs.content_range.Laws.{marked, first_marked}
use Rattle.reader_fields.proofs.content_range.first_field.Goals as goal

pub returns-in_err-k : goal.returns-in_err-k
returns-in_err-k c = rw (marked first_marked c.args.t.now, ← c.digits_before.ensures, c.in_err-k.was) (search rules)

pub returns : goal.returns
returns c = rw (marked first_marked c.args.t.now, ← c.digits_before.ensures, c.in_ok-k.was)
    (simp part_to_end at c.last_field.ensures)
