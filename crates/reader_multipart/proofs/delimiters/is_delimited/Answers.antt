-- `is_delimited` looks for CR LF `--`, the boundary and CR LF, one behind the other.
use native.Mathlib.Omega.{arith}
use mathlib.Core.Bool.{false≢true}
use mathlib.Core.Path.{sym, ◌∙◌}
use Rattle.octets.proofs.strings.Laws.{part_to_end}
use Rattle.reader_multipart.proofs.delimiters.Delimiters.{line_ahead}
use Rattle.reader_multipart.proofs.delimiters.is_delimited.Goals.{then-starts_with, else-starts_with}
use Rattle.reader_multipart.proofs.delimiters.is_delimited.Goals as goal

pub returns-then-starts_with-2 : goal.returns-then-starts_with-2
returns-then-starts_with-2 c =
    let piece = c.args.piece.now in
    λ e.
    let last = rw (part_to_end piece) at (sym c.starts_with-then-starts_with-2.ensures ∙ e) in
    elim c.if-starts_with.branch [
      | then-starts_with w ↦
          let front = sym c.starts_with.ensures ∙ w.if-starts_with.true in
          let middle = rw (part_to_end piece) at (sym w.starts_with-then-starts_with.ensures ∙ sym w.value-is ∙ c.if-starts_with-2.true) in
          record {
            begins = c.begins_delimiter.ensures c.if-not-begins_delimiter.false;
            counted = omega arith;
            is = line_ahead c.args.boundary.now piece front middle last;
          }
      | else-starts_with w ↦ absurd (false≢true (sym w.if-starts_with.false ∙ sym w.value-is ∙ c.if-starts_with-2.true))
    ]
