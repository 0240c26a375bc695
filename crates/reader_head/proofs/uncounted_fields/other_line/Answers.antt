-- `other_line` looks for the colon, tests the name, and looks for the end of the line.
use native.Mathlib.Omega.{arith}
use mathlib.Core.Path.{sym, ◌∙◌}
use mathlib.Core.Bool.{and-false}
use lib.Dec.{leb}
use lib.ListN.{length}
use Rattle.std.proofs.lemmas.Grind.{common_steps}
use Rattle.rules_tablet.specs.Limits.{max_line}
use Rattle.reader_fields.proofs.lines.Laws.{colon-field, colon-none}
use Rattle.reader_head.specs.Lines.{line_at}
use Rattle.reader_head.proofs.uncounted_fields.Names.{field-front, other_is, other_none, other_said}
use Rattle.reader_head.proofs.uncounted_fields.other_line.Goals as goal

pub returns-in_err-colon : goal.returns-in_err-colon
returns-in_err-colon c =
    let l = c.args.part.now in
    rw (other_none l (colon-none l (sym c.in_err-colon.was ∙ c.colon_of.ensures.place))) c.from_residual.ensures

pub returns-then-not-is_other : goal.returns-then-not-is_other
returns-then-not-is_other c =
    let l = c.args.part.now in
    let e = c.in_ok-colon.colon in
    let f = colon-field l e (sym c.in_ok-colon.was ∙ c.colon_of.ensures.place) in
    let none = sym c.is_other.ensures ∙ c.if-not-is_other.true in
    rw (other_is l e (field-front l e f), none, and-false (leb (length (line_at l)) max_line))

pub returns : goal.returns
returns c =
    let l = c.args.part.now in
    let e = c.in_ok-colon.colon in
    let f = colon-field l e (sym c.in_ok-colon.was ∙ c.colon_of.ensures.place) in
    let name = sym c.is_other.ensures ∙ c.if-not-is_other.false in
    rw (other_said l e c.value_end.result f name c.value_end.ensures.within c.value_end.ensures.run) (grind (arith, common_steps))
