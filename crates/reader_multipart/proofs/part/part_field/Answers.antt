-- `part_field` looks for the colon, and for a Content-Range, which must be the first.
use native.Mathlib.Numerals.{add-one}
use native.Mathlib.Omega.{arith}
use mathlib.Core.Path.{sym, ◌∙◌}
use borrow.Author.Tests.{le-leb, lt-leb}
use Rattle.octets.proofs.strings.Laws.{part_to_end}
use Rattle.reader_fields.proofs.lines.Laws.{colon-field, colon-none}
use Rattle.rules_tablet.specs.Limits.{max_part_lines}
use Rattle.rules_tablet.specs.Fields.{name_of, value_of}
use Rattle.reader_multipart.proofs.part.Laws.{line_of, range_name_lem, other_name}
use Rattle.reader_multipart.proofs.part.part_field.Goals as goal

pub returns-then-part-ge-MAX_PART_LINES : goal.returns-then-part-ge-MAX_PART_LINES
returns-then-part-ge-MAX_PART_LINES c = λ p e. line_of c.args.l.now p c.args.part e ∙ rw (le-leb max_part_lines c.args.part.lines (omega arith))

pub returns-in_default : goal.returns-in_default
returns-in_default c = λ p e.
    line_of c.args.l.now p c.args.part e
    ∙ rw (lt-leb max_part_lines c.args.part.lines (omega arith), colon-none c.args.l.now (sym c.in_default.is ∙ c.colon_of.ensures.place))

pub returns-then-not-same_fold : goal.returns-then-not-same_fold
returns-then-not-same_fold c =
    let l = c.args.l.now in
    let f = colon-field l c.in-Some.colon (sym c.in-Some.is ∙ c.colon_of.ensures.place) in
    let n = sym (rw f.name at c.same_fold.ensures) ∙ c.if-not-same_fold.true in
    λ p e. line_of l p c.args.part e
    ∙ rw (lt-leb max_part_lines c.args.part.lines (omega arith), f.field, other_name (name_of l) (value_of l) p c.args.part n, add-one)

pub returns-then-has_range : goal.returns-then-has_range
returns-then-has_range c =
    let l = c.args.l.now in
    let f = colon-field l c.in-Some.colon (sym c.in-Some.is ∙ c.colon_of.ensures.place) in
    let n = range_name_lem (name_of l) (sym (rw f.name at c.same_fold.ensures) ∙ c.if-not-same_fold.false) in
    λ p e. line_of l p c.args.part e
    ∙ rw (lt-leb max_part_lines c.args.part.lines (omega arith), f.field, n, ← c.has_range.ensures, c.if-has_range.true)

pub returns : goal.returns
returns c =
    let l = c.args.l.now in
    let f = colon-field l c.in-Some.colon (sym c.in-Some.is ∙ c.colon_of.ensures.place) in
    let n = range_name_lem (name_of l) (sym (rw f.name at c.same_fold.ensures) ∙ c.if-not-same_fold.false) in
    let v = rw (rw (part_to_end l, add-one, f.value) at c.trim.ensures) at c.range_field-range.ensures in
    λ p e. line_of l p c.args.part e
    ∙ rw (lt-leb max_part_lines c.args.part.lines (omega arith), f.field, n, ← c.has_range.ensures, c.if-has_range.false, v, add-one)
