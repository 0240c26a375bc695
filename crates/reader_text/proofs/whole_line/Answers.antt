-- `whole_line` takes a line behind the status line with its CR LF, where it is not refused.
-- Assumes nothing.
use Rattle.std.proofs.Common.{ℕ, take, sym, ap, ◌∙◌}
use Rattle.reader_state.specs.States.{parser_of}
use Rattle.reader_text.proofs.Whole.{fields_stage, whole_went, whole_keeps}
use Rattle.reader_text.proofs.whole_line.Goals as goal

pub returns-then-is_refused : goal.returns-then-is_refused
returns-then-is_refused c =
    let f = c.fields_line-x in
    let a = c.args in
    let stage = fields_stage a.s.stage (sym c.is_fields.ensures ∙ c.if-not-is_fields.false) in
    λ line z.
    let v = z.arrays in
    let step = f.ensures.step (record { tag_room = v.tag_room; boundary_room = v.boundary_room; within = v.within }) line in
    whole_keeps a.wanted.now.tag.now a.wanted.now.length (take c.in_ok-k.k a.piece.now) f.result a.s line
    a.tag.now a.boundary.now f.new.tag f.new.boundary z f.auto.tag
    f.auto.boundary (f.ensures.within v.within) stage step (sym c.is_refused.ensures ∙ c.if-is_refused.true)

pub returns : goal.returns
returns c =
    let f = c.fields_line-x in
    let a = c.args in
    let stage = fields_stage a.s.stage (sym c.is_fields.ensures ∙ c.if-not-is_fields.false) in
    let x = rw c.in_ok-k.was at c.whole_ahead.ensures in
    λ line z.
    let v = z.arrays in
    let step = f.ensures.step (record { tag_room = v.tag_room; boundary_room = v.boundary_room; within = v.within }) line in
    let w = f.ensures.within v.within in
    record {
      fits = record { line = w.line_fits; tag = w.tag_fits; boundary = w.boundary_fits };
      went = λ h. whole_went a.wanted.now.tag.now a.wanted.now.length h a.piece.now c.in_ok-k.k x.run x.ends
          (parser_of a.s line a.tag.now a.boundary.now) (parser_of f.result line f.new.tag f.new.boundary) stage
          (ap (λ (m : ℕ). take m line) x.empty) x.unended step (sym c.is_refused.ensures ∙ c.if-is_refused.false);
    }
