-- `right_step` goes by what the stage is to the loop.
-- Assumes nothing.
use mathlib.Core.Path.{refl, ap}
use Rattle.reader_state.specs.Looks.{is_between_parts}
use Rattle.reader_state.specs.States.{parser_of}
use Rattle.reader_text.proofs.Text.{over_went}
use Rattle.reader_text.proofs.Byte.{sized_fits, over_stage}
use Rattle.reader_text.proofs.right_step.Goals as goal

pub returns-in-Skipped : goal.returns-in-Skipped
returns-in-Skipped c =
    let a = c.args in
    c.skip_step.ensures a.line.now a.tag.now a.boundary.now (sized_fits a.s a.line.now a.tag.now a.boundary.now c.requires.0)
    a.wanted.now.tag.now a.wanted.now.length a.piece.now refl

pub returns-in-BetweenParts : goal.returns-in-BetweenParts
returns-in-BetweenParts c =
    let a = c.args in
    c.pass_step.ensures a.wanted.now.tag.now a.wanted.now.length a.line.now a.tag.now a.boundary.now c.requires.0 refl
    (ap is_between_parts (rw c.look_at.ensures at c.in-BetweenParts.is)) c.requires.1

pub returns-in_default : goal.returns-in_default
returns-in_default c =
    let a = c.args in
    let d = c.in_default in
    let over = over_stage a.s.stage (rw c.look_at.ensures at d.not-Skipped) (rw c.look_at.ensures at d.not-LineOfHead)
    (rw c.look_at.ensures at d.not-LineOfPart) (rw c.look_at.ensures at d.not-BetweenParts) c.requires.2 in
    record {
      fits = sized_fits a.s a.line.now a.tag.now a.boundary.now c.requires.0;
      went = λ h. over_went a.wanted.now.tag.now a.wanted.now.length a.piece.now (parser_of a.s a.line.now a.tag.now a.boundary.now) h over;
    }
