-- `parse_byte` tests the sizes, and each arm is given which stages it is for; the arrays keep their sizes.
-- Assumes nothing.
use mathlib.Core.Path.{ap, sym, ◌∙◌}
use Rattle.rules_tablet.specs.Parsers.{parse}
use Rattle.rules_tablet.specs.declared.Stage.{Stage}
use Rattle.reader_state.specs.States.{parser_of}
use Rattle.reader_text.specs.Lines.{LineReady}
use Rattle.reader_state.proofs.sizes.Laws.{fit_sized}
use Rattle.reader_text.proofs.bytes.Keeps.{read}
use Rattle.reader_text.proofs.bytes.parse_byte.Goals as goal

pub returns-in-Fields : goal.returns-in-Fields
returns-in-Fields c =
    let a = c.args in
    let k1 = c.has_sizes in
    let y = fit_sized a.s a.line.now a.tag.now a.boundary.now
    (sym k1.ensures ∙ c.if-not-has_sizes.false) in
    let told = c.in-Fields.is in
    let z : LineReady a.s a.line.now a.tag.now a.boundary.now = record { arrays = y; reads = rw told } in
    let tag = a.wanted.now.tag.now in
    let k = ap (λ (x : Stage). parse tag a.wanted.now.length x a.b (parser_of a.s a.line.now a.tag.now a.boundary.now)) told in
    let f = c.fields_step in
    let x = read f.result a.s a.line.now a.tag.now a.boundary.now f.new.line f.new.tag f.new.boundary tag a.wanted.now.length
    a.b z f.auto.line f.auto.tag f.auto.boundary f.ensures.front (f.ensures.step ∙ sym k) f.ensures.within in
    record { step = λ w. x.0; kept = λ w. x.1; beyond = f.ensures.beyond; other = λ h. absurd (h z) }
