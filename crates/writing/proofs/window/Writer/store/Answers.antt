-- `writing::window::Writer::store` meets its contract: the buffer is full, or it is stored as much of the text as there is room for. Assumes nothing.
use Rattle.std.proofs.Common.{refl, sym, ◌∙◌, arith}
use Rattle.writing.proofs.window.Laws.{same, full, as_far}
use Rattle.writing.proofs.window.Writer.store.Goals as goal

pub returns-then-self : goal.returns-then-self
returns-then-self c =
    let w = c.args.self.now in
    let text = c.args.text.now in
    record { name = refl; bytes = sym (full text w.out.now w.skip w.at (omega arith) ∙ same refl (omega arith) refl) }

pub returns-else-text-room : goal.returns-else-text-room
returns-else-text-room c =
    let w = c.args.self.now in
    let step = c.copy-else-text-room.ensures in
    record { name = step.name; bytes = step.bytes ∙ as_far c.args.text.now w.out.now w.skip w.at _ c.requires (omega arith) }
