-- `writing::window::Writer::put` meets its contract: the text is passed over whole, or what stands behind the skip is stored. Assumes nothing.
use Rattle.std.proofs.Common.{ℕ, List, refl, sym, ap, ◌∙◌, arith}
use Rattle.std.proofs.lemmas.List.{take_rest}
use Rattle.writing.specs.Window.{Window, write}
use Rattle.writing.proofs.window.Laws.{passed, behind}
use Rattle.writing.proofs.window.Writer.put.Goals as goal

pub returns-then-text-self : goal.returns-then-text-self
returns-then-text-self c =
    let w = c.args.self.now in
    record { name = refl; bytes = sym (passed c.args.text.now w.out.now w.skip w.at (omega arith)) }

pub returns-else-text-self : goal.returns-else-text-self
returns-else-text-self c =
    let w = c.args.self.now in
    let text = c.args.text.now in
    let step = c.store-else-text-self.ensures in
    let v : Window = record { bytes = w.out.now; skip = 0; at = w.at } in record {
      name = step.name;
      bytes = step.bytes ∙ ap (λ (l : List ℕ). write l v) (take_rest text w.skip) ∙ sym (behind text w.out.now w.skip w.at (omega arith));
    }
