-- `writing::window::Writer::copy` meets its contract: where there is room, the text is stored as a whole. Assumes nothing.
use Rattle.std.proofs.Common.{refl, arith}
use Rattle.writing.proofs.window.Laws.{put_over}
use Rattle.writing.proofs.window.Writer.copy.Goals as goal

pub returns : goal.returns
returns c =
    let w = c.args.self.now in
    let text = c.args.text.now in record {
      name = refl;
      bytes = put_over text w.out.now c.overwrite.new.part w.skip w.at c.requires.nothing_to_skip c.overwrite.ensures c.requires.room;
    }
