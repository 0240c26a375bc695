-- `put_parts` writes the parts and the closing line.
use Rattle.server_answers.proofs.Multiparts.{parts-both}
use Rattle.server_answers.proofs.put_parts.Goals as goal

pub returns : goal.returns
returns c =
    let f = c.args.f.now in
    parts-both f.boundary.now f.media.now f.file.now c.args.parts.now c.put_each.ensures c.put_closing.ensures
