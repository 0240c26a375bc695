-- `fill` puts `src` over the front of the part.
-- Assumes nothing.
use Rattle.std.proofs.Common.{length, arith, refl, ◌+◌}
use borrow.Author.Tests.{le-leb}
use Rattle.reader_data.proofs.fill.Goals as goal

pub returns : goal.returns
returns c = let a = c.args in rw c.overwrite.ensures (rw (le-leb (0 + length a.src.now) (length a.part.now) (omega arith)) refl)
