-- `begin` gives the fresh reader, which meets its rule beside every copy.
-- Assumes nothing.
use mathlib.Core.Path.{◌≡◌}
use borrow.Author.Rules.{rules}
use Rattle.rules_tablet.specs.Calls.{fresh, reader_ok}
use Rattle.rules_tablet.specs.Readers.{fresh_reader}
use Rattle.rules_tablet.specs.declared.Reader.{Reader}
use Rattle.reader.specs.Begun.{Begun}
use Rattle.reader.specs.Rules.{reader_rule}
use Rattle.reader.proofs.fresh.begin.Goals as goal

-- a reader that is the fresh one
begun : (r : Reader) → r ≡ fresh_reader → Begun r
unfolding fresh reader_rule reader_ok
begun r e = record { record_is = e; is = rw e; rule = λ k. rw e }

pub returns : goal.returns
returns c = begun _ (search rules)
