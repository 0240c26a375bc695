-- A fresh reader.
use Rattle.std.specs.Prelude.{◌≡◌, true}
use Rattle.rules_tablet.specs.Calls.{fresh}
use Rattle.rules_tablet.specs.Readers.{parser_in, fresh_reader}
use Rattle.rules_tablet.specs.declared.Copy.{Copy}
use Rattle.rules_tablet.specs.declared.Reader.{Reader}
use Rattle.reader.specs.Rules.{reader_rule}

-- a fresh reader, which meets its rule beside every copy
pub record Begun (r : Reader) : Type 0 where
  pub record_is : r ≡ fresh_reader
  pub is : parser_in r ≡ fresh
  pub rule : (c : Copy) → reader_rule c r ≡ true
