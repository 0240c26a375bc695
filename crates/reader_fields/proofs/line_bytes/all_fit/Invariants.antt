-- `all_fit` tests every byte: `fit` is whether those before it may stand in a line.
use Rattle.std.proofs.Common.{◌≡◌, take}
use Rattle.rules_server.specs.Octets.{all}
use Rattle.rules_tablet.specs.Lines.{is_line_byte}
use Rattle.reader_fields.proofs.line_bytes.all_fit.Given as goal

abbrev pub invariant-loop-b : goal.invariant-loop-b
invariant-loop-b l = l.fit ≡ all is_line_byte (take l.b-index l.part)
