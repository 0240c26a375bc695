-- `has_delimiter`: what is left holds the delimiter exactly where CR LF and the data do. The measure is what is left.
use Rattle.std.proofs.Common.{◌≡◌, ◌++◌, length}
use Rattle.rules_server.specs.Octets.{occurs}
use Rattle.rules_server.specs.Texts.{crlf}
use Rattle.rules_server.specs.Answers.{dash_boundary}
use Rattle.server_status.proofs.delimiters.has_delimiter.Given as goal

abbrev pub invariant-loop-behind : goal.invariant-loop-behind
invariant-loop-behind l = occurs (crlf ++ dash_boundary l.boundary) l.rest ≡ occurs (crlf ++ dash_boundary l.boundary) (crlf ++ l.«data»)

abbrev pub decreases-loop-behind : goal.decreases-loop-behind
decreases-loop-behind l = length l.rest
