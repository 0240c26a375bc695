-- n is at most the limit, and reading on from n gives the numeral's value.
use Rattle.std.proofs.Common.{◌≡◌, ◌≤◌, drop}
use Rattle.rules_server.specs.Numerals.{decimal, decimal_from}
use Rattle.numerals.proofs.bounded.bounded.Given as goal

abbrev pub invariant-loop-b : goal.invariant-loop-b
invariant-loop-b l = (l.n ≤ l.limit) × (decimal_from l.n (drop l.b-index l.rest) ≡ decimal l.d)
