-- What a spec asks of a file.
use Rattle.std.specs.Prelude.{ℕ, cond, ltb, Option, None, Some}
use Rattle.rules_server.specs.Ranges.{ByteSpec, invalid, satisfiable}
use Rattle.rules_server.specs.Parts.{run_of}
use Rattle.server_ranges.specs.declared.resolve.Resolved.{Resolved}

-- one spec for a file of n bytes: its run where it is satisfiable
unfoldable pub resolution : ℕ → ByteSpec → Resolved
resolution n s = record { invalid = invalid s; run = cond (satisfiable n s) (Some (run_of n s)) None }

-- a number where it is a position of n bytes
abbrev pub below_of : ℕ → ℕ → Option ℕ
below_of n x = cond (ltb x n) (Some x) None
