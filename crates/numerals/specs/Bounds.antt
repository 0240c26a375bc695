-- A numeral's value against a limit.
use Rattle.std.specs.Prelude.{ℕ, Option, None, Some, cond, leb}

-- the value itself where it is at most the limit
abbrev pub bounded_by : ℕ → ℕ → Option ℕ
bounded_by limit n = cond (leb n limit) (Some n) None
