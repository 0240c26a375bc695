-- The size of a list of runs in bytes: every number has eight bytes.
use Rattle.std.specs.Prelude.{ℕ, ◌+◌, ◌*◌}
use Rattle.rules_tablet.specs.Limits.{max_runs}

-- the bytes of a list: its count, and two numbers for each run
abbrev pub runs_size : ℕ
runs_size = 8 + 16 * max_runs
