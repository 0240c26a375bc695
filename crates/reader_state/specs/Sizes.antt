-- The arrays of a line, a kept tag and a boundary have their sizes, and the lengths are within them.
use Rattle.std.specs.Prelude.{ℕ, Bool, ◌&&◌, leb, eqb}
use Rattle.rules_server.specs.Limits.{max_tag, max_boundary}
use Rattle.rules_tablet.specs.Limits.{max_line}

abbrev pub sizes_fit : ℕ → ℕ → ℕ → ℕ → ℕ → ℕ → Bool
sizes_fit line tag boundary line_len tag_len boundary_len =
    eqb line max_line && (eqb tag max_tag && (eqb boundary max_boundary && (leb line_len max_line && (leb tag_len max_tag && leb boundary_len max_boundary))))
