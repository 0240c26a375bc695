-- Boundaries of a length that is not allowed.
use Rattle.std.proofs.Common.{◌≡◌, ℕ, ◌<◌, true, List, length, arith}
use borrow.Author.Tests.{lt-ltb}
use Rattle.rules_server.specs.Limits.{max_boundary}
use Rattle.rules_server.specs.Tags.{bad_boundary}
use Rattle.octets.proofs.strings.Laws.{drop_end, not_nil}

pub bad_empty : (b : List ℕ) → length b < 1 → bad_boundary b ≡ true
unfolding bad_boundary
bad_empty b h = rw (drop_end b 0 (omega arith))

pub bad_long : (b : List ℕ) → 70 < length b → bad_boundary b ≡ true
unfolding bad_boundary
bad_long b h = rw (not_nil b (λ z. omega arith), lt-ltb max_boundary (length b) h)
