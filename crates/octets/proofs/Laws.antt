-- When a byte lies within lo to hi.
use Prim.Native.Nat.{ℕ, ◌≤◌, ◌<◌}
use mathlib.Core.Bool.{true, false, and-false}
use mathlib.Core.Path.{◌≡◌}
use lib.Dec.{leb}
use borrow.Author.Tests.{le-leb, lt-leb}
use Rattle.rules_server.specs.Octets.{within}

-- a byte below lo does not
pub within_below : (lo hi b : ℕ) → b < lo → within lo hi b ≡ false
within_below lo hi b h = rw (lt-leb lo b h)

-- a byte above hi does not
pub within_above : (lo hi b : ℕ) → hi < b → within lo hi b ≡ false
within_above lo hi b h = rw (lt-leb b hi h) (and-false (leb lo b))

-- a byte between them does
pub within-both : (lo hi b : ℕ) → lo ≤ b → b ≤ hi → within lo hi b ≡ true
within-both lo hi b h g = rw (le-leb lo b h, le-leb b hi g)
