-- The number of bytes by std's word and by the documents' is the same.
use Rattle.std.proofs.Common.{◌≡◌, ℕ, List, w64, arith}
use Rattle.std.specs.Int.{from_be_bytes, w16, to_be_bytes}
use Rattle.rules_server.specs.Numbers.{in_bytes}
use Rattle.octets.specs.Numbers.{bytes_at, number_at, pair_at, eight}

pub number_is : (v : List ℕ) (a : ℕ) → from_be_bytes w64 (bytes_at v a 0 8) ≡ number_at v a
unfolding number_at
number_is v a = omega arith

pub pair_is : (v : List ℕ) (a : ℕ) → from_be_bytes w16 (bytes_at v a 0 2) ≡ pair_at v a
unfolding pair_at
pair_is v a = omega arith

pub eight_is : (n : ℕ) → to_be_bytes w64 n ≡ eight n
unfolding in_bytes
eight_is n = grind arith
