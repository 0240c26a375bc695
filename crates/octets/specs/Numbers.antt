-- Numbers in bytes, the most significant first. Behind the end of a text every byte counts as 0.
use Rattle.std.specs.Prelude.{ℕ, zero, suc, ◌+◌, List, [], ◌∷◌, get_or}
use Rattle.rules_server.specs.Numbers.{value_of, in_bytes}

-- k bytes of a text, from i places behind a on
abbrev pub bytes_at : List ℕ → ℕ → ℕ → ℕ → List ℕ
bytes_at v a i zero = []
bytes_at v a i (suc k) = get_or v (a + i) 0 ∷ bytes_at v a (i + 1) k

-- the number at a place: that of the eight bytes from there on
unfoldable pub number_at : List ℕ → ℕ → ℕ
number_at v a = value_of (bytes_at v a 0 8)

-- that of two bytes
unfoldable pub pair_at : List ℕ → ℕ → ℕ
pair_at v a = value_of (bytes_at v a 0 2)

-- a number in eight bytes
abbrev pub eight : ℕ → List ℕ
eight n = in_bytes 8 n
