-- Packed texts: fields one behind the other, each behind its length. Behind the end of a text every byte counts as 0.
use Rattle.std.specs.Prelude.{ℕ, zero, suc, ◌+◌, ◌-◌, min, List, length, take, drop}
use Rattle.octets.specs.Numbers.{number_at}

-- the place behind the field at a place: behind its length and its bytes, as far as the text goes
abbrev pub behind_at : List ℕ → ℕ → ℕ
behind_at v a = min (length v) (a + 8 + number_at v a)

-- the bytes of the field at a place
abbrev pub field_at : List ℕ → ℕ → List ℕ
field_at v a = take (behind_at v a - (a + 8)) (drop (a + 8) v)

-- the place behind k fields from a place on
abbrev pub place_from : List ℕ → ℕ → ℕ → ℕ
place_from v a zero = a
place_from v a (suc k) = place_from v (behind_at v a) k

-- the field with k fields before it
abbrev pub item_of : List ℕ → ℕ → List ℕ
item_of v k = field_at v (place_from v 0 k)
