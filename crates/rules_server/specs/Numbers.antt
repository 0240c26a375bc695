-- Numbers in bytes: "all high byte first" (document 02, 2026-02).
use Rattle.std.specs.Prelude.{ℕ, zero, suc, ◌+◌, ◌*◌, ◌/◌, ◌%◌, ◌^◌, ◌<◌, ◌≡◌, List, [], ◌∷◌, length}

-- the number that bytes are, behind the digits of v
abbrev pub value_from : ℕ → List ℕ → ℕ
value_from v [] = v
value_from v (b ∷ l) = value_from (v * 256 + b) l

-- the number that bytes are
abbrev pub value_of : List ℕ → ℕ
value_of l = value_from 0 l

-- n in k bytes, before others
abbrev pub digits_of : ℕ → ℕ → List ℕ → List ℕ
digits_of zero n l = l
digits_of (suc k) n l = digits_of k (n / 256) (n % 256 ∷ l)

-- n in k bytes
unfoldable pub in_bytes : ℕ → ℕ → List ℕ
in_bytes k n = digits_of k n []

-- each of them is a byte
abbrev pub AreBytes : List ℕ → Type 0
AreBytes [] = Unit {0}
AreBytes (b ∷ l) = (b < 256) × AreBytes l

-- What holds of numbers in bytes, for any count of bytes.
pub record NumberLaws : Type 0 where
  pub long : (k n : ℕ) → length (in_bytes k n) ≡ k
  pub bytes : (k n : ℕ) → AreBytes (in_bytes k n)
  -- a number is read back from its bytes, and bytes are those of their number
  pub number_back : (k n : ℕ) → n < 256 ^ k → value_of (in_bytes k n) ≡ n
  pub bytes_back : (l : List ℕ) → AreBytes l → in_bytes (length l) (value_of l) ≡ l
  pub below : (l : List ℕ) → AreBytes l → value_of l < 256 ^ length l
