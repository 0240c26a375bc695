-- Decimal numerals: "one or more digits, of any count, and means its exact decimal value"; "Numbers have no leading zeros".
use Rattle.std.specs.Prelude.{ℕ, zero, suc, ◌+◌, ◌-◌, ◌*◌, ◌/◌, ◌%◌, true, false, cond, List, [], ◌∷◌, ◌++◌, ltb}
use Rattle.rules_server.specs.Octets.{digit_zero, is_digit}

-- the value of a digit; of any other byte, which no numeral has, 0
abbrev pub digit : ℕ → ℕ
digit b = cond (is_digit b) (b - digit_zero) 0

-- the value of the digits read so far, followed by these
abbrev pub decimal_from : ℕ → List ℕ → ℕ
decimal_from n [] = n
decimal_from n (b ∷ l) = decimal_from (n * 10 + digit b) l

-- the exact decimal value of a string of digits
abbrev pub decimal : List ℕ → ℕ
decimal l = decimal_from 0 l

-- the digits of n, where k bounds how many there are beyond the first
abbrev pub print_fuel : ℕ → ℕ → List ℕ
print_fuel zero n = (digit_zero + n) ∷ []
print_fuel (suc k) n = elim (ltb n 10) [ true ↦ (digit_zero + n) ∷ [] | false ↦ print_fuel k (n / 10) ++ ((digit_zero + n % 10) ∷ []) ]

-- n in decimal, without leading zeros
unfoldable pub print : ℕ → List ℕ
print n = print_fuel n n
