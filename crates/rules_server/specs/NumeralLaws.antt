-- What holds of decimal numerals of any digit count: "The numeral comparison is proved once over the digit count"; "Numbers have no leading zeros".
use Rattle.std.specs.Prelude.{ℕ, ◌<◌, ◌≡◌, true, false, List, ltb, get_or}
use Rattle.rules_server.specs.Octets.{codes, is_digit, is_nil, all}
use Rattle.rules_server.specs.Numerals.{digit, decimal, print}
use Rattle.rules_server.specs.NumeralOrder.{significant, by_digits}

pub record NumeralLaws : Type 0 where
  -- of any two numerals: their exact values compare as their digits do, once the zeros in front are passed over
  pub compares : (a b : List ℕ) → ltb (decimal a) (decimal b) ≡ by_digits (significant a) (significant b)
  -- of any number: it is printed in digits, at least one, that read back as it
  pub prints_digits : (n : ℕ) → all is_digit (print n) ≡ true
  pub prints_some : (n : ℕ) → is_nil (print n) ≡ false
  pub reads_back : (n : ℕ) → decimal (print n) ≡ n
  -- and with no leading zero: 0 is `0`, and any other begins with a digit that is not 0
  pub zero : print 0 ≡ codes "0"
  pub no_zero : (n : ℕ) → 0 < n → 0 < digit (get_or (print n) 0 0)
