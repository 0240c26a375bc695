-- Comparison of numerals by their digits, from the front. That it is the comparison of their exact values is `compares` of NumeralLaws.
use Rattle.std.specs.Prelude.{ℕ, Bool, true, false, cond, List, [], ◌∷◌, ltb, length}
use Rattle.rules_server.specs.Numerals.{digit}

-- the numeral without the bytes of value 0 that it begins with
abbrev pub significant : List ℕ → List ℕ
significant [] = []
significant (b ∷ l) = cond (ltb 0 (digit b)) (b ∷ l) (significant l)

-- of two numerals with the same count of digits, the first is less: the first digit that differs decides
abbrev pub first_less : List ℕ → List ℕ → Bool
first_less [] q = false
first_less (x ∷ p) [] = false
first_less (x ∷ p) (y ∷ q) = cond (ltb (digit x) (digit y)) true (cond (ltb (digit y) (digit x)) false (first_less p q))

-- of two numerals that do not begin with 0, the first is less: it has fewer digits, or as many and the first that differs is less
abbrev pub by_digits : List ℕ → List ℕ → Bool
by_digits p q = cond (ltb (length p) (length q)) true (cond (ltb (length q) (length p)) false (first_less p q))
