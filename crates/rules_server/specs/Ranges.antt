-- Reading Range (document 01, "Reading Range"). `GrammarRange` of rules_demands states the same as a grammar.
use Rattle.std.specs.Prelude.{ℕ, Bool, false, not, cond, ◌||◌, List, [], ◌∷◌, ltb, eqb, length, take, drop, get_or}
use Rattle.rules_server.specs.Octets.{is_blank, is_digit, same_fold, trim, comma, dash}
use Rattle.rules_server.specs.Texts.{bytes_unit}
use Rattle.rules_server.specs.Numerals.{decimal}
use Rattle.rules_server.specs.declared.Numeral.{Numeral}
use Rattle.rules_server.specs.declared.Spec.{Spec}
use Rattle.rules_server.specs.declared.Spec.TheVariants.{FirstLast, From, Suffix}

-- "A spec is one of three kinds: first-last, first with an open end, or a suffix"; the numbers are exact
pub data ByteSpec : Type 0 where
  span : ℕ → ℕ → ByteSpec
  onward : ℕ → ByteSpec
  suffix : ℕ → ByteSpec

-- what a text begins with: a spec and what stands behind it, or none
pub data SpecFront : Type 0 where
  no_spec : SpecFront
  spec_then : ByteSpec → List ℕ → SpecFront

-- the digits that a text begins with, and what stands behind them
abbrev pub digits : List ℕ → List ℕ
digits [] = []
digits (x ∷ l) = cond (is_digit x) (x ∷ digits l) []

abbrev pub after_digits : List ℕ → List ℕ
after_digits [] = []
after_digits (x ∷ l) = cond (is_digit x) (after_digits l) (x ∷ l)

-- the spec of the digits before and behind a `-`: both, the first alone, or the second alone
abbrev pub spec_of : List ℕ → List ℕ → List ℕ → SpecFront
spec_of [] [] rest = no_spec
spec_of [] (y ∷ b) rest = spec_then (suffix (decimal (y ∷ b))) rest
spec_of (x ∷ a) [] rest = spec_then (onward (decimal (x ∷ a))) rest
spec_of (x ∷ a) (y ∷ b) rest = spec_then (span (decimal (x ∷ a)) (decimal (y ∷ b))) rest

-- the digits a, then what stands behind them, which has to begin with `-`
abbrev pub spec_from : List ℕ → List ℕ → SpecFront
spec_from a [] = no_spec
spec_from a (x ∷ l) = cond (eqb x dash) (spec_of a (digits l) (after_digits l)) no_spec

unfoldable pub spec_at : List ℕ → SpecFront
spec_at l = spec_from (digits l) (after_digits l)

-- what the enum of the code means, its numerals being parts of the value v
abbrev pub numeral : List ℕ → Numeral → ℕ
numeral v d = decimal (take d.len (drop d.start v))

abbrev pub meaning : List ℕ → Spec → ByteSpec
meaning v (FirstLast a b) = span (numeral v a) (numeral v b)
meaning v (From a) = onward (numeral v a)
meaning v (Suffix k) = suffix (numeral v k)

-- what a Range value is: of another unit, malformed, or a list of specs
pub data Reading : Type 0 where
  other_unit : Reading
  malformed : Reading
  listed : List ByteSpec → Reading

-- the members between commas
abbrev pub into : ℕ → List (List ℕ) → List (List ℕ)
into x [] = (x ∷ []) ∷ []
into x (m ∷ ms) = (x ∷ m) ∷ ms

abbrev pub members : List ℕ → List (List ℕ)
members [] = [] ∷ []
members (x ∷ l) = cond (eqb x comma) ([] ∷ members l) (into x (members l))

-- "Text that does not read as a spec stops the reading at once: malformed"
abbrev pub add_spec : SpecFront → Reading → Reading
add_spec no_spec r = malformed
add_spec (spec_then s (x ∷ rest)) r = malformed
add_spec (spec_then s []) other_unit = malformed
add_spec (spec_then s []) malformed = malformed
add_spec (spec_then s []) (listed ss) = listed (s ∷ ss)

-- "Empty list members are allowed"
abbrev pub add_member : List ℕ → Reading → Reading
unfolding spec_at
add_member [] r = r
add_member (x ∷ m) r = add_spec (spec_at (x ∷ m)) r

abbrev pub read_members : List (List ℕ) → Reading
unfolding spec_at
read_members [] = listed []
read_members (m ∷ ms) = add_member (trim m) (read_members ms)

-- the list needs one spec
abbrev pub at_least_one : Reading → Reading
at_least_one other_unit = malformed
at_least_one malformed = malformed
at_least_one (listed []) = malformed
at_least_one (listed (s ∷ ss)) = listed (s ∷ ss)

-- what stands behind `bytes=`: "a space straight after `=` is not" allowed
unfoldable pub read_list : List ℕ → Reading
unfolding spec_at
read_list l = cond (is_blank (get_or l 0 0)) malformed (at_least_one (read_members (members l)))

-- the trimmed value: "starts with `bytes=`, letters in any case; any other start, or an empty value, is UNIT"
unfoldable pub read_range : List ℕ → Reading
unfolding read_list
read_range v = cond (same_fold (take (length bytes_unit) v) bytes_unit) (read_list (drop (length bytes_unit) v)) other_unit

abbrev pub specs_of : Reading → List ByteSpec
specs_of other_unit = []
specs_of malformed = []
specs_of (listed ss) = ss

-- "first-last is invalid if last is less than first"
abbrev pub invalid : ByteSpec → Bool
invalid (span a b) = ltb b a
invalid (onward a) = false
invalid (suffix k) = false

-- "a first-byte spec is satisfiable when first < n"; "A suffix is satisfiable when it is not 0"
abbrev pub satisfiable : ℕ → ByteSpec → Bool
satisfiable n (span a b) = ltb a n
satisfiable n (onward a) = ltb a n
satisfiable n (suffix k) = not (eqb k 0)

abbrev pub any_spec : (ByteSpec → Bool) → List ByteSpec → Bool
any_spec p [] = false
any_spec p (s ∷ ss) = p s || any_spec p ss
