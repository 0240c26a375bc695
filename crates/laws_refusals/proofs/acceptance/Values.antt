-- A type or a range that was read is there.
use Prim.Native.Nat.{ℕ}
use mathlib.Core.Path.{◌≡◌, refl}
use mathlib.Core.Bool.{Bool, true, false, cond, not, ◌&&◌}
use mathlib.Core.List.{List, [], ◌∷◌}
use lib.Dec.{eqb}
use lib.ListN.{length, take, drop}
use Rattle.rules_server.specs.Octets.{all, is_digit, is_nil, starts_with, same_fold, codes}
use Rattle.rules_server.specs.Texts.{bytes_range}
use Rattle.rules_server.specs.Tags.{is_multipart_type, bad_boundary}
use Rattle.rules_server.specs.Numerals.{decimal}
use Rattle.rules_server.specs.Ranges.{digits, after_digits}
use Rattle.rules_tablet.specs.Fields.{type_field, parameter, boundary_of, range_field, small, span_field, length_field, stated_field, last_field, first_field}
use Rattle.rules_tablet.specs.Heads.{has_range, has_type}
use Rattle.rules_tablet.specs.declared.RangeField.{RangeField}
use Rattle.rules_tablet.specs.declared.RangeField.TheVariants.{Wrong, Span, Of}
use Rattle.rules_tablet.specs.declared.TypeField.TheVariants.{Other, Multipart, Broken}

-- a type that was read is there
pub type_there : (v : List ℕ) → has_type (type_field v) ≡ true
unfolding type_field
type_there v = go (is_multipart_type v) (same_fold (take 9 (parameter v)) (codes "boundary=") && not (bad_boundary (boundary_of v)))
  where
    go : (a b : Bool) → has_type (cond a (cond b Multipart Broken) Other) ≡ true
    go true true = refl
    go true false = refl
    go false b = refl

-- either of two ranges is there
one_there : (b : Bool) (x y : RangeField) → has_range x ≡ true → has_range y ≡ true → has_range (cond b x y) ≡ true
one_there true x y e f = e
one_there false x y e f = f

-- a range that was read is there: behind the `/`
stated_there : (a b : ℕ) (l : List ℕ) → has_range (stated_field a b l) ≡ true
stated_there a b [] = refl
stated_there a b (x ∷ l) =
    one_there (eqb x 42 && is_nil l) (span_field a b) (cond (all is_digit (x ∷ l)) (length_field a b (decimal (x ∷ l))) Wrong)
    (one_there (small a && small b) (Span a b) Wrong refl refl)
    (one_there (all is_digit (x ∷ l)) (length_field a b (decimal (x ∷ l))) Wrong
    (one_there (small a && small b && small (decimal (x ∷ l))) (Of a b (decimal (x ∷ l))) Wrong refl refl) refl)

-- behind the `-`
last_there : (a : ℕ) (b rest : List ℕ) → has_range (last_field a b rest) ≡ true
last_there a [] rest = refl
last_there a (y ∷ b) [] = refl
last_there a (y ∷ b) (x ∷ rest) = one_there (eqb x 47) (stated_field a (decimal (y ∷ b)) rest) Wrong (stated_there a (decimal (y ∷ b)) rest) refl

-- behind the unit
first_there : (a rest : List ℕ) → has_range (first_field a rest) ≡ true
first_there [] rest = refl
first_there (y ∷ a) [] = refl
first_there (y ∷ a) (x ∷ rest) = one_there (eqb x 45) (last_field (decimal (y ∷ a)) (digits rest) (after_digits rest)) Wrong
    (last_there (decimal (y ∷ a)) (digits rest) (after_digits rest)) refl

-- a whole value
pub range_there : (v : List ℕ) → has_range (range_field v) ≡ true
unfolding range_field
range_there v =
    one_there (starts_with bytes_range v) (first_field (digits (drop (length bytes_range) v)) (after_digits (drop (length bytes_range) v))) Wrong
    (first_there (digits (drop (length bytes_range) v)) (after_digits (drop (length bytes_range) v))) refl
