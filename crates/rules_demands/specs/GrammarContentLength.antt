-- The grammar of Content-Length's value, as document 01 writes it ("Head"): "digits, value at most 2,199,023,255,552"; RFC 7230 section 3.3.2: 1*DIGIT.
use Rattle.std.specs.Prelude.{ℕ, ◌≤◌, ◌≡◌, ◌↔◌, true, false, List, Some}
use Rattle.rules_server.specs.Octets.{codes}
use Rattle.rules_server.specs.Numerals.{decimal}
use Rattle.rules_tablet.specs.Limits.{max_size}
use Rattle.rules_tablet.specs.Fields.{is_size, size}
use Rattle.rules_tablet.specs.Heads.{has_size}
use Rattle.rules_tablet.specs.Parsers.{Parser, head_field}
use Rattle.rules_tablet.specs.declared.Head.{Head}
use Rattle.rules_demands.specs.GrammarRange.{Digits}

-- the value v says the length k
pub record SizeText (v : List ℕ) (k : ℕ) : Type 0 where
  pub digits : Digits v
  pub value : k ≡ decimal v
  pub small : k ≤ max_size

-- of any value: it is taken for a length exactly when the grammar derives it
pub record DecidesSize (v : List ℕ) : Type 0 where
  pub decides : (is_size v ≡ true) ↔ ((k : ℕ) × SizeText v k)
  -- and the reader, whose head has none yet, takes the length that the grammar derives
  pub taken : (k : ℕ) (p : Parser) (h : Head) → has_size h.size ≡ false → SizeText v k → (head_field size v p h).head.size ≡ Some k
  pub unique : (k m : ℕ) → SizeText v k → SizeText v m → k ≡ m

abbrev pub SizesDecided : Type 0
SizesDecided = (v : List ℕ) → DecidesSize v

-- both sides of an edge
pub record SizeExamples : Type 0 where
  pub largest : SizeText (codes "2199023255552") 2199023255552
  pub padded : SizeText (codes "0002199023255552") 2199023255552
  pub one_more : (k : ℕ) → SizeText (codes "2199023255553") k → ⊥
  pub empty : (k : ℕ) → SizeText (codes "") k → ⊥
  pub signed : (k : ℕ) → SizeText (codes "+1") k → ⊥
