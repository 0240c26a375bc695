-- A value is taken for a Content-Length exactly when its grammar derives it.
use Rattle.std.specs.Prelude.{Some}
use Prim.Native.Nat.{ℕ, ◌≤◌}
use mathlib.Core.Path.{◌≡◌, refl, sym, ◌∙◌, ap}
use mathlib.Core.Bool.{true, false, not, ◌&&◌, true≢false}
use mathlib.Core.List.{List}
use lib.Dec.{leb}
use borrow.Author.Tests.{leb-true, le-leb, not-true}
use Rattle.rules_server.specs.Octets.{codes, all, is_digit, is_nil}
use Rattle.rules_server.specs.Numerals.{decimal}
use Rattle.rules_tablet.specs.Limits.{max_size}
use Rattle.rules_tablet.specs.Fields.{is_size, size}
use Rattle.rules_tablet.specs.Heads.{has_size}
use Rattle.rules_tablet.specs.Parsers.{Parser, head_field}
use Rattle.rules_tablet.specs.declared.Head.{Head}
use Rattle.laws_server.proofs.grammar.Bytes.{and_left, and_right}
use Rattle.rules_demands.specs.GrammarContentLength.{SizeText, SizesDecided, SizeExamples}

-- what is taken is derived
sound : (v : List ℕ) → is_size v ≡ true → SizeText v (decimal v)
unfolding is_size
sound v e =
    let first = and_left (not (is_nil v) && all is_digit v) (leb (decimal v) max_size) e in
    record {
      digits = record {
        some = not-true (is_nil v) (and_left (not (is_nil v)) (all is_digit v) first);
        digits = and_right (not (is_nil v)) (all is_digit v) first;
      };
      value = refl;
      small = leb-true (decimal v) max_size (and_right (not (is_nil v) && all is_digit v) (leb (decimal v) max_size) e);
    }

-- what is derived is taken
complete : (v : List ℕ) (k : ℕ) → SizeText v k → is_size v ≡ true
unfolding is_size
complete v k d =
    let n : decimal v ≤ max_size = rw d.value at d.small in
    rw (d.digits.some, d.digits.digits, le-leb (decimal v) max_size n)

-- what is derived is the length that the reader takes
taken : (v : List ℕ) (k : ℕ) (p : Parser) (h : Head) → has_size h.size ≡ false → SizeText v k → (head_field size v p h).head.size ≡ Some k
taken v k p h none d = rw (none, complete v k d) (ap Some (sym d.value))

-- every value
pub sizes_decided : SizesDecided
sizes_decided v = record {
  decides = (λ e. (decimal v, sound v e), λ p. complete v p.0 p.1);
  taken = taken v;
  unique = λ k m d e. d.value ∙ sym e.value;
}

-- what is not taken is not derived
apart : (v : List ℕ) → is_size v ≡ false → (k : ℕ) → SizeText v k → ⊥
apart v e k d = true≢false (sym (complete v k d) ∙ e)

-- both sides of an edge
pub size_examples : SizeExamples
unfolding is_size
size_examples = record {
  largest = sound (codes "2199023255552") refl;
  padded = sound (codes "0002199023255552") refl;
  one_more = apart (codes "2199023255553") refl;
  empty = apart (codes "") refl;
  signed = apart (codes "+1") refl;
}
