-- The grammar of Range, as document 01 writes it from RFC 7233 section 2.1 and RFC 7230 section 7: `bytes=` in any case, then `*( "," OWS ) spec *( OWS "," [
-- OWS spec ] )`.
-- Each rule is a type of derivations over the text that it covers; `text` says how the covered text is put together.
use Rattle.std.specs.Prelude.{ℕ, ◌≡◌, ◌↔◌, true, false, List, [], ◌∷◌, ◌++◌}
use Rattle.rules_server.specs.Octets.{codes, is_blank, is_digit, is_nil, all, trim, comma, dash}
use Rattle.rules_server.specs.Numerals.{decimal}
use Rattle.rules_server.specs.Ranges.{ByteSpec, span, onward, suffix, other_unit, malformed, listed, read_range}
use Rattle.rules_demands.specs.GrammarLetters.{AnyCase}

-- OWS = *( SP / HTAB )
abbrev pub Ows : List ℕ → Type 0
Ows l = all is_blank l ≡ true

-- 1*DIGIT
pub record Digits (l : List ℕ) : Type 0 where
  pub some : is_nil l ≡ false
  pub digits : all is_digit l ≡ true

-- byte-range-spec = first-byte-pos "-" [ last-byte-pos ]; suffix-byte-range-spec = "-" suffix-length
pub data SpecText : List ℕ → ByteSpec → Type 0 where
  first_last : {t : List ℕ} {s : ByteSpec} (a b : List ℕ) → Digits a → Digits b → t ≡ a ++ (dash ∷ b) → s ≡ span (decimal a) (decimal b) → SpecText t s
  open_end : {t : List ℕ} {s : ByteSpec} (a : List ℕ) → Digits a → t ≡ a ++ (dash ∷ []) → s ≡ onward (decimal a) → SpecText t s
  last_bytes : {t : List ℕ} {s : ByteSpec} (k : List ℕ) → Digits k → t ≡ dash ∷ k → s ≡ suffix (decimal k) → SpecText t s

-- *( "," OWS )
pub data Leading : List ℕ → Type 0 where
  none : {t : List ℕ} → t ≡ [] → Leading t
  comma_then : {t : List ℕ} (w l : List ℕ) → Ows w → Leading l → t ≡ comma ∷ (w ++ l) → Leading t

-- *( OWS "," [ OWS spec ] )
pub data Following : List ℕ → List ByteSpec → Type 0 where
  none : {t : List ℕ} {ss : List ByteSpec} → t ≡ [] → ss ≡ [] → Following t ss
  empty : {t : List ℕ} {ss : List ByteSpec} (w l : List ℕ) → Ows w → Following l ss → t ≡ w ++ (comma ∷ l) → Following t ss
  spec : {t : List ℕ} {ss : List ByteSpec} (w u x l : List ℕ) (s : ByteSpec) (rest : List ByteSpec) → Ows w → Ows u → SpecText x s → Following l rest
      → t ≡ w ++ (comma ∷ (u ++ (x ++ l))) → ss ≡ s ∷ rest → Following t ss

-- `*( "," OWS ) spec *( OWS "," [ OWS spec ] )`
pub record ByteRangeSet (t : List ℕ) (ss : List ByteSpec) : Type 0 where
  pub lead : List ℕ
  pub one : List ℕ
  pub rest : List ℕ
  pub first : ByteSpec
  pub others : List ByteSpec
  pub leading : Leading lead
  pub spec : SpecText one first
  pub following : Following rest others
  pub text : t ≡ lead ++ (one ++ rest)
  pub specs : ss ≡ first ∷ others

-- `bytes=`, letters in any case, and the set
pub record RangeText (v : List ℕ) (ss : List ByteSpec) : Type 0 where
  pub unit : List ℕ
  pub set : List ℕ
  pub is_unit : AnyCase unit (codes "bytes=")
  pub members : ByteRangeSet set ss
  pub text : v ≡ unit ++ set

-- the value starts with `bytes=`
pub record UnitBytes (v : List ℕ) : Type 0 where
  pub unit : List ℕ
  pub set : List ℕ
  pub is_unit : AnyCase unit (codes "bytes=")
  pub text : v ≡ unit ++ set

-- of any value, trimmed: the reading is sound and complete for the grammar, and what the grammar yields is unique
pub record ReadsGrammar (raw : List ℕ) : Type 0 where
  pub sound : (ss : List ByteSpec) → read_range (trim raw) ≡ listed ss → RangeText (trim raw) ss
  pub complete : (ss : List ByteSpec) → RangeText (trim raw) ss → read_range (trim raw) ≡ listed ss
  pub unique : (ss ts : List ByteSpec) → RangeText (trim raw) ss → RangeText (trim raw) ts → ss ≡ ts
  -- another unit exactly when it does not start with `bytes=`, malformed exactly when it does and the rest is no set
  pub other : (read_range (trim raw) ≡ other_unit) ↔ (UnitBytes (trim raw) → ⊥)
  pub broken : (read_range (trim raw) ≡ malformed) ↔ (UnitBytes (trim raw) × ((ss : List ByteSpec) → RangeText (trim raw) ss → ⊥))

abbrev pub GrammarRead : Type 0
GrammarRead = (raw : List ℕ) → ReadsGrammar raw
