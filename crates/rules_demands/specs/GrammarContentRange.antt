-- The grammar of Content-Range, as document 01 writes it ("Content-Range") from RFC 7233 section 4.2: "`bytes`, one space, first-last, `/`, then length or
-- `*`".
-- Each rule is a type of derivations over the text that it covers; `text` says how the covered text is put together.
use Rattle.std.specs.Prelude.{ℕ, suc, ◌+◌, ◌≤◌, ◌<◌, ◌≡◌, ◌↔◌, true, false, List, [], ◌∷◌, ◌++◌}
use Rattle.std.specs.Prelude.{Option, None, Some}
use Rattle.rules_server.specs.Limits.{max_file}
use Rattle.rules_server.specs.Octets.{codes, asterisk, dash, slash}
use Rattle.rules_server.specs.Numerals.{decimal}
use Rattle.rules_tablet.specs.Fields.{range_field, is_wrong, is_foreign, first_of, last_of}
use Rattle.rules_tablet.specs.Heads.{span_of}
use Rattle.rules_tablet.specs.declared.RangeField.TheVariants.{Absent, Wrong, Span, Of}
use Rattle.rules_demands.specs.GrammarRange.{Digits}

-- 1*DIGIT of any count, and its value
pub record Number (t : List ℕ) (k : ℕ) : Type 0 where
  pub digits : Digits t
  pub value : k ≡ decimal t

-- "then length or `*`"
pub data LengthText : List ℕ → Option ℕ → Type 0 where
  unknown : {t : List ℕ} {o : Option ℕ} → t ≡ asterisk ∷ [] → o ≡ None → LengthText t o
  stated : {t : List ℕ} {o : Option ℕ} (n : ℕ) → Number t n → o ≡ Some n → LengthText t o

-- the value v has the form, with first a, last b and the length o, if one is stated
pub record ContentRangeText (v : List ℕ) (a b : ℕ) (o : Option ℕ) : Type 0 where
  pub first : List ℕ
  pub last : List ℕ
  pub complete : List ℕ
  pub is_first : Number first a
  pub is_last : Number last b
  pub is_length : LengthText complete o
  pub text : v ≡ codes "bytes " ++ (first ++ (dash ∷ (last ++ (slash ∷ complete))))

-- "A number over 1,099,511,627,776, or any other form, is wrong as well"
pub record RangeStated (v : List ℕ) (a b : ℕ) (o : Option ℕ) : Type 0 where
  pub form : ContentRangeText v a b o
  pub first_small : a ≤ max_file
  pub last_small : b ≤ max_file
  pub length_small : (n : ℕ) → o ≡ Some n → n ≤ max_file

-- for a copy of n bytes: "wrong if last < first or a stated length is at most last; a last beyond the copy is wrong too"
pub record RangeRight (n : ℕ) (v : List ℕ) : Type 0 where
  pub first : ℕ
  pub last : ℕ
  pub stated : Option ℕ
  pub range : RangeStated v first last stated
  pub ordered : first ≤ last
  pub within_stated : (s : ℕ) → stated ≡ Some s → last < s
  pub within_copy : last < n

-- "a stated length unlike the copy's length", which "counts for 13 only if the field has the right form and no number too large"
pub record RangeForeign (n : ℕ) (v : List ℕ) : Type 0 where
  pub first : ℕ
  pub last : ℕ
  pub stated : ℕ
  pub range : RangeStated v first last (Some stated)
  pub unlike : stated ≡ n → ⊥

-- of any value: what it is read as, and what it is for a copy of any length
pub record DecidesContentRange (v : List ℕ) : Type 0 where
  pub of : (a b n : ℕ) → (range_field v ≡ Of a b n) ↔ RangeStated v a b (Some n)
  pub span : (a b : ℕ) → (range_field v ≡ Span a b) ↔ RangeStated v a b None
  pub wrong : (range_field v ≡ Wrong) ↔ ((a b : ℕ) (o : Option ℕ) → RangeStated v a b o → ⊥)
  pub there : range_field v ≡ Absent → ⊥
  pub first : (a b : ℕ) (o : Option ℕ) → RangeStated v a b o → first_of (range_field v) ≡ a
  pub last : (a b : ℕ) (o : Option ℕ) → RangeStated v a b o → last_of (range_field v) ≡ b
  -- "whose span": how many bytes there are from first to last
  pub span_of_value : (a b : ℕ) (o : Option ℕ) → RangeStated v a b o → a ≤ b → a + span_of (range_field v) ≡ suc b
  pub right : (n : ℕ) → (is_wrong n (range_field v) ≡ false) ↔ RangeRight n v
  pub foreign : (n : ℕ) → (is_foreign n (range_field v) ≡ true) ↔ RangeForeign n v
  pub unique : (a b c d : ℕ) (o p : Option ℕ) → ContentRangeText v a b o → ContentRangeText v c d p → (a ≡ c) × (b ≡ d) × (o ≡ p)

abbrev pub ContentRangesDecided : Type 0
ContentRangesDecided = (v : List ℕ) → DecidesContentRange v

-- both sides of an edge
pub record ContentRangeExamples : Type 0 where
  pub whole : RangeStated (codes "bytes 500-999/8000") 500 999 (Some 8000)
  pub unknown : RangeStated (codes "bytes 0-0/*") 0 0 None
  pub largest : RangeStated (codes "bytes 0-0/1099511627776") 0 0 (Some 1099511627776)
  pub too_large : (a b : ℕ) (o : Option ℕ) → RangeStated (codes "bytes 0-0/1099511627777") a b o → ⊥
  pub no_first : (a b : ℕ) (o : Option ℕ) → RangeStated (codes "bytes -0/1") a b o → ⊥
  pub two_spaces : (a b : ℕ) (o : Option ℕ) → RangeStated (codes "bytes  0-0/1") a b o → ⊥
  pub unsatisfied : (a b : ℕ) (o : Option ℕ) → RangeStated (codes "bytes */1234") a b o → ⊥
  pub exact : RangeRight 1 (codes "bytes 0-0/1")
  pub at_length : RangeRight 2 (codes "bytes 0-1/1") → ⊥
  pub backward : RangeRight 9 (codes "bytes 2-1/9") → ⊥
  pub beyond : RangeRight 1 (codes "bytes 0-1/*") → ⊥
