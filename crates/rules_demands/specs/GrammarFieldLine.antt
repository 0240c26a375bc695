-- The grammar of a field line, as document 01 writes it ("Head") from RFC 7230 section 3.2: "a token name, colon, value trimmed"; and which names count.
-- Each rule is a type of derivations over the text that it covers; `text` says how the covered text is put together.
use Rattle.std.specs.Prelude.{ℕ, ◌≡◌, ◌↔◌, true, false}
use mathlib.Core.List.{List, [], ◌∷◌, ◌++◌, Memᴰ}
use Rattle.rules_server.specs.Octets.{codes, is_blank, is_nil, colon}
use Rattle.rules_tablet.specs.Fields.{is_field, name_of, value_of, Name, etag, type, range, size, transfer, other, kind_of}
use Rattle.rules_demands.specs.GrammarLetters.{AnyCase}
use Rattle.rules_demands.specs.GrammarRange.{Ows}
use Rattle.rules_demands.specs.Demand3Foreign.{gives_tag}

-- each byte of a text is one of these
abbrev pub Among : List ℕ → List ℕ → Type 0
Among class [] = Unit {0}
Among class (x ∷ l) = Memᴰ x class × Among class l

-- tchar (RFC 7230, section 3.2.6)
abbrev pub token_bytes : List ℕ
token_bytes = codes "!#$%&'*+-.^_`|~0123456789ABCDEFGHIJKLMNOPQRSTUVWXYZabcdefghijklmnopqrstuvwxyz"

-- token = 1*tchar
pub record Token (t : List ℕ) : Type 0 where
  pub some : is_nil t ≡ false
  pub bytes : Among token_bytes t

-- a text neither begins nor ends with a blank
pub record Trimmed (v : List ℕ) : Type 0 where
  pub starts : (x : ℕ) (l : List ℕ) → v ≡ x ∷ l → is_blank x ≡ false
  pub ends : (x : ℕ) (l : List ℕ) → v ≡ l ++ (x ∷ []) → is_blank x ≡ false

-- field-name ":" OWS field-value OWS
pub record FieldLineText (l name value : List ℕ) : Type 0 where
  pub leading : List ℕ
  pub trailing : List ℕ
  pub token : Token name
  pub before : Ows leading
  pub behind : Ows trailing
  pub trimmed : Trimmed value
  pub text : l ≡ name ++ (colon ∷ (leading ++ (value ++ trailing)))

-- "ETag, Content-Type, Content-Range, Content-Length count, names in any case"; "Any Transfer-Encoding is refused"
abbrev pub Named : Name → List ℕ → Type 0
Named etag n = AnyCase n (codes "ETag")
Named type n = AnyCase n (codes "Content-Type")
Named range n = AnyCase n (codes "Content-Range")
Named size n = AnyCase n (codes "Content-Length")
Named transfer n = AnyCase n (codes "Transfer-Encoding")
Named other n =
    (AnyCase n (codes "ETag") → ⊥)
    × (AnyCase n (codes "Content-Type") → ⊥)
    × (AnyCase n (codes "Content-Range") → ⊥)
    × (AnyCase n (codes "Content-Length") → ⊥)
    × (AnyCase n (codes "Transfer-Encoding") → ⊥)

-- of any line: it is taken for a field exactly when the grammar derives it, and its name and value are the grammar's, which are unique
pub record DecidesFieldLine (l : List ℕ) : Type 0 where
  pub decides : (is_field l ≡ true) ↔ ((name : List ℕ) × (value : List ℕ) × FieldLineText l name value)
  pub name : (n v : List ℕ) → FieldLineText l n v → n ≡ name_of l
  pub value : (n v : List ℕ) → FieldLineText l n v → v ≡ value_of l
  pub unique : (n v m w : List ℕ) → FieldLineText l n v → FieldLineText l m w → (n ≡ m) × (v ≡ w)

abbrev pub FieldLinesDecided : Type 0
FieldLinesDecided = (l : List ℕ) → DecidesFieldLine l

-- of any name: which of those that count it is
abbrev pub NamesDecided : Type 0
NamesDecided = (n : List ℕ) (k : Name) → (kind_of n ≡ k) ↔ Named k n

-- of any line: it gives a tag, where an answer is under a tag, exactly when it is an ETag field whose value is the tag
abbrev pub TagLinesDecided : Type 0
TagLinesDecided = (tag l : List ℕ) → (gives_tag tag l ≡ true) ↔ ((name : List ℕ) × Named etag name × FieldLineText l name tag)

-- both sides of an edge
pub record FieldLineExamples : Type 0 where
  pub blanks : FieldLineText (codes "a: \tb c\t ") (codes "a") (codes "b c")
  pub no_value : FieldLineText (codes "a:") (codes "a") []
  pub second_colon : FieldLineText (codes "a:b:c") (codes "a") (codes "b:c")
  pub no_colon : (n v : List ℕ) → FieldLineText (codes "a") n v → ⊥
  pub no_name : (n v : List ℕ) → FieldLineText (codes ":b") n v → ⊥
  pub blank_in_name : (n v : List ℕ) → FieldLineText (codes "a :b") n v → ⊥
  pub bracket_in_name : (n v : List ℕ) → FieldLineText (codes "a]:b") n v → ⊥
  pub any_case : Named etag (codes "eTAG")
  pub too_long : Named etag (codes "ETags") → ⊥
