-- The grammar of a status line, as document 01 writes it ("Head") from RFC 7230 section 3.1.2: "`HTTP/1.1`, space, three digits, then end or a space and text".
-- It is a type of derivations over the bytes of the line before its CR LF; `text` says how they are put together.
use Rattle.std.specs.Prelude.{ℕ, ◌≡◌, ◌↔◌, true, List, [], ◌∷◌, ◌++◌, length}
use Rattle.rules_server.specs.Octets.{codes, space}
use Rattle.rules_server.specs.Numerals.{decimal}
use Rattle.rules_tablet.specs.Fields.{is_status_line, status_number}
use Rattle.rules_demands.specs.GrammarRange.{Digits}

-- "then end or a space and text"
pub data ReasonText : List ℕ → Type 0 where
  none : {t : List ℕ} → t ≡ [] → ReasonText t
  space_then : {t : List ℕ} (reason : List ℕ) → t ≡ space ∷ reason → ReasonText t

-- the line l says the status k
pub record StatusLineText (l : List ℕ) (k : ℕ) : Type 0 where
  pub code : List ℕ
  pub rest : List ℕ
  pub digits : Digits code
  pub three : length code ≡ 3
  pub behind : ReasonText rest
  pub value : k ≡ decimal code
  pub text : l ≡ codes "HTTP/1.1 " ++ (code ++ rest)

-- of any line: it is taken for a status line exactly when the grammar derives it, and its status is the grammar's, which is unique
pub record DecidesStatusLine (l : List ℕ) : Type 0 where
  pub decides : (is_status_line l ≡ true) ↔ ((k : ℕ) × StatusLineText l k)
  pub number : (k : ℕ) → StatusLineText l k → k ≡ status_number l
  pub unique : (j k : ℕ) → StatusLineText l j → StatusLineText l k → j ≡ k

abbrev pub StatusLinesDecided : Type 0
StatusLinesDecided = (l : List ℕ) → DecidesStatusLine l

-- both sides of an edge
pub record StatusLineExamples : Type 0 where
  pub bare : StatusLineText (codes "HTTP/1.1 206") 206
  pub empty_reason : StatusLineText (codes "HTTP/1.1 206 ") 206
  pub two_digits : (k : ℕ) → StatusLineText (codes "HTTP/1.1 20") k → ⊥
  pub four_digits : (k : ℕ) → StatusLineText (codes "HTTP/1.1 2060") k → ⊥
  pub small_letters : (k : ℕ) → StatusLineText (codes "http/1.1 206") k → ⊥
