-- Zeros before the numbers of a Range (request 2026-03): "zeros put before any number of a well-formed Range, while it fits 4,096 bytes, change neither the
-- answer nor a refusal".
use Rattle.std.specs.Prelude.{ℕ, ◌≤◌, ◌≡◌, true, false, not, List, [], ◌∷◌, ◌++◌, length, get_or, replicate}
use Rattle.std.specs.Prelude.{Some}
use Rattle.rules_server.specs.Limits.{max_range}
use Rattle.rules_server.specs.Octets.{is_digit, all, trim, digit_zero}
use Rattle.rules_server.specs.Ranges.{ByteSpec}
use Rattle.rules_server.specs.Status.{Request, Resource}
use Rattle.rules_server.specs.Answers.{answer, bytes_of}
use Rattle.rules_server.specs.Refusals.{refusal, outcome, output}
use Rattle.rules_demands.specs.GrammarRange.{Digits, RangeText}

-- k zeros
abbrev pub zeros : ℕ → List ℕ
zeros k = replicate k digit_zero

-- bytes without a digit
abbrev pub NoDigits : List ℕ → Type 0
NoDigits t = all (λ b. not (is_digit b)) t ≡ true

-- the last byte of a text, 0 of none
abbrev pub last : List ℕ → ℕ
last [] = 0
last (x ∷ []) = x
last (x ∷ y ∷ l) = last (y ∷ l)

-- the second text is the first with zeros put before some of its numbers, any count before each; a number is digits with no digit before or behind them
pub data MoreZeros : List ℕ → List ℕ → Type 0 where
  same : {v w : List ℕ} → NoDigits v → w ≡ v → MoreZeros v w
  number : {v w : List ℕ} (t n rest padded : List ℕ) (k : ℕ) → NoDigits t → Digits n → is_digit (get_or rest 0 0) ≡ false → MoreZeros rest padded
      → v ≡ t ++ (n ++ rest) → w ≡ t ++ (zeros k ++ (n ++ padded)) → MoreZeros v w

-- which texts are related, at least: a text and itself, a text and the same with zeros before a digit that no digit stands before, and what is so in two steps
pub record MoreZerosLaws : Type 0 where
  pub none : (v : List ℕ) → MoreZeros v v
  pub one : (before behind : List ℕ) (k : ℕ) → is_digit (last before) ≡ false → is_digit (get_or behind 0 0) ≡ true
      → MoreZeros (before ++ behind) (before ++ (zeros k ++ behind))
  pub twice : (u v w : List ℕ) → MoreZeros u v → MoreZeros v w → MoreZeros u w

-- the request with this Range
abbrev pub with_range : Request → List ℕ → Request
with_range q v = record { method = q.method; range = Some v; if_range = q.if_range }

-- the server's answer to two requests is the same, for every output buffer
pub record AnsweredAlike (q p : Request) (f : Resource) : Type 0 where
  pub bytes : bytes_of (answer p f) ≡ bytes_of (answer q f)
  pub refused : (room : ℕ) → refusal p f room ≡ refusal q f room
  pub says : (room : ℕ) → outcome p f room ≡ outcome q f room
  pub writes : (out : List ℕ) → output p f out ≡ output q f out

-- of a value v that the grammar derives as specs ss: with more zeros it is derived as the same specs, and every request that is otherwise equal is answered
-- alike
pub record ZerosChangeNothing (v w : List ℕ) (ss : List ByteSpec) : Type 0 where
  pub derived : RangeText (trim w) ss
  pub alike : (q : Request) (f : Resource) → AnsweredAlike (with_range q v) (with_range q w) f

-- "while it fits 4,096 bytes": the second value does, and the first is no longer
abbrev pub ZerosNeverCount : Type 0
ZerosNeverCount = (v w : List ℕ) (ss : List ByteSpec) → RangeText (trim v) ss → MoreZeros v w → length (trim w) ≤ max_range → ZerosChangeNothing v w ss
