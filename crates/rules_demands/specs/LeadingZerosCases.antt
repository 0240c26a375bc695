-- Zeros before the numbers of a Range at literal values: both sides of the relation on texts, forty zeros before each of two numbers, and the longest value.
use Rattle.std.specs.Prelude.{ℕ, ◌≤◌, ◌≡◌, List, [], ◌∷◌, ◌++◌, length}
use Rattle.std.specs.Prelude.{None, Some, Err}
use Rattle.rules_server.specs.Limits.{max_range}
use Rattle.rules_server.specs.Octets.{codes, trim}
use Rattle.rules_server.specs.Ranges.{span}
use Rattle.rules_server.specs.Status.{Request, Resource, decide}
use Rattle.rules_server.specs.Answers.{answer, bytes_of}
use Rattle.rules_server.specs.Refusals.{refusal, outcome, written_as, output}
use Rattle.rules_server.specs.declared.Reason.TheVariants.{Long, Partial}
use Rattle.rules_demands.specs.GrammarRange.{RangeText}
use Rattle.rules_demands.specs.LeadingZeros.{zeros, MoreZeros, with_range, ZerosChangeNothing}
use Rattle.rules_demands.specs.AnchorSamples.{dots}
use Rattle.rules_demands.specs.Demand2Cases.{asking, tagged_file}

-- `bytes=1-3` with so many zeros before its numbers
abbrev pub one_three : ℕ → ℕ → List ℕ
one_three k j = codes "bytes=" ++ (zeros k ++ (codes "1-" ++ (zeros j ++ codes "3")))

-- which texts have more zeros, and which do not
pub record MoreZerosAre : Type 0 where
  pub none : MoreZeros (codes "bytes=1-3") (codes "bytes=1-3")
  pub first : MoreZeros (codes "bytes=1-3") (codes "bytes=01-3")
  pub last : MoreZeros (codes "bytes=1-3") (codes "bytes=1-0003")
  pub any : (k j : ℕ) → MoreZeros (codes "bytes=1-3") (one_three k j)
  pub more : MoreZeros (codes "bytes=01-") (codes "bytes=0001-")
  -- a number of zeros stays one
  pub all_zero : MoreZeros (codes "bytes=-0") (codes "bytes=-00")
  pub digits : MoreZeros (codes "bytes=18446744073709551616-") (codes "bytes=00018446744073709551616-")
  -- a number before a comma, before a blank, at the end, and at the start
  pub list : MoreZeros (codes " BYTES=12- ,\t-5") (codes " BYTES=012- ,\t-0005")
  pub commas : MoreZeros (codes "bytes=1-3,5-9 ") (codes "bytes=01-003,0005-00009 ")
  pub blanks : MoreZeros (codes "bytes=1-3\t, -5,7- ") (codes "bytes=1-03\t, -05,07- ")
  pub start : MoreZeros (codes "1-3") (codes "001-3")
  -- within a number, behind it, or another digit before it
  pub within : MoreZeros (codes "bytes=12-") (codes "bytes=102-") → ⊥
  pub behind : MoreZeros (codes "bytes=1-") (codes "bytes=10-") → ⊥
  pub other_digit : MoreZeros (codes "bytes=2-") (codes "bytes=12-") → ⊥
  -- where no number stands
  pub before_suffix : MoreZeros (codes "bytes=-5") (codes "bytes=0-5") → ⊥
  pub at_open_end : MoreZeros (codes "bytes=5-") (codes "bytes=5-0") → ⊥
  -- fewer zeros, none of a number left, another text
  pub fewer : MoreZeros (codes "bytes=01-") (codes "bytes=1-") → ⊥
  pub nothing : MoreZeros (codes "bytes=-0") (codes "bytes=-") → ⊥
  pub other_text : MoreZeros (codes "bytes=1-") (codes "bytes=01-,") → ⊥

-- `bytes=1-3` with forty zeros before both numbers
abbrev pub forty_zeros : List ℕ
forty_zeros = codes "bytes=00000000000000000000000000000000000000001-00000000000000000000000000000000000000003"

-- a file of ten bytes under the tag that is asked for
abbrev pub ten_bytes : Resource
ten_bytes = tagged_file (codes "0123456789")

-- the answer with the bytes 1 to 3 of it, 94 bytes
abbrev pub one_to_three : List ℕ
one_to_three = codes "HTTP/1.1 206 Partial Content\r\nETag: \"t\"\r\nContent-Range: bytes 1-3/10\r\nContent-Length: 3\r\n\r\n123"

-- the premises and the conclusion of the theorem, and what is answered
pub record FortyZeros : Type 0 where
  pub derived : RangeText (trim (codes "bytes=1-3")) (span 1 3 ∷ [])
  pub more : MoreZeros (codes "bytes=1-3") forty_zeros
  pub fits : length (trim forty_zeros) ≤ max_range
  pub same : ZerosChangeNothing (codes "bytes=1-3") forty_zeros (span 1 3 ∷ [])
  pub text : bytes_of (answer (asking forty_zeros) ten_bytes) ≡ one_to_three
  pub fitting : refusal (asking forty_zeros) ten_bytes 94 ≡ None
  pub lacking : refusal (asking forty_zeros) ten_bytes 93 ≡ Some 7
  pub written : outcome (asking forty_zeros) ten_bytes 94 ≡ written_as Partial 206 94
  pub refused : outcome (asking forty_zeros) ten_bytes 93 ≡ Err 7
  pub buffer : output (asking forty_zeros) ten_bytes (dots 96) ≡ one_to_three ++ codes ".."

-- any count of zeros before the two numbers, for every request and resource
pub record AnyZeros : Type 0 where
  pub bytes : (k j : ℕ) → length (trim (one_three k j)) ≤ max_range → (q : Request) (f : Resource)
      → bytes_of (answer (with_range q (one_three k j)) f) ≡ bytes_of (answer (with_range q (codes "bytes=1-3")) f)
  pub refused : (k j : ℕ) → length (trim (one_three k j)) ≤ max_range → (q : Request) (f : Resource) (room : ℕ)
      → refusal (with_range q (one_three k j)) f room ≡ refusal (with_range q (codes "bytes=1-3")) f room
  pub says : (k j : ℕ) → length (trim (one_three k j)) ≤ max_range → (q : Request) (f : Resource) (room : ℕ)
      → outcome (with_range q (one_three k j)) f room ≡ outcome (with_range q (codes "bytes=1-3")) f room
  pub writes : (k j : ℕ) → length (trim (one_three k j)) ≤ max_range → (q : Request) (f : Resource) (out : List ℕ)
      → output (with_range q (one_three k j)) f out ≡ output (with_range q (codes "bytes=1-3")) f out

-- "while it fits 4,096 bytes": zeros up to that length change nothing, one more does
pub record LongestPadded : Type 0 where
  pub fits : length (trim (one_three 4000 87)) ≡ max_range
  pub same : ZerosChangeNothing (codes "bytes=1-3") (one_three 4000 87) (span 1 3 ∷ [])
  pub partial : decide (asking (one_three 4000 87)) ten_bytes ≡ Partial
  pub too_long : decide (asking (one_three 4000 88)) ten_bytes ≡ Long
