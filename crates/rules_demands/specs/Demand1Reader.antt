-- Demand 1, the tablet's half: for any bytes, any copy, any reader, foreign answers under the copy's own tag included.
use Rattle.std.specs.Prelude.{ℕ, ◌+◌, ◌≤◌, ◌<◌, ◌≡◌, ◌↔◌, true, false, List, ◌++◌, length, get_or, take, drop}
use Rattle.std.specs.Prelude.{None, Some}
use Rattle.rules_tablet.specs.Runs.{member}
use Rattle.rules_tablet.specs.Copies.{is_complete}
use Rattle.rules_tablet.specs.Parsers.{Parser, at, report_of}
use Rattle.rules_tablet.specs.Feeding.{Tablet, feed, is_over}
use Rattle.rules_tablet.specs.Calls.{State, copy_ok, feedable, feed_call, request_refusal, request_lines, request_call}
use Rattle.rules_tablet.specs.declared.Report.TheVariants.{Refused}

-- feeding two pieces end to end is feeding their concatenation
abbrev pub Splits : Type 0
Splits = (lim : ℕ) (tag : List ℕ) (n : ℕ) (a b : List ℕ) (t : Tablet) →
    ((feed lim tag n (a ++ b) t).tablet ≡ (feed lim tag n b (feed lim tag n a t).tablet).tablet)
    × ((feed lim tag n (a ++ b) t).taken ≡ (feed lim tag n a t).taken + (feed lim tag n b (feed lim tag n a t).tablet).taken)

-- what a call of feed does to a copy, its buffer and its reader
pub record Fair (c : State) (p : Parser) (buffer l : List ℕ) : Type 0 where
  -- 19 exactly when a rule is broken or the buffer is not of the copy's length; then nothing is taken or changed
  pub refused : ((feed_call c p buffer l).report ≡ Refused 19) ↔ (feedable c p buffer ≡ false)
  pub untouched : feedable c p buffer ≡ false → feed_call c p buffer l ≡ record { copy = c; reader = p; buffer = buffer; taken = 0; report = Refused 19 }
  -- no more is taken than there is, and copy and buffer are as after the taken bytes
  pub taken : (feed_call c p buffer l).taken ≤ length l
  pub front : (feed_call c p buffer l).copy ≡ (feed_call c p buffer (take (feed_call c p buffer l).taken l)).copy
  pub front_bytes : (feed_call c p buffer l).buffer ≡ (feed_call c p buffer (take (feed_call c p buffer l).taken l)).buffer
  -- so is the reader, but for where it stands: a byte that is refused changes nothing else of it
  pub front_reader :
      (feed_call c p buffer l).reader ≡ at (feed_call c p buffer l).reader.stage (feed_call c p buffer (take (feed_call c p buffer l).taken l)).reader
  -- tag and length stay, and the buffer's length
  pub tag : (feed_call c p buffer l).copy.tag ≡ c.tag
  pub size : (feed_call c p buffer l).copy.length ≡ c.length
  pub room : length (feed_call c p buffer l).buffer ≡ length buffer
  -- held positions only grow, held bytes never change, only what becomes held is written
  pub grows : (q : ℕ) → member q c.runs ≡ true → member q (feed_call c p buffer l).copy.runs ≡ true
  pub keeps : (q : ℕ) → member q c.runs ≡ true → get_or (feed_call c p buffer l).buffer q 0 ≡ get_or buffer q 0
  pub writes : (q : ℕ) → member q (feed_call c p buffer l).copy.runs ≡ false → get_or (feed_call c p buffer l).buffer q 0 ≡ get_or buffer q 0
  -- what is returned meets the rules again
  pub rules : feedable c p buffer ≡ true → feedable (feed_call c p buffer l).copy (feed_call c p buffer l).reader (feed_call c p buffer l).buffer ≡ true

abbrev pub FairAlways : Type 0
FairAlways = (c : State) (p : Parser) (buffer l : List ℕ) → Fair c p buffer l

-- "a finished or refused reader takes none and repeats its report"
abbrev pub RepeatsAlways : Type 0
RepeatsAlways = (c : State) (p : Parser) (buffer l : List ℕ) → feedable c p buffer ≡ true → is_over p.stage ≡ true
    → feed_call c p buffer l ≡ record { copy = c; reader = p; buffer = buffer; taken = 0; report = report_of p.stage }

-- a request into a buffer that holds `out`: 19, 18 and 20 exactly when, in this order; a refusal writes nothing, and what lies beyond a request stays
pub record Asking (c : State) (out : List ℕ) : Type 0 where
  pub broken : (request_refusal c (length out) ≡ Some 19) ↔ (copy_ok c ≡ false)
  pub complete : (request_refusal c (length out) ≡ Some 18) ↔ ((copy_ok c ≡ true) × (is_complete c.length c.runs ≡ true))
  pub long : (request_refusal c (length out) ≡ Some 20)
      ↔ ((copy_ok c ≡ true) × (is_complete c.length c.runs ≡ false) × (length out < length (request_lines c)))
  pub kept : (k : ℕ) → request_refusal c (length out) ≡ Some k → request_call c out ≡ out
  pub written : request_refusal c (length out) ≡ None → request_call c out ≡ request_lines c ++ drop (length (request_lines c)) out

abbrev pub AskingAlways : Type 0
AskingAlways = (c : State) (out : List ℕ) → Asking c out
