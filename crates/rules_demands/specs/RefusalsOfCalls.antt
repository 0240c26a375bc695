-- The same of calls that feed a fresh reader an answer in pieces: into a copy that meets its rule, with a buffer of its length.
use Rattle.std.specs.Prelude.{ℕ, ◌+◌, ◌≡◌, ◌↔◌, true, List, [], ◌∷◌, ◌++◌, length}
use Rattle.rules_tablet.specs.Limits.{max_runs}
use Rattle.rules_tablet.specs.Parsers.{Parser, report_of}
use Rattle.rules_tablet.specs.Feeding.{Held}
use Rattle.rules_tablet.specs.Calls.{State, copy_ok, fresh, Feeding, feedable, feed_call}
use Rattle.rules_tablet.specs.declared.Report.{Report}
use Rattle.rules_tablet.specs.declared.Report.TheVariants.{More, Finished, Refused}
use Rattle.rules_demands.specs.RefusalsExactly.{RefusedAt, GoesOn, EndedAt}

-- pieces end to end
abbrev pub joined : List (List ℕ) → List ℕ
joined [] = []
joined (l ∷ ls) = l ++ joined ls

-- one call, and those behind it
abbrev pub in_turn : Feeding → Feeding → Feeding
in_turn one rest = record { copy = rest.copy; reader = rest.reader; buffer = rest.buffer; taken = one.taken + rest.taken; report = rest.report }

-- a call for each piece, with copy, reader and buffer as the last one left them: what they leave, the last report, and how many bytes were taken in all
abbrev pub call_pieces : State → Parser → List ℕ → List (List ℕ) → Feeding
call_pieces c p buffer [] = record { copy = c; reader = p; buffer = buffer; taken = 0; report = report_of p.stage }
call_pieces c p buffer (l ∷ ls) = in_turn (feed_call c p buffer l)
    (call_pieces (feed_call c p buffer l).copy (feed_call c p buffer l).reader (feed_call c p buffer l).buffer ls)

-- "a piece is only a bundle of bytes": calls for pieces leave and say what one call for their bytes end to end does, from any reader and copy that meet their
-- rules
abbrev pub PiecesAlike : Type 0
PiecesAlike = (pieces : List (List ℕ)) (c : State) (p : Parser) (buffer : List ℕ) → feedable c p buffer ≡ true
    → call_pieces c p buffer pieces ≡ feed_call c p buffer (joined pieces)

-- what the copy and its buffer hold
abbrev pub held_by : State → List ℕ → Held
held_by c buffer = record { runs = c.runs; bytes = buffer }

-- what the calls say and leave
pub record CallsSay (c : State) (buffer : List ℕ) (pieces : List (List ℕ)) (report : Report) (i : ℕ) (last : Held) : Type 0 where
  pub report_is : (call_pieces c fresh buffer pieces).report ≡ report
  pub taken_is : (call_pieces c fresh buffer pieces).taken ≡ i
  pub runs_are : (call_pieces c fresh buffer pieces).copy.runs ≡ last.runs
  pub buffer_is : (call_pieces c fresh buffer pieces).buffer ≡ last.bytes

-- each report exactly when
pub record SaidExactly (c : State) (buffer : List ℕ) (pieces : List (List ℕ)) : Type 0 where
  pub refused : (i k : ℕ) (last : Held) → RefusedAt max_runs c.tag c.length (held_by c buffer) (joined pieces) i k last
      ↔ CallsSay c buffer pieces (Refused k) i last
  pub going : (last : Held) → GoesOn max_runs c.tag c.length (held_by c buffer) (joined pieces) last
      ↔ CallsSay c buffer pieces More (length (joined pieces)) last
  pub ended : (i : ℕ) (last : Held) → EndedAt max_runs c.tag c.length (held_by c buffer) (joined pieces) i last ↔ CallsSay c buffer pieces Finished i last

-- for any pieces and any such copy and buffer
abbrev pub CallsExactly : Type 0
CallsExactly = (c : State) (buffer : List ℕ) (pieces : List (List ℕ)) → copy_ok c ≡ true → length buffer ≡ c.length → SaidExactly c buffer pieces
