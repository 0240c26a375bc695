-- Demand 2, the tablet's half, in one statement: "The tablet accepts just the answers that 01's rules allow, stores their bytes at the stated positions, and
-- writes Range fields that the server reads back as the same ranges."
use Rattle.std.specs.Prelude.{ℕ, ◌≡◌, true, List, map, length}
use Rattle.std.specs.Prelude.{None}
use Rattle.rules_server.specs.Octets.{trim}
use Rattle.rules_server.specs.Status.{Resource, matches}
use Rattle.rules_server.specs.Ranges.{listed, read_range}
use Rattle.rules_server.specs.Answers.{Cell}
use Rattle.rules_tablet.specs.Limits.{max_runs}
use Rattle.rules_tablet.specs.Requests.{wanted}
use Rattle.rules_tablet.specs.Feeding.{Held}
use Rattle.rules_tablet.specs.Calls.{State, copy_ok, request_refusal, request_call}
use Rattle.rules_tablet.specs.declared.Report.TheVariants.{Finished}
use Rattle.rules_demands.specs.GrammarStatusLine.{StatusLinesDecided}
use Rattle.rules_demands.specs.GrammarFieldLine.{FieldLinesDecided, NamesDecided, TagLinesDecided}
use Rattle.rules_demands.specs.GrammarContentLength.{SizesDecided}
use Rattle.rules_demands.specs.GrammarContentRange.{ContentRangesDecided}
use Rattle.rules_demands.specs.GrammarMultipartType.{MultipartTypesDecided}
use Rattle.rules_demands.specs.AcceptanceGrammar.{Acceptable}
use Rattle.rules_demands.specs.AcceptanceByCopy.{Agrees, Stands, AcceptableTaken, OnlyAcceptableTaken, BytesStand}
use Rattle.rules_demands.specs.RefusalsExactly.{EndedAt, RefusesExactly, OneOutcomeAlways, NumbersAlways}
use Rattle.rules_demands.specs.RefusalsOfCalls.{joined, held_by, CallsSay, PiecesAlike, CallsExactly}
use Rattle.rules_demands.specs.RequestReading.{range_in, if_range_in, span_spec, ReadBackHolds}
use Rattle.rules_demands.specs.RequestServing.{RequestServed}

-- an answer that calls have finished behind i bytes: an acceptable one, and each of its bytes stands at its position
pub record AcceptedStands (c : State) (buffer : List ℕ) (pieces : List (List ℕ)) (i : ℕ) (last : Held) : Type 0 where
  pub ended : EndedAt max_runs c.tag c.length (held_by c buffer) (joined pieces) i last
  pub stands : Stands last ended.whole.cells

-- calls that feed a fresh reader an answer in pieces, into a copy and its buffer: each acceptable answer whose data agrees is taken whole, and no other
pub record Accepting (c : State) (buffer : List ℕ) (pieces : List (List ℕ)) : Type 0 where
  pub takes : (cells : List Cell) (last : Held) → Acceptable c.tag c.length (joined pieces) cells → Agrees max_runs (held_by c buffer) cells last
      → CallsSay c buffer pieces Finished (length (joined pieces)) last
  pub only : (i : ℕ) (last : Held) → CallsSay c buffer pieces Finished i last → AcceptedStands c buffer pieces i last

-- of any pieces, for a copy that meets its rule and a buffer of its length
abbrev pub AcceptsJust : Type 0
AcceptsJust = (c : State) (buffer : List ℕ) (pieces : List (List ℕ)) → copy_ok c ≡ true → length buffer ≡ c.length → Accepting c buffer pieces

-- the lines that a copy writes: the server reads the holes asked for, and the If-Range matches every file under the copy's tag
pub record WrittenReadBack (c : State) (out : List ℕ) : Type 0 where
  pub ranges : read_range (trim (range_in (request_call c out))) ≡ listed (map span_spec (wanted c.length c.runs))
  pub if_range_matches : (f : Resource) → f.tag ≡ c.tag → matches (trim (if_range_in (request_call c out))) f ≡ true

-- of any request that is not refused
abbrev pub RequestsReadBack : Type 0
RequestsReadBack = (c : State) (out : List ℕ) → request_refusal c (length out) ≡ None → WrittenReadBack c out

pub record Demand2Tablet : Type 0 where
  -- "accepts just the answers that 01's rules allow": by calls, in any pieces; and by feeding, for any limit of runs
  pub accepts : AcceptsJust
  pub takes : AcceptableTaken
  pub only : OnlyAcceptableTaken
  -- what is read out of a line is what its grammar derives: of each line, name and value of a field, whatever its bytes
  pub status_lines : StatusLinesDecided
  pub field_lines : FieldLinesDecided
  pub names : NamesDecided
  pub tag_lines : TagLinesDecided
  pub sizes : SizesDecided
  pub content_ranges : ContentRangesDecided
  pub multipart_types : MultipartTypesDecided
  -- every other answer is refused at one byte by one number, or goes on: exactly when, by feeding and by calls, however it is cut into pieces
  pub refuses : RefusesExactly
  pub one_outcome : OneOutcomeAlways
  pub numbers : NumbersAlways
  pub calls : CallsExactly
  pub pieces : PiecesAlike
  -- "stores their bytes at the stated positions"
  pub stores : BytesStand
  -- "writes Range fields that the server reads back as the same ranges": those that a copy writes, those of any ranges, and what the server answers to them
  pub asks : RequestsReadBack
  pub reads_back : ReadBackHolds
  pub served : RequestServed
