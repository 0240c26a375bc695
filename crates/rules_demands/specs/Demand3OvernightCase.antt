-- A concrete case of demand 3 after loading, so that its premises are seen to be possible: a copy of the ten digits is saved behind an answer that was broken
-- off, loaded beside data whose other bytes have changed, and completed by one answer.
use Rattle.std.specs.Prelude.{ℕ, ◌≡◌, List, [], ◌∷◌, ◌++◌, length, take, drop}
use Rattle.std.specs.Prelude.{None}
use Rattle.rules_server.specs.Octets.{codes}
use Rattle.rules_server.specs.Texts.{status206}
use Rattle.rules_tablet.specs.Runs.{run}
use Rattle.rules_tablet.specs.Calls.{fresh, request_call}
use Rattle.rules_tablet.specs.SavedCopies.{saved_under, save_call, loads, saved_read}
use Rattle.rules_tablet.specs.declared.Report.TheVariants.{More, Finished}
use Rattle.rules_demands.specs.Demand3Sessions.{Event, piece, Calls, delivered, ours, fed, asked, Session, begun, run_asks, run_calls}
use Rattle.rules_demands.specs.Demand3.{Start, held_at, Complete}
use Rattle.rules_demands.specs.Demand3Cases.{tag, fresh_for, wants, reply, AnswerTo, said_of, lines_of, digits, broken}
use Rattle.rules_demands.specs.Demand3Overnight.{Night, Resumed, Overnight, Reloaded}
use Rattle.rules_demands.specs.SavedRefusals.{one}
use Rattle.rules_demands.specs.RequestReading.{request_in}
use Rattle.rules_demands.specs.AnchorSamples.{dots}

-- the first session: our multipart, broken off in the second part's lines
abbrev pub evening_calls : Calls
evening_calls = record { asks = []; answers = broken ∷ [] }

abbrev pub evening : Session
evening = run_calls evening_calls (fresh_for digits)

-- the bytes of its copy: the mark, the version, the tag behind its count, the length, the count of runs, and a run
abbrev pub saved_digits : List ℕ
saved_digits =
    72 ∷ 76 ∷ 68 ∷ 0 ∷ 2 ∷ 4 ∷ 34 ∷ 107 ∷ 49 ∷ 34
    ∷ 0 ∷ 0 ∷ 0 ∷ 0 ∷ 0 ∷ 0 ∷ 0 ∷ 10
    ∷ 0 ∷ 1
    ∷ 0 ∷ 0 ∷ 0 ∷ 0 ∷ 0 ∷ 0 ∷ 0 ∷ 0 ∷ 0 ∷ 0 ∷ 0 ∷ 0 ∷ 0 ∷ 0 ∷ 0 ∷ 2
    ∷ []

-- under version 1
abbrev pub saved_earlier : List ℕ
saved_earlier = take 4 saved_digits ++ (1 ∷ drop 5 saved_digits)

-- the second session begins: other bytes at the positions that are not held
abbrev pub morning : Session
morning = record { copy = record { tag = tag; length = 10; runs = run 0 2 ∷ [] }; buffer = codes "012xxxxxxx"; reader = fresh; said = [] }

-- the request that its copy writes, and our whole answer to it, split in its data
abbrev pub request : List ℕ
request = request_call morning.copy (dots 50)

abbrev pub resumption : List Event
resumption = piece (take 120 (reply digits (request_in request))) ∷ piece (drop 120 (reply digits (request_in request))) ∷ []

abbrev pub morning_calls : Calls
morning_calls = record { asks = dots 50 ∷ []; answers = resumption ∷ [] }

pub record OvernightCase : Type 0 where
  pub starts : Start digits tag (fresh_for digits)
  pub first : AnswerTo digits (wants "bytes=0-2,6-7") status206 (delivered broken)
  -- what the copy then holds
  pub held : evening.copy.runs ≡ run 0 2 ∷ []
  pub buffer : evening.buffer ≡ codes "012......."
  -- it is saved into a buffer of 40 bytes, whose last 4 stay, and loaded
  pub saved : save_call evening.copy (dots 40) ≡ saved_digits ++ dots 4
  pub loaded : saved_read saved_digits ≡ loads morning.copy
  pub night : Night evening morning
  pub into : night.out ≡ dots 40
  pub writes : take (length (lines_of "bytes=3-9")) request ≡ lines_of "bytes=3-9"
  pub second : AnswerTo digits (request_in request) status206 (delivered resumption)
  -- demand 3 of both sessions
  pub demand : Overnight digits tag (fresh_for digits) evening_calls (ours first.source, tt) morning morning_calls (ours second.source, tt)
  -- what the second said
  pub asks : (run_asks morning_calls.asks (begun morning)).said ≡ asked None ∷ []
  pub said : said_of morning_calls.answers (run_asks morning_calls.asks morning) ≡ (fed 5 Finished ∷ fed 120 More ∷ []) ∷ []
  -- and what the copy holds at its end
  pub runs : (run_calls morning_calls morning).copy.runs ≡ run 0 9 ∷ []
  pub whole : (run_calls morning_calls morning).buffer ≡ digits
  pub complete : Complete (run_calls morning_calls morning)
  -- a file of version 1 is loaded as the same copy, and the second session goes on from it as well
  pub earlier : saved_under 1 evening.copy ≡ saved_earlier
  pub reloaded : Reloaded evening morning
  pub under : reloaded.version ≡ one
  pub resumed : Resumed digits tag morning (held_at evening) morning_calls (ours second.source, tt)
