-- Saved copies down to the records (document 02, 2026-02 and 2026-04): what copy_bytes::saving::save and copy_bytes::loading::load say together of a copy's
-- record, and demand 3 of two lists of calls with a night between them, in which the copy was saved and loaded.
use Rattle.std.specs.Prelude.{ℕ, ◌≤◌, ◌≡◌, true, false, None, Some, Result, Ok, Err, List, [], ◌∷◌, ◌++◌, length, get_or, take, drop}
use Rattle.rules_server.specs.Numbers.{AreBytes}
use Rattle.rules_server.specs.Octets.{codes}
use Rattle.rules_tablet.specs.Runs.{member, run}
use Rattle.rules_tablet.specs.Copies.{runs_of, copy_rule}
use Rattle.rules_tablet.specs.Readers.{fresh_reader}
use Rattle.rules_tablet.specs.SavedCopies.{max_saved, saved_bytes}
use Rattle.rules_tablet.specs.declared.Copy.{Copy}
use Rattle.rules_tablet.specs.declared.Reader.{Reader}
use Rattle.rules_demands.specs.SavedRefusals.{RefusedAt, renewed}
use Rattle.rules_demands.specs.Demand3Sessions.{Sources}
use Rattle.rules_demands.specs.Demand3.{held_at}
use Rattle.rules_demands.specs.Demand3Overnight.{held_overnight}
use Rattle.rules_demands.specs.Demand3OvernightCase.{evening_calls, saved_digits, morning_calls}
use Rattle.rules_demands.specs.Demand3Cases.{tag, digits}
use Rattle.rules_demands.specs.AnchorSamples.{dots}
use Rattle.copy.specs.States.{state_of}
use Rattle.copy_bytes.specs.SavedFiles.{save_outcome, save_bytes, LoadedCopy, load_call}
use Rattle.rules_records.specs.Demand3Records.{Records, saves, on_copy, RecordCalls, after_all, CopyCallMeets, Meet, answers_of, calls_of}
use Rattle.rules_records.specs.Demand3Records.{session_of, RecordsStart, KeptFrom, RecordsKept, CopySized}
use Rattle.rules_records.specs.Demand3RecordCases.{CallsOnDigits, copy_with, opened_digits, start_digits, touching}

-- Saving and loading.

-- a record that meets its rule is saved into every buffer of max_saved bytes or more
abbrev pub SavedRecords : Type 0
SavedRecords = (c : Copy) (out : List ℕ) → copy_rule c ≡ true → max_saved ≤ length out → save_outcome c (length out) ≡ Ok (length (saved_bytes (state_of c)))

-- a record that was saved, which one that breaks its rule never is, is loaded as it was from the bytes that were written, in place of any copy
abbrev pub SavedRecordsBack : Type 0
SavedRecordsBack = (c d : Copy) (out : List ℕ) (k : ℕ) → CopySized c → save_outcome c (length out) ≡ Ok k
    → load_call d (take k (save_bytes c out)) ≡ record { copy = c; refusal = None }

-- a record that meets its rule, and is saved as just this file into every buffer that is long enough; the bytes beyond stay
pub record SavedAs (file : List ℕ) (c : Copy) : Type 0 where
  pub rule : copy_rule c ≡ true
  pub sized : CopySized c
  pub says : (out : List ℕ) → length file ≤ length out → save_outcome c (length out) ≡ Ok (length file)
  pub writes : (out : List ℕ) → length file ≤ length out → save_bytes c out ≡ file ++ drop (length file) out

-- a copy that is loaded from a file of bytes, in place of any copy, is such a record, of the file under the version that is written; that is the file itself
-- where its version is 2
pub record SavedAgain (file : List ℕ) (c : Copy) : Type 0 where
  pub anew : SavedAs (renewed file) c
  pub once : get_or file 4 0 ≡ 2 → SavedAs file c

abbrev pub SavedBytesOnce : Type 0
SavedBytesOnce = (file : List ℕ) (d c : Copy) → AreBytes file → load_call d file ≡ record { copy = c; refusal = None } → SavedAgain file c

-- a refusal of loading by k: the copy is the one that was given, and k is the number of the table of refusals, from 22 to 30
pub record Unchanged (file : List ℕ) (d : Copy) (k : ℕ) : Type 0 where
  pub copy : (load_call d file).copy ≡ d
  pub refused : RefusedAt file k
  pub least : 22 ≤ k
  pub most : k ≤ 30

abbrev pub RefusedUnchanged : Type 0
RefusedUnchanged = (file : List ℕ) (d : Copy) (k : ℕ) → AreBytes file → (load_call d file).refusal ≡ Some k → Unchanged file d k

-- Demand 3 after loading.

-- the night between the records e behind a list of calls and the records m before another: the copy was saved, the bytes that were written were loaded in place
-- of a copy, and the data came back
pub record RecordsNight (e m : Records) : Type 0 where
  -- save: the buffer, what was returned, that buffer then
  pub out : List ℕ
  pub said : Result ℕ ℕ
  pub written : List ℕ
  pub meets : CopyCallMeets e.copy (saves out said written)
  -- so many bytes were written
  pub size : ℕ
  pub saved : said ≡ Ok size
  -- load: the copy that was given, what is then held in its place, and the refusal
  pub given : Copy
  pub result : LoadedCopy
  pub loads : result ≡ load_call given (take size written)
  -- the copy and the data: as many bytes, and, the premise, "the data file's bytes at the held positions are as they were when saved"
  pub copy : m.copy ≡ result.copy
  pub buffer_length : length m.buffer ≡ length e.buffer
  pub as_saved : (p : ℕ) → member p (runs_of e.copy) ≡ true → get_or m.buffer p 0 ≡ get_or e.buffer p 0

-- the calls w, a night, the calls v
pub record RecordsOvernight (file tag : List ℕ) (h : Records) (w : RecordCalls) (ss : Sources file tag (answers_of w.answers)) (m : Records)
    (night : RecordsNight (after_all w h) m) (v : RecordCalls) (ts : Sources file tag (answers_of v.answers)) : Type 0 where
  pub evening : RecordsKept file tag h w ss
  -- load refused nothing; its copy means the state that was saved, and is the record that was saved if the arrays of that have their lengths
  pub loaded : night.result.refusal ≡ None
  pub state : state_of m.copy ≡ state_of (after_all w h).copy
  pub same : CopySized (after_all w h).copy → m.copy ≡ (after_all w h).copy
  -- the records are a start again, with the positions that were held when the copy was saved, and the second calls go on from them
  pub start : RecordsStart file tag m
  pub held : held_at (session_of m []) ≡ held_overnight file tag (session_of h []) (calls_of w) ss
  pub morning : KeptFrom file tag m (held_overnight file tag (session_of h []) (calls_of w) ss) v ts

-- demand 3 of records after loading
abbrev pub Demand3OvernightOfRecords : Type 0
Demand3OvernightOfRecords = (file tag : List ℕ) (h : Records) (w : RecordCalls) (ss : Sources file tag (answers_of w.answers)) (m : Records)
    (night : RecordsNight (after_all w h) m) (v : RecordCalls) (ts : Sources file tag (answers_of v.answers))
    → RecordsStart file tag h → Meet w h → Meet v m → RecordsOvernight file tag h w ss m night v ts

-- a night is possible behind all records whose copy meets its rule, with all data that have its bytes at the held positions
abbrev pub NightsExist : Type 0
NightsExist = (e : Records) (buffer : List ℕ) (r : Reader) → copy_rule e.copy ≡ true → CopySized e.copy → length buffer ≡ length e.buffer
    → ((p : ℕ) → member p (runs_of e.copy) ≡ true → get_or buffer p 0 ≡ get_or e.buffer p 0)
    → RecordsNight e (record { copy = e.copy; buffer = buffer; reader = r })

-- A concrete case: the two sessions of `OvernightCase` on records.

-- the records before the second calls: other bytes at the positions that are not held
abbrev pub morning_digits : Records
morning_digits = record { copy = copy_with (run 0 2 ∷ []); buffer = codes "012xxxxxxx"; reader = fresh_reader }

-- calls of save alone: into no room, and, behind a beginning, into enough
abbrev pub savings : RecordCalls
savings = record {
  first = saves [] (Err 20) [] ∷ [];
  answers = record { begun = fresh_reader; calls = on_copy (saves (dots 40) (Ok 36) (saved_digits ++ dots 4)) ∷ [] } ∷ [];
}

pub record OvernightOfDigits : Type 0 where
  pub evening : CallsOnDigits start_digits evening_calls (Ok false)
  -- what the copy then holds
  pub runs : runs_of (after_all evening.calls start_digits).copy ≡ run 0 2 ∷ []
  pub buffer : (after_all evening.calls start_digits).buffer ≡ codes "012......."
  -- the night, in which the copy is loaded in place of a fresh one
  pub night : RecordsNight (after_all evening.calls start_digits) morning_digits
  pub into : night.out ≡ dots 40
  pub size : night.size ≡ 36
  pub written : night.written ≡ saved_digits ++ dots 4
  pub given : night.given ≡ opened_digits
  pub morning : CallsOnDigits morning_digits morning_calls (Ok true)
  pub demand : RecordsOvernight digits tag start_digits evening.calls evening.sources morning_digits night morning.calls morning.sources
  -- what the copy holds at the end
  pub all_runs : runs_of (after_all morning.calls morning_digits).copy ≡ run 0 9 ∷ []
  pub whole : (after_all morning.calls morning_digits).buffer ≡ digits
  -- save as a call of a list; of a record that breaks its rule it says 19
  pub savings_meet : Meet savings morning_digits
  pub broken : save_outcome touching max_saved ≡ Err 19
  -- a byte more, or one less, is refused
  pub trailing : load_call opened_digits (saved_digits ++ (0 ∷ [])) ≡ record { copy = opened_digits; refusal = Some 30 }
  pub short : load_call opened_digits (take 35 saved_digits) ≡ record { copy = opened_digits; refusal = Some 29 }
