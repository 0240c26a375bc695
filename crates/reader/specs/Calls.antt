-- A call of feed on records: what it says, against the definition of the call on what the records mean.
use Rattle.std.specs.Prelude.{ℕ, ◌≡◌, Bool, true, false, ◌&&◌, List, eqb, length}
use Rattle.rules_tablet.specs.Copies.{copy_rule}
use Rattle.rules_tablet.specs.Parsers.{report_of}
use Rattle.rules_tablet.specs.Calls.{Feeding, feed_call}
use Rattle.rules_tablet.specs.Readers.{parser_in}
use Rattle.rules_tablet.specs.declared.Copy.{Copy}
use Rattle.rules_tablet.specs.declared.Reader.{Reader}
use Rattle.rules_tablet.specs.declared.Report.TheVariants.{Refused as ByNumber}
use Rattle.copy.specs.States.{state_of}
use Rattle.copy.specs.declared.runs.RunList.{RunList}
use Rattle.reader.specs.Rules.{reader_rule}
use Rattle.reader.specs.declared.fed.Fed.{Fed}

-- "Feeding: 19 before all else": both records meet their rules, and the buffer has the copy's length
unfoldable pub feed_rule : Copy → Reader → List ℕ → Bool
feed_rule c r buffer = copy_rule c && eqb (length buffer) c.length && reader_rule c r

-- the call on what the records mean
abbrev pub call_of : Copy → Reader → List ℕ → List ℕ → Feeding
call_of c r buffer piece = feed_call (state_of c) (parser_in r) buffer piece

-- nothing taken or changed
pub record Rejected (c : Copy) (r : Reader) (f : Fed) : Type 0 where
  pub copy : f.copy ≡ c
  pub reader : f.reader ≡ r
  pub taken : f.taken ≡ 0
  pub report : f.report ≡ ByNumber 19

-- what a call leaves where the rules are met: as the definition says, with records that meet their rules
pub record FedRight (c : Copy) (r : Reader) (buffer piece : List ℕ) (f : Fed) (bytes : List ℕ) : Type 0 where
  pub copy : state_of f.copy ≡ (call_of c r buffer piece).copy
  pub reader : parser_in f.reader ≡ (call_of c r buffer piece).reader
  pub stored : bytes ≡ (call_of c r buffer piece).buffer
  pub taken : f.taken ≡ (call_of c r buffer piece).taken
  pub report : f.report ≡ (call_of c r buffer piece).report
  pub copy_rule : copy_rule f.copy ≡ true
  pub reader_rule : reader_rule f.copy f.reader ≡ true

-- what a call of feed leaves
pub record FedIs (c : Copy) (r : Reader) (buffer piece : List ℕ) (f : Fed) (bytes : List ℕ) : Type 0 where
  pub rejected : feed_rule c r buffer ≡ false → Rejected c r f × (bytes ≡ buffer)
  pub fed : feed_rule c r buffer ≡ true → FedRight c r buffer piece f bytes

-- the rules are met
pub record FeedReady (c : Copy) (r : Reader) (buffer : List ℕ) : Type 0 where
  pub copy : copy_rule c ≡ true
  pub room : length buffer ≡ c.length
  pub reader : reader_rule c r ≡ true

-- what a call leaves behind i bytes
abbrev pub end_of : Copy → RunList → Reader → ℕ → Fed
end_of c l r i = record {
  copy = record { tag = c.tag; tag_len = c.tag_len; length = c.length; runs = l.runs; count = l.count };
  reader = r;
  taken = i;
  report = report_of r.stage;
}
