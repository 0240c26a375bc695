-- The copy's rule and the reader's rule (document 01, row 19; docs/RECORDS.md) by examples: for each clause what just keeps it and what breaks it alone.
use Rattle.std.specs.Prelude.{ℕ, Bool, true, false, List, [], ◌∷◌, ◌++◌, replicate, Option, None, Some}
use Prim.Native.String.{String}
use Rattle.rules_server.specs.Octets.{codes}
use Rattle.rules_server.specs.declared.Run.{Run}
use Rattle.rules_tablet.specs.Runs.{run}
use Rattle.rules_tablet.specs.Copies.{fresh_copy, copy_rule}
use Rattle.rules_tablet.specs.Parsers.{Parser}
use Rattle.rules_tablet.specs.Calls.{State, copy_ok, fresh, reader_ok}
use Rattle.rules_tablet.specs.declared.Copy.{Copy}
use Rattle.rules_tablet.specs.declared.RangeField.{RangeField}
use Rattle.rules_tablet.specs.declared.RangeField.TheVariants.{Absent, Wrong, Span, Of}
use Rattle.rules_tablet.specs.declared.TypeField.{TypeField}
use Rattle.rules_tablet.specs.declared.TypeField.TheVariants.{Absent as NoType, Other, Multipart, Broken}
use Rattle.rules_tablet.specs.declared.Head.{Head}
use Rattle.rules_tablet.specs.declared.PartHead.{PartHead}
use Rattle.rules_tablet.specs.declared.Stage.{Stage}
use Rattle.rules_tablet.specs.declared.Stage.TheVariants.{Status, Fields, Plain, Skip, Preamble, PreambleEnd, FirstDelimiter, Delimiter}
use Rattle.rules_tablet.specs.declared.Stage.TheVariants.{AfterFirstDelimiter, AfterDelimiter, PartBegin, Closing, PartLine, Data, Epilogue, Finished}
use Rattle.rules_tablet.specs.declared.Stage.TheVariants.{Refused}
use Rattle.rules_demands.specs.AnchorTables.{Entry, ◌is◌, Agree}
use Rattle.rules_demands.specs.AnchorLimits.{tagged}
use Rattle.rules_demands.specs.AnchorSamples.{letters, singles}

-- a copy under this tag, of n bytes
abbrev pub copy_of : List ℕ → ℕ → List Run → State
copy_of tag n runs = record { tag = tag; length = n; runs = runs }

-- one under the tag `"k"`
abbrev pub copy_holding : ℕ → List Run → State
copy_holding n runs = copy_of (codes "\"k\"") n runs

-- the copy's rule on what a record means
unfoldable pub copies : List (Entry Bool)
copies =
    -- "copy's tag not strong or over 64 bytes"
    copy_ok (copy_of (codes "\"k\"") 10 []) is true
    ∷ copy_ok (copy_of (codes "\"\"") 10 []) is true
    ∷ copy_ok (copy_of (codes "W/\"k\"") 10 []) is false
    ∷ copy_ok (copy_of (codes "k") 10 []) is false
    ∷ copy_ok (copy_of [] 10 []) is false
    ∷ copy_ok (copy_of (tagged 62) 10 []) is true
    ∷ copy_ok (copy_of (tagged 63) 10 []) is false
    -- "length over limit 2"
    ∷ copy_ok (copy_holding 0 []) is true
    ∷ copy_ok (copy_holding 1099511627776 []) is true
    ∷ copy_ok (copy_holding 1099511627777 []) is false
    -- "128 runs in a copy"
    ∷ copy_ok (copy_holding 300 (singles 0 128)) is true
    ∷ copy_ok (copy_holding 300 (singles 0 129)) is false
    -- ascending, with a position between neighbours, each with first at most last, all below the length
    ∷ copy_ok (copy_holding 10 (run 0 3 ∷ run 5 9 ∷ [])) is true
    ∷ copy_ok (copy_holding 10 (run 0 3 ∷ run 4 9 ∷ [])) is false
    ∷ copy_ok (copy_holding 10 (run 5 9 ∷ run 0 3 ∷ [])) is false
    ∷ copy_ok (copy_holding 10 (run 4 4 ∷ [])) is true
    ∷ copy_ok (copy_holding 10 (run 4 3 ∷ [])) is false
    ∷ copy_ok (copy_holding 10 (run 0 9 ∷ [])) is true
    ∷ copy_ok (copy_holding 10 (run 0 10 ∷ [])) is false
    ∷ copy_ok (copy_holding 0 (run 0 0 ∷ [])) is false
    ∷ []

-- a copy's record: its tag's array and length, the file's length, the array of runs and how many of it count
abbrev pub record_of : List ℕ → ℕ → ℕ → List Run → ℕ → Copy
record_of tag size n runs count = record { tag = tag; tag_len = size; length = n; runs = runs; count = count }

abbrev pub zeros : ℕ → List ℕ
zeros k = replicate k 0

-- the tag `"k"` in its array
abbrev pub short : List ℕ
short = codes "\"k\"" ++ zeros 61

abbrev pub blanks : ℕ → List Run
blanks k = replicate k (run 0 0)

-- the rule of the record itself: "unused places are zero, so that a state has one record"
unfoldable pub records : List (Entry Bool)
records =
    copy_rule (record_of short 3 10 (blanks 128) 0) is true
    ∷ copy_rule (record_of short 2 10 (blanks 128) 0) is false
    ∷ copy_rule (record_of short 4 10 (blanks 128) 0) is false
    ∷ copy_rule (record_of (codes "\"k\"" ++ (zeros 60 ++ (1 ∷ []))) 3 10 (blanks 128) 0) is false
    ∷ copy_rule (record_of (codes "W/\"k\"" ++ zeros 59) 5 10 (blanks 128) 0) is false
    ∷ copy_rule (record_of (tagged 62) 64 10 (blanks 128) 0) is true
    ∷ copy_rule (record_of (tagged 62) 65 10 (blanks 128) 0) is false
    ∷ copy_rule (record_of short 3 1099511627776 (blanks 128) 0) is true
    ∷ copy_rule (record_of short 3 1099511627777 (blanks 128) 0) is false
    ∷ copy_rule (record_of short 3 300 (singles 0 128) 128) is true
    ∷ copy_rule (record_of short 3 300 (singles 0 128) 129) is false
    ∷ copy_rule (record_of short 3 10 (run 0 3 ∷ run 5 9 ∷ blanks 126) 2) is true
    ∷ copy_rule (record_of short 3 10 (run 0 3 ∷ run 5 9 ∷ blanks 126) 1) is false
    ∷ copy_rule (record_of short 3 10 (run 0 3 ∷ run 5 9 ∷ blanks 126) 3) is false
    ∷ copy_rule (record_of short 3 10 (run 0 3 ∷ run 4 9 ∷ blanks 126) 2) is false
    ∷ copy_rule (record_of short 3 10 (blanks 127 ++ (run 0 1 ∷ [])) 0) is false
    ∷ copy_rule (record_of short 3 10 (blanks 127 ++ (run 1 0 ∷ [])) 0) is false
    -- a fresh copy keeps it
    ∷ copy_rule fresh_copy is true
    ∷ []

-- the fresh copy's record: no run held, under the tag `""` and the length 0
unfoldable pub fresh_records : List (Entry Copy)
fresh_records = fresh_copy is record_of (codes "\"\"" ++ zeros 62) 2 0 (blanks 128) 0 ∷ []

-- a head with its status line, so many field lines, an ETag, and these fields
abbrev pub head_of : ℕ → ℕ → TypeField → RangeField → Option ℕ → Head
head_of status lines media range size = record { status = status; lines = lines; has_tag = true; media = media; range = range; size = size }

-- a part's lines
abbrev pub part_of : ℕ → RangeField → PartHead
part_of lines range = record { lines = lines; range = range }

-- a reader with an empty line
abbrev pub reader_at : Stage → ℕ → Head → PartHead → List ℕ → List ℕ → Parser
reader_at stage after head part tag boundary = record {
  stage = stage;
  framing = record { after = after };
  line = [];
  cr = false;
  head = head;
  part = part;
  tag = tag;
  boundary = boundary;
}

-- a copy of ten bytes under `"k"` beside a reader in the head: so many bytes of a line
abbrev pub lined : ℕ → Bool
lined k = reader_ok (copy_holding 10 []) (record {
  stage = Fields;
  framing = record { after = 0 };
  line = letters k;
  cr = false;
  head = head_of 200 1 NoType Absent None;
  part = part_of 0 Absent;
  tag = codes "\"k\"";
  boundary = [];
})

-- this tag, and this boundary with this type
abbrev pub keeping : List ℕ → TypeField → List ℕ → Bool
keeping tag media boundary = reader_ok (copy_holding 10 []) (reader_at Fields 0 (head_of 206 2 media Absent None) (part_of 0 Absent) tag boundary)

-- so many lines, this Content-Range and this Content-Length
abbrev pub stating : ℕ → RangeField → Option ℕ → Bool
stating lines range size = reader_ok (copy_holding 10 []) (reader_at Fields 0 (head_of 206 lines NoType range size) (part_of 0 Absent) (codes "\"k\"") [])

-- a part with so many lines and this Content-Range, within a multipart of 100 bytes
abbrev pub listing : ℕ → RangeField → Bool
listing lines range = reader_ok (copy_holding 10 [])
    (reader_at PartLine 50 (head_of 206 3 Multipart Absent (Some 100)) (part_of lines range) (codes "\"k\"") (codes "B"))

-- a 416 whose body is skipped
abbrev pub skipping : ℕ → ℕ → Bool
skipping after size = reader_ok (copy_holding 10 []) (reader_at Skip after (head_of 416 2 NoType Absent (Some size)) (part_of 0 Absent) (codes "\"k\"") [])

-- a reader in the head, with so many bytes of a body after the next
abbrev pub counting : ℕ → Bool
counting after = reader_ok (copy_holding 10 []) (reader_at Fields after (head_of 200 1 NoType Absent None) (part_of 0 Absent) (codes "\"k\"") [])

-- the bounds of each number and text of a reader
unfoldable pub readers : List (Entry Bool)
readers =
    reader_ok (copy_holding 10 []) fresh is true
    ∷ reader_ok (copy_holding 0 []) fresh is true
    ∷ lined 512 is true
    ∷ lined 513 is false
    ∷ stating 64 Absent None is true
    ∷ stating 65 Absent None is false
    ∷ listing 16 Absent is true
    ∷ listing 17 Absent is false
    ∷ keeping (letters 64) NoType [] is true
    ∷ keeping (letters 65) NoType [] is false
    ∷ keeping (codes "\"k\"") Other (letters 70) is true
    ∷ keeping (codes "\"k\"") Other (letters 71) is false
    ∷ keeping (codes "\"k\"") Multipart (letters 70) is true
    ∷ keeping (codes "\"k\"") Multipart (codes "B") is true
    ∷ keeping (codes "\"k\"") Multipart [] is false
    ∷ keeping (codes "\"k\"") Multipart (codes "B!") is false
    ∷ keeping (codes "\"k\"") Broken [] is true
    -- the numbers of a Content-Range, of the head and of a part
    ∷ stating 1 Wrong None is true
    ∷ stating 1 (Span 1099511627776 1099511627776) None is true
    ∷ stating 1 (Span 1099511627777 0) None is false
    ∷ stating 1 (Span 0 1099511627777) None is false
    ∷ stating 1 (Of 1099511627776 1099511627776 1099511627776) None is true
    ∷ stating 1 (Of 1099511627777 0 0) None is false
    ∷ stating 1 (Of 0 1099511627777 0) None is false
    ∷ stating 1 (Of 0 0 1099511627777) None is false
    ∷ listing 1 Wrong is true
    ∷ listing 1 (Span 1099511627776 1099511627776) is true
    ∷ listing 1 (Span 1099511627777 0) is false
    ∷ listing 1 (Span 0 1099511627777) is false
    ∷ listing 1 (Of 1099511627776 1099511627776 1099511627776) is true
    ∷ listing 1 (Of 1099511627777 0 0) is false
    ∷ listing 1 (Of 0 1099511627777 0) is false
    ∷ listing 1 (Of 0 0 1099511627777) is false
    -- Content-Length, and what is left of the body
    ∷ stating 1 Absent (Some 2199023255552) is true
    ∷ stating 1 Absent (Some 2199023255553) is false
    ∷ skipping 2199023255551 2199023255552 is true
    ∷ skipping 2199023255552 2199023255552 is false
    ∷ skipping 9 10 is true
    ∷ skipping 10 10 is false
    ∷ counting 2199023255551 is true
    ∷ counting 2199023255552 is false
    ∷ []

-- the body of a 200 under this tag, beside a copy of ten bytes under `"k"`
abbrev pub in_whole : String → Stage → ℕ → Bool
in_whole tag stage after = reader_ok (copy_holding 10 []) (reader_at stage after (head_of 200 2 NoType Absent (Some 10)) (part_of 0 Absent) (codes tag) [])

-- of a plain 206 of the positions 2 to 7
abbrev pub in_plain : String → Stage → ℕ → Bool
in_plain tag stage after = reader_ok (copy_holding 10 []) (reader_at stage after (head_of 206 3 NoType (Of 2 7 10) (Some 6)) (part_of 0 Absent) (codes tag) [])

-- of a multipart of 100 bytes, with a part of the positions 8 and 9
abbrev pub in_parts_under : String → String → Stage → ℕ → Bool
in_parts_under tag boundary stage after = reader_ok (copy_holding 10 [])
    (reader_at stage after (head_of 206 3 Multipart Absent (Some 100)) (part_of 1 (Of 8 9 10)) (codes tag) (codes boundary))

-- under the copy's tag and the boundary `B`
abbrev pub in_parts : Stage → ℕ → Bool
in_parts stage after = in_parts_under "\"k\"" "B" stage after

-- a part with this Content-Range, within such a multipart, with 51 bytes left of it
abbrev pub in_part : RangeField → Stage → Bool
in_part range stage = reader_ok (copy_holding 10 [])
    (reader_at stage 50 (head_of 206 3 Multipart Absent (Some 100)) (part_of 1 range) (codes "\"k\"") (codes "B"))

-- each stage: what is still to come fits the copy, and a body is that of an answer accepted under the copy's tag
unfoldable pub stages : List (Entry Bool)
stages =
    in_whole "\"k\"" (Plain 0) 9 is true
    ∷ in_whole "\"k\"" (Plain 9) 0 is true
    ∷ in_whole "\"k\"" (Plain 1) 9 is false
    ∷ in_whole "\"k\"" (Plain 10) 0 is false
    ∷ in_whole "\"K\"" (Plain 0) 9 is false
    ∷ in_plain "\"k\"" (Plain 2) 5 is true
    ∷ in_plain "\"k\"" (Plain 7) 0 is true
    ∷ in_plain "\"k\"" (Plain 5) 5 is false
    ∷ in_plain "\"j\"" (Plain 2) 5 is false
    -- "0 to 4 empty lines"
    ∷ in_parts (Preamble 0) 99 is true
    ∷ in_parts (Preamble 4) 50 is true
    ∷ in_parts (Preamble 5) 50 is false
    ∷ in_parts_under "\"j\"" "B" (Preamble 0) 99 is false
    ∷ in_parts (PreambleEnd 3) 50 is true
    ∷ in_parts (PreambleEnd 4) 50 is false
    ∷ in_parts_under "\"j\"" "B" (PreambleEnd 3) 50 is false
    -- the bytes of CR LF `--B`, of which the first two are passed before the first part
    ∷ in_parts (FirstDelimiter 3) 50 is true
    ∷ in_parts (FirstDelimiter 4) 50 is true
    ∷ in_parts (FirstDelimiter 2) 50 is false
    ∷ in_parts (FirstDelimiter 5) 50 is false
    ∷ in_parts_under "\"j\"" "B" (FirstDelimiter 3) 50 is false
    ∷ in_parts (Delimiter 0) 50 is true
    ∷ in_parts (Delimiter 4) 50 is true
    ∷ in_parts (Delimiter 5) 50 is false
    ∷ in_parts_under "\"j\"" "B" (Delimiter 0) 50 is false
    ∷ in_parts AfterFirstDelimiter 50 is true
    ∷ in_parts_under "\"j\"" "B" AfterFirstDelimiter 50 is false
    ∷ in_parts AfterDelimiter 50 is true
    ∷ in_parts_under "\"j\"" "B" AfterDelimiter 50 is false
    ∷ in_parts PartBegin 50 is true
    ∷ in_parts_under "\"j\"" "B" PartBegin 50 is false
    ∷ in_parts Closing 50 is true
    ∷ in_parts_under "\"j\"" "B" Closing 50 is false
    ∷ in_parts PartLine 50 is true
    ∷ in_parts_under "\"j\"" "B" PartLine 50 is false
    ∷ in_parts Epilogue 50 is true
    ∷ in_parts_under "\"j\"" "B" Epilogue 50 is false
    -- a part's data: at least a byte, inside the copy, and room for it, CR LF and `--B--`
    ∷ in_parts (Data 8 2) 8 is true
    ∷ in_parts (Data 8 2) 7 is false
    ∷ in_parts (Data 9 1) 7 is true
    ∷ in_parts (Data 9 1) 6 is false
    ∷ in_parts (Data 9 0) 50 is false
    ∷ in_parts (Data 10 0) 50 is false
    ∷ in_parts (Data 9 2) 50 is false
    ∷ in_parts_under "\"j\"" "B" (Data 8 2) 50 is false
    ∷ in_parts_under "\"k\"" "" (Data 8 2) 50 is false
    -- the rest of the part's Content-Range, which is there, not wrong, and states no other length than the copy's
    ∷ in_part (Of 8 9 10) (Data 8 2) is true
    ∷ in_part (Span 8 9) (Data 8 2) is true
    ∷ in_part (Of 8 9 10) (Data 9 1) is true
    ∷ in_part (Of 8 9 11) (Data 8 2) is false
    ∷ in_part (Of 8 9 9) (Data 8 2) is false
    ∷ in_part Absent (Data 0 1) is false
    ∷ in_part Wrong (Data 0 1) is false
    ∷ in_part (Of 9 8 10) (Data 8 1) is false
    ∷ in_part (Of 8 9 10) (Data 7 3) is false
    ∷ in_part (Of 8 9 10) (Data 0 10) is false
    ∷ in_part (Of 8 9 10) (Data 8 1) is false
    -- over: finished, or refused by a number of the reader
    ∷ in_whole "\"k\"" Finished 0 is true
    ∷ in_whole "\"k\"" (Refused 10) 0 is false
    ∷ in_whole "\"k\"" (Refused 11) 0 is true
    ∷ in_whole "\"k\"" (Refused 17) 0 is true
    ∷ in_whole "\"k\"" (Refused 18) 0 is false
    ∷ []

-- a body with ten bytes left, beside a copy of ten bytes under `"k"`, behind this head and under that tag
abbrev pub behind : Head → Stage → Bool
behind head stage = reader_ok (copy_holding 10 []) (reader_at stage 9 head (part_of 0 Absent) (codes "\"k\"") (codes "B"))

-- heads that a copy of ten bytes accepts: of a 200, of a 206 of one part and of several, of a 416
abbrev pub whole_head : Head
whole_head = head_of 200 2 NoType Absent (Some 10)

abbrev pub plain_head : Head
plain_head = head_of 206 3 NoType (Of 0 9 10) (Some 10)

abbrev pub parts_head : Head
parts_head = head_of 206 3 Multipart Absent (Some 10)

abbrev pub skipped_head : Head
skipped_head = head_of 416 2 NoType Absent (Some 10)

-- a head without an ETag
abbrev pub untagged : Head → Head
untagged h = record { status = h.status; lines = h.lines; has_tag = false; media = h.media; range = h.range; size = h.size }

-- one without a Content-Length
abbrev pub unsized : Head → Head
unsized h = record { status = h.status; lines = h.lines; has_tag = h.has_tag; media = h.media; range = h.range; size = None }

-- one of another status
abbrev pub under : ℕ → Head → Head
under status h = record { status = status; lines = h.lines; has_tag = h.has_tag; media = h.media; range = h.range; size = h.size }

-- the copy's tag, and everything else as in a fresh reader
abbrev pub headless : Stage → Bool
headless stage = reader_ok (copy_holding 10 []) (reader_at stage 0 fresh.head fresh.part (codes "\"k\"") [])

-- a body is that of a head accepted for the copy: each thing that a body stage wants of the head, kept and broken alone
unfoldable pub accepted_heads : List (Entry Bool)
accepted_heads =
    behind whole_head (Plain 0) is true
    ∷ behind plain_head (Plain 0) is true
    ∷ behind parts_head (Preamble 0) is true
    ∷ behind skipped_head Skip is true
    -- before the body the head need not be one that is accepted
    ∷ behind (under 204 whole_head) Status is true
    ∷ behind (under 204 whole_head) Fields is true
    -- the status fits the stage
    ∷ behind (under 416 whole_head) (Plain 0) is false
    ∷ behind (under 204 whole_head) (Plain 0) is false
    ∷ behind (under 200 plain_head) (Plain 0) is false
    ∷ behind (under 200 parts_head) (Preamble 0) is false
    ∷ behind (under 200 skipped_head) Skip is false
    -- and so does the type
    ∷ behind parts_head (Plain 0) is false
    ∷ behind plain_head (Preamble 0) is false
    -- a Content-Length was seen
    ∷ behind (unsized whole_head) (Plain 0) is false
    ∷ behind (unsized plain_head) (Plain 0) is false
    ∷ behind (unsized parts_head) (Preamble 0) is false
    ∷ behind (unsized skipped_head) Skip is false
    -- a tag was seen, but "416 needs no tag"
    ∷ behind (untagged whole_head) (Plain 0) is false
    ∷ behind (untagged plain_head) (Plain 0) is false
    ∷ behind (untagged parts_head) (Preamble 0) is false
    ∷ behind (untagged skipped_head) Skip is true
    -- nothing of a head was read
    ∷ headless Status is true
    ∷ headless (Plain 0) is false
    ∷ headless Skip is false
    ∷ headless (Preamble 0) is false
    ∷ headless (Data 0 1) is false
    ∷ headless Epilogue is false
    ∷ []

pub record RulesAre : Type 0 where
  pub copies : Agree copies
  pub records : Agree records
  pub readers : Agree readers
  pub stages : Agree stages
  pub accepted_heads : Agree accepted_heads
  pub fresh_records : Agree fresh_records
