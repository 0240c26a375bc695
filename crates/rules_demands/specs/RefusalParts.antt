-- An answer within the body of a multipart, and what is refused there: "The same faults in a part's lines (17th line) are 15"; "Elsewhere in a multipart, 15
-- falls on the first byte that cannot fit,
-- or on the last counted byte if the closing mark is not then complete"; "A part's empty line: 15 for line counts, 14, 13, 15 for fit".
use Rattle.std.specs.Prelude.{ℕ, suc, ◌+◌, ◌≤◌, ◌<◌, ◌≡◌, ◌⊎◌, Bool, true, false, List, [], ◌∷◌, ◌++◌, length}
use Rattle.std.specs.Prelude.{Option, None, Some}
use Rattle.rules_server.specs.Octets.{carriage_return, dash, line_feed}
use Rattle.rules_server.specs.Texts.{crlf, dashes}
use Rattle.rules_server.specs.Answers.{Cell, own, own_then, from_then, lines_then, dash_boundary}
use Rattle.rules_tablet.specs.Limits.{max_part_lines, max_preamble}
use Rattle.rules_tablet.specs.Fields.{is_field, range, range_field, is_wrong, is_foreign, first_of}
use Rattle.rules_tablet.specs.Heads.{span_of}
use Rattle.rules_demands.specs.AcceptanceGrammar.{Line, FieldLines, is_named, count, lookup, PartLines, empty_lines}
use Rattle.rules_demands.specs.RefusalLines.{so_far, ByteFault, First}

-- lines of a part of which none is refused at its LF
pub record PartHeading (fields : List (List ℕ)) : Type 0 where
  pub lines : FieldLines fields
  pub few : length fields ≤ max_part_lines
  pub one_range : count range fields ≤ 1

-- how many bytes "must still fit" behind a part's empty line: "its data, CR LF and a closing mark" `--` b `--`, for a Content-Range of the value v
abbrev pub needed : List ℕ → List ℕ → ℕ
needed b v = span_of (range_field v) + 2 + (length b + 4)

-- the body up to and with a mark, then CR LF, a part's lines and its empty line
abbrev pub part_opened : List Cell → List (List ℕ) → List Cell
part_opened marked fields = marked ++ own_then (crlf ++ lines_then fields crlf) []

-- a part whose empty line is not refused, behind the mark that ends `marked`, in a body of z bytes
pub record Announced (n : ℕ) (b : List ℕ) (z : ℕ) (marked : List Cell) (fields : List (List ℕ)) (v : List ℕ) : Type 0 where
  pub lines : PartLines n fields v
  pub fit : length (part_opened marked fields) + needed b v ≤ z

-- the body of z bytes so far, up to and with a whole mark `--boundary`: the first (false), or one behind a part (true)
pub data Marked (n : ℕ) (b : List ℕ) (z : ℕ) : Bool → List Cell → Type 0 where
  -- "0 to 4 empty lines", and the mark
  first : {parts : Bool} {cells : List Cell} (lead : ℕ) → lead ≤ max_preamble → parts ≡ false → cells ≡ empty_lines lead (own_then (dash_boundary b) [])
      → Marked n b z parts cells
  -- behind such a mark a part, "as many bytes as the span says, CR LF", and the next mark
  next : {parts : Bool} {cells : List Cell} (before : Bool) (marked : List Cell) (fields : List (List ℕ)) (v bytes : List ℕ) → Marked n b z before marked
      → Announced n b z marked fields v
      → length bytes ≡ span_of (range_field v) → parts ≡ true
      → cells ≡ part_opened marked fields ++ from_then (first_of (range_field v)) bytes (own_then (crlf ++ dash_boundary b) []) → Marked n b z parts cells

-- the body of z bytes so far, wherever it ends
pub data Within (n : ℕ) (b : List ℕ) (z : ℕ) : List Cell → Type 0 where
  -- behind "0 to 4 empty lines"
  in_lead : {cells : List Cell} (lead : ℕ) → lead ≤ max_preamble → cells ≡ empty_lines lead [] → Within n b z cells
  -- behind the CR of one more
  in_lead_end : {cells : List Cell} (lead : ℕ) → lead < max_preamble → cells ≡ empty_lines lead (own carriage_return ∷ []) → Within n b z cells
  -- within the first mark: some of its bytes, and c comes next
  in_mark : {cells : List Cell} (lead : ℕ) (seen : List ℕ) (c : ℕ) (more : List ℕ) → lead ≤ max_preamble → (seen ≡ [] → ⊥) → dash_boundary b ≡ seen ++ (c ∷ more)
      → cells ≡ empty_lines lead (own_then seen [])
      → Within n b z cells
  -- behind a whole mark
  behind_mark : {cells : List Cell} (parts : Bool) → Marked n b z parts cells → Within n b z cells
  -- behind the CR of its line
  behind_cr : {cells : List Cell} (parts : Bool) (marked : List Cell) → Marked n b z parts marked → cells ≡ marked ++ (own carriage_return ∷ [])
      → Within n b z cells
  -- behind the first `-` that makes it the closing mark
  behind_dash : {cells : List Cell} (marked : List Cell) → Marked n b z true marked → cells ≡ marked ++ (own dash ∷ []) → Within n b z cells
  -- in a line of a part
  in_line : {cells : List Cell} (parts : Bool) (marked : List Cell) (fields : List (List ℕ)) (l : List ℕ) (cr : Bool) → Marked n b z parts marked
      → PartHeading fields → Line l
      → cells ≡ marked ++ own_then (crlf ++ lines_then fields (so_far l cr)) [] → Within n b z cells
  -- in a part's data
  in_data : {cells : List Cell} (parts : Bool) (marked : List Cell) (fields : List (List ℕ)) (v bytes : List ℕ) → Marked n b z parts marked
      → Announced n b z marked fields v
      → length bytes < span_of (range_field v) → cells ≡ part_opened marked fields ++ from_then (first_of (range_field v)) bytes [] → Within n b z cells
  -- behind it: some bytes of CR LF and the next mark, and c comes next
  behind_data : {cells : List Cell} (parts : Bool) (marked : List Cell) (fields : List (List ℕ)) (v bytes seen : List ℕ) (c : ℕ) (more : List ℕ)
      → Marked n b z parts marked → Announced n b z marked fields v
      → length bytes ≡ span_of (range_field v) → crlf ++ dash_boundary b ≡ seen ++ (c ∷ more)
      → cells ≡ part_opened marked fields ++ from_then (first_of (range_field v)) bytes (own_then seen []) → Within n b z cells
  -- behind the closing mark: "anything up to Content-Length"
  behind_close : {cells : List Cell} (marked : List Cell) (anything : List ℕ) → Marked n b z true marked → cells ≡ marked ++ own_then (dashes ++ anything) []
      → Within n b z cells

-- the position of the next byte, if it is data
abbrev pub position_in : (n : ℕ) (b : List ℕ) (z : ℕ) (cells : List Cell) → Within n b z cells → Option ℕ
position_in n b z cells (in_lead lead few is) = None
position_in n b z cells (in_lead_end lead few is) = None
position_in n b z cells (in_mark lead seen c more few some-seen mark-is is) = None
position_in n b z cells (behind_mark parts m) = None
position_in n b z cells (behind_cr parts marked m is) = None
position_in n b z cells (behind_dash marked m is) = None
position_in n b z cells (in_line parts marked fields l cr m heading line is) = None
position_in n b z cells (in_data parts marked fields v bytes m a part-way is) = Some (first_of (range_field v) + length bytes)
position_in n b z cells (behind_data parts marked fields v bytes seen c more m a all mark-is is) = None
position_in n b z cells (behind_close marked anything m is) = None

-- a whole line behind these lines of a part: "(no other name counts here)"
pub data PartLineFault (fields : List (List ℕ)) (l : List ℕ) : Type 0 where
  -- "lines as in the head"
  no_field : is_field l ≡ false → PartLineFault fields l
  -- "1 to 16 lines"
  one_too_many : length fields ≡ max_part_lines → PartLineFault fields l
  -- "exactly one Content-Range"
  repeated : is_named range l ≡ true → 0 < count range fields → PartLineFault fields l

-- a part's empty line, "15 for line counts": not "1 to 16 lines", or not "exactly one Content-Range"
abbrev pub CountFault : List (List ℕ) → Type 0
CountFault fields = (fields ≡ []) ⊎ (count range fields ≡ 0)

-- 14: "Content-Range wrong"
pub record WrongPart (n : ℕ) (fields : List (List ℕ)) : Type 0 where
  pub value : List ℕ
  pub found : lookup range fields ≡ Some value
  pub wrong : is_wrong n (range_field value) ≡ true

-- 13: "a stated length unlike the copy's length"
pub record ForeignPart (n : ℕ) (fields : List (List ℕ)) : Type 0 where
  pub value : List ℕ
  pub found : lookup range fields ≡ Some value
  pub foreign : is_foreign n (range_field value) ≡ true

-- 15: "At a part's empty line, its data, CR LF and a closing mark must still fit", behind `before` of z bytes
pub record Unfit (b : List ℕ) (z before : ℕ) (fields : List (List ℕ)) : Type 0 where
  pub value : List ℕ
  pub found : lookup range fields ≡ Some value
  pub unfit : z < before + needed b value

-- "A part's empty line: 15 for line counts, 14, 13, 15 for fit"
abbrev pub PartFault : ℕ → List ℕ → ℕ → ℕ → List (List ℕ) → ℕ → Type 0
PartFault n b z before fields k =
    First 15 (CountFault fields)
    (First 14 (WrongPart n fields)
    (First 13 (ForeignPart n fields)
    (First 15 (Unfit b z before fields) ⊥ k) k) k) k

-- the byte x behind the line l so far of a part, where with this byte `before` of z bytes are read
pub data LineRefuses (n : ℕ) (b : List ℕ) (z before : ℕ) (fields : List (List ℕ)) (l : List ℕ) (cr : Bool) (x k : ℕ) : Type 0 where
  -- "The same faults in a part's lines (17th line) are 15"
  at_byte : ByteFault l x cr → k ≡ 15 → LineRefuses n b z before fields l cr x k
  at_line : cr ≡ true → x ≡ line_feed → (l ≡ [] → ⊥) → PartLineFault fields l → k ≡ 15 → LineRefuses n b z before fields l cr x k
  -- the LF of the part's empty line
  at_empty : cr ≡ true → x ≡ line_feed → l ≡ [] → PartFault n b z before fields k → LineRefuses n b z before fields l cr x k
  -- any other byte, where it is the last counted one
  cut_short : ((cr ≡ true) × (x ≡ line_feed) × (l ≡ []) → ⊥) → before ≡ z → k ≡ 15 → LineRefuses n b z before fields l cr x k

-- "the first byte that cannot fit, or .. the last counted byte if the closing mark is not then complete", where with this byte `before` of z bytes are read
pub data Misfit (fits : Type 0) (z before : ℕ) : Type 0 where
  cannot_fit : (fits → ⊥) → Misfit fits z before
  cut_short : before ≡ z → Misfit fits z before

-- the byte x behind a front within a multipart is refused by k
abbrev pub WithinRefuses : (n : ℕ) (b : List ℕ) (z : ℕ) (cells : List Cell) → Within n b z cells → ℕ → ℕ → Type 0
WithinRefuses n b z cells (in_lead lead few is) x k = Misfit ((x ≡ dash) ⊎ ((x ≡ carriage_return) × (lead < max_preamble))) z (suc (length cells)) × (k ≡ 15)
WithinRefuses n b z cells (in_lead_end lead few is) x k = Misfit (x ≡ line_feed) z (suc (length cells)) × (k ≡ 15)
WithinRefuses n b z cells (in_mark lead seen c more few some-seen mark-is is) x k = Misfit (x ≡ c) z (suc (length cells)) × (k ≡ 15)
WithinRefuses n b z cells (behind_mark parts m) x k = Misfit ((x ≡ carriage_return) ⊎ ((x ≡ dash) × (parts ≡ true))) z (suc (length cells)) × (k ≡ 15)
WithinRefuses n b z cells (behind_cr parts marked m is) x k = Misfit (x ≡ line_feed) z (suc (length cells)) × (k ≡ 15)
-- behind the second `-` the closing mark is complete
WithinRefuses n b z cells (behind_dash marked m is) x k = (x ≡ dash → ⊥) × (k ≡ 15)
WithinRefuses n b z cells (in_line parts marked fields l cr m heading line is) x k = LineRefuses n b z (suc (length cells)) fields l cr x k
WithinRefuses n b z cells (in_data parts marked fields v bytes m a part-way is) x k = ⊥
WithinRefuses n b z cells (behind_data parts marked fields v bytes seen c more m a all mark-is is) x k = Misfit (x ≡ c) z (suc (length cells)) × (k ≡ 15)
WithinRefuses n b z cells (behind_close marked anything m is) x k = ⊥
