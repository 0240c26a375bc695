-- What a stage is to the loop over a piece.
use Rattle.std.specs.Prelude.{Bool, true, false, ◌||◌}
use Rattle.rules_tablet.specs.declared.Stage.{Stage}
use Rattle.rules_tablet.specs.declared.Stage.TheVariants.{Status, Fields, Plain, Skip, Preamble, PreambleEnd, FirstDelimiter, Delimiter, AfterFirstDelimiter}
use Rattle.rules_tablet.specs.declared.Stage.TheVariants.{AfterDelimiter, PartBegin, Closing, PartLine, Data, Epilogue, Finished, Refused}
use Rattle.reader_state.specs.declared.stages.NextBytes.{NextBytes}
use Rattle.reader_state.specs.declared.stages.NextBytes.TheVariants.{Over, PlainData, PartData, Skipped, LineOfHead, LineOfPart, BetweenParts}

-- what the next bytes are
abbrev pub look_of : Stage → NextBytes
look_of Status = LineOfHead
look_of Fields = LineOfHead
look_of (Plain next) = PlainData next
look_of Skip = Skipped
look_of (Preamble k) = BetweenParts
look_of (PreambleEnd k) = BetweenParts
look_of (FirstDelimiter i) = BetweenParts
look_of (Delimiter i) = BetweenParts
look_of AfterFirstDelimiter = BetweenParts
look_of AfterDelimiter = BetweenParts
look_of PartBegin = BetweenParts
look_of Closing = BetweenParts
look_of PartLine = LineOfPart
look_of (Data next left) = PartData next left
look_of Epilogue = Skipped
look_of Finished = Over
look_of (Refused k) = Over

-- ---- tests of the next bytes

-- no byte is read any more
abbrev pub is_over : NextBytes → Bool
is_over Over = true
is_over _ = false

-- data of a plain body
abbrev pub is_plain_data : NextBytes → Bool
is_plain_data (PlainData next) = true
is_plain_data _ = false

-- data of a part
abbrev pub is_part_data : NextBytes → Bool
is_part_data (PartData next left) = true
is_part_data _ = false

-- bytes that are skipped
abbrev pub is_skipped : NextBytes → Bool
is_skipped Skipped = true
is_skipped _ = false

-- a line of the head
abbrev pub is_head_line : NextBytes → Bool
is_head_line LineOfHead = true
is_head_line _ = false

-- a line of a part
abbrev pub is_part_line : NextBytes → Bool
is_part_line LineOfPart = true
is_part_line _ = false

-- what stands between parts
abbrev pub is_between_parts : NextBytes → Bool
is_between_parts BetweenParts = true
is_between_parts _ = false

-- data comes next
abbrev pub is_data : Stage → Bool
is_data s = is_plain_data (look_of s) || is_part_data (look_of s)
