-- What a whole line makes of a part.
use Rattle.std.specs.Prelude.{ℕ, false, [], Result, Ok, Err}
use Rattle.rules_tablet.specs.Parsers.{Parser, at, refuse, with_line, with_part}
use Rattle.rules_tablet.specs.declared.Stage.TheVariants.{Data}
use Rattle.reader_multipart.specs.declared.part.PartOut.{PartOut}
use Rattle.reader_multipart.specs.declared.part.PartOut.TheVariants.{Lines, Data as DataFrom}

-- the parser behind the line, refused by a number where it is refused
abbrev pub behind_line : Result PartOut ℕ → Parser → Parser
behind_line (Err k) p = refuse k p
behind_line (Ok (Lines x)) p = with_part x p
behind_line (Ok (DataFrom first span)) p = at (Data first span) (with_line [] false p)
