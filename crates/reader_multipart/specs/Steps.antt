-- The judgement of a part.
use Rattle.std.specs.Prelude.{ℕ, false, [], Result, Ok, Err}
use Rattle.rules_tablet.specs.Fields.{first_of}
use Rattle.rules_tablet.specs.Heads.{span_of}
use Rattle.rules_tablet.specs.Parsers.{Parser, at, refuse, with_line}
use Rattle.rules_tablet.specs.declared.Stage.TheVariants.{Data}

-- a part at its empty line, refused by a number, or its data begins
abbrev pub judged_part : Result (Unit {0}) ℕ → Parser → Parser
judged_part (Ok u) p = at (Data (first_of p.part.range) (span_of p.part.range)) (with_line [] false p)
judged_part (Err k) p = refuse k p
