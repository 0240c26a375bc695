-- A parser that bytes between parts led to a stage.
use Rattle.std.specs.Prelude.{cond}
use Rattle.rules_tablet.specs.Parsers.{Parser, at, with_framing, counted_body, with_part}
use Rattle.rules_tablet.specs.declared.RangeField.TheVariants.{Absent}
use Rattle.rules_tablet.specs.declared.Stage.{Stage}
use Rattle.reader_state.specs.Looks.{look_of, is_part_line}
use Rattle.reader_multipart.specs.declared.delimiters.Passed.{Passed}

-- behind a delimiter's line a part's head begins
abbrev pub part_begun : Stage → Parser → Parser
part_begun s p = cond (is_part_line (look_of s)) (with_part (record { lines = 0; range = Absent }) p) p

-- a parser at a stage to which a byte between parts led
abbrev pub led_to : Stage → Parser → Parser
led_to s p = at s (part_begun s p)

-- a parser behind the bytes of x
abbrev pub passed_to : Passed → Parser → Parser
passed_to x p = led_to x.stage (with_framing (counted_body x.after) p)
