-- What the numbers of a stage leave room for, so that the code can go on from it.
use Rattle.std.specs.Prelude.{ℕ, suc, ◌+◌, ◌<◌, ◌^◌}
use Rattle.rules_tablet.specs.Limits.{max_preamble}
use Rattle.rules_tablet.specs.declared.Stage.{Stage}
use Rattle.rules_tablet.specs.declared.Stage.TheVariants.{Status, Fields, Plain, Skip, Preamble, PreambleEnd, FirstDelimiter, Delimiter, AfterFirstDelimiter}
use Rattle.rules_tablet.specs.declared.Stage.TheVariants.{AfterDelimiter, PartBegin, Closing, PartLine, Data, Epilogue, Finished, Refused}

-- positions are numbers of the code as far as the counted bytes go, empty lines are few, and a delimiter's bytes are its own; a stage, the bytes counted after
-- the next, a boundary's length
abbrev pub Roomy : Stage → ℕ → ℕ → Type 0
Roomy Status after k = Unit {0}
Roomy Fields after k = Unit {0}
Roomy (Plain next) after k = suc (next + after) < 2 ^ 64
Roomy Skip after k = Unit {0}
Roomy (Preamble j) after k = Unit {0}
Roomy (PreambleEnd j) after k = j < max_preamble
Roomy (FirstDelimiter i) after k = i < k + 4
Roomy (Delimiter i) after k = i < k + 4
Roomy AfterFirstDelimiter after k = Unit {0}
Roomy AfterDelimiter after k = Unit {0}
Roomy PartBegin after k = Unit {0}
Roomy Closing after k = Unit {0}
Roomy PartLine after k = Unit {0}
Roomy (Data next left) after k = next + left < 2 ^ 64
Roomy Epilogue after k = Unit {0}
Roomy Finished after k = Unit {0}
Roomy (Refused j) after k = Unit {0}
