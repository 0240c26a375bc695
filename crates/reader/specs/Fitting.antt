-- What the numbers of a stage have to leave room for where data comes next.
use Rattle.std.specs.Prelude.{ℕ, ◌+◌, ◌≤◌, ◌<◌}
use Rattle.rules_tablet.specs.Limits.{max_size}
use Rattle.rules_tablet.specs.declared.Stage.{Stage}
use Rattle.rules_tablet.specs.declared.Stage.TheVariants.{Status, Fields, Plain, Skip, Preamble, PreambleEnd, FirstDelimiter, Delimiter, AfterFirstDelimiter}
use Rattle.rules_tablet.specs.declared.Stage.TheVariants.{AfterDelimiter, PartBegin, Closing, PartLine, Data, Epilogue, Finished, Refused}

-- data comes next, and what is still to come of it lies in a copy of n bytes
abbrev pub Fitting : Stage → ℕ → ℕ → Type 0
Fitting Status after n = ⊥
Fitting Fields after n = ⊥
Fitting (Plain next) after n = (next + after < n) × (after < max_size)
Fitting Skip after n = ⊥
Fitting (Preamble k) after n = ⊥
Fitting (PreambleEnd k) after n = ⊥
Fitting (FirstDelimiter i) after n = ⊥
Fitting (Delimiter i) after n = ⊥
Fitting AfterFirstDelimiter after n = ⊥
Fitting AfterDelimiter after n = ⊥
Fitting PartBegin after n = ⊥
Fitting Closing after n = ⊥
Fitting PartLine after n = ⊥
Fitting (Data next left) after n = (1 ≤ left) × (next + left ≤ n) × (left ≤ after) × (after < max_size)
Fitting Epilogue after n = ⊥
Fitting Finished after n = ⊥
Fitting (Refused k) after n = ⊥
