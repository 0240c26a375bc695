-- What the array of a printed number means.
use Rattle.std.specs.Prelude.{ℕ, List, drop}
use Rattle.numerals.specs.declared.printing.Digits.{Digits}

-- the digits stand at the end of the array; what stands before them no definition fixes
abbrev pub shown : Digits → List ℕ
shown d = drop d.start d.bytes
