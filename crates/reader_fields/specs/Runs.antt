-- How many bytes at the front may stand in a line.
use Rattle.std.specs.Prelude.{ℕ, suc, cond, List, [], ◌∷◌}
use Rattle.rules_tablet.specs.Lines.{is_line_byte}

abbrev pub leading : List ℕ → ℕ
leading [] = 0
leading (b ∷ l) = cond (is_line_byte b) (suc (leading l)) 0
