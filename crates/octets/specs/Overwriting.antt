-- Bytes put over others from a place on, where they fit.
use Rattle.std.specs.Prelude.{ℕ, ◌+◌, cond, List, leb, length}
use Rattle.std.proofs.lemmas.List.Edits.{sets}

abbrev pub overwritten : List ℕ → ℕ → List ℕ → List ℕ
overwritten part start src = cond (leb (start + length src) (length part)) (sets part start src) part
