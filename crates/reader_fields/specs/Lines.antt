-- A token at the front.
use Rattle.std.specs.Prelude.{ℕ, cond, List, [], ◌∷◌}
use Rattle.rules_tablet.specs.Lines.{is_token_byte}

-- the bytes before the first that may not stand in a token
abbrev pub token_at : List ℕ → List ℕ
token_at [] = []
token_at (x ∷ l) = cond (is_token_byte x) (x ∷ token_at l) []
