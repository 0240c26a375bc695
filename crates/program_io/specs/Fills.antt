-- Bytes that are all the same.
use Rattle.std.specs.Prelude.{ℕ, Bool, List, eqb}
use Rattle.rules_server.specs.Octets.{all}

-- every byte is b
abbrev pub every : ℕ → List ℕ → Bool
every b v = all (λ x. eqb x b) v
