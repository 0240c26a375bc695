-- A front by std's word and by the documents' is the same.
use Rattle.std.proofs.Common.{◌≡◌, ℕ, List, [], ◌∷◌, eqb, refl}
use Rattle.std.specs.List.{starts_with as begins}
use Rattle.rules_server.specs.Octets.{starts_with}

pub begins_same : (p l : List ℕ) → begins eqb l p ≡ starts_with p l
begins_same [] l = refl
begins_same (x ∷ p) [] = refl
begins_same (x ∷ p) (y ∷ l) = rw (begins_same p l)
