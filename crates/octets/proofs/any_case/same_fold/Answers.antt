-- The bytes in lower case by std's word and by the documents' are the same.
use Rattle.std.proofs.Common.{◌≡◌, ℕ, List, [], ◌∷◌, map, arith, rules, refl}
use Rattle.std.specs.Char.{to_ascii_lowercase}
use Rattle.std.proofs.lemmas.Slice.Eq.{compares_Decides}
use Rattle.std.proofs.lemmas.Bool.Decides.{same_from_decides, nat_tests}
use Rattle.rules_server.specs.Octets.{lower, same}
use Rattle.octets.proofs.any_case.same_fold.Goals as goal

lowered : (b : ℕ) → lower b ≡ to_ascii_lowercase b
lowered b = grind (arith, nat_tests)

all_lowered : (l : List ℕ) → map lower l ≡ map to_ascii_lowercase l
all_lowered [] = refl
all_lowered (b ∷ l) = rw (lowered b, all_lowered l)

pub returns : goal.returns
returns c =
    rw (all_lowered c.args.a.now, all_lowered c.args.b.now)
    (same_from_decides _ _ c.eq_ignore_ascii_case.ensures.test (compares_Decides same (search rules) _ _))
