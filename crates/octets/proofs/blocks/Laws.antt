-- A test of every byte: of bytes and the next, and by std's word.
use Rattle.std.proofs.Common.{◌≡◌, ℕ, Bool, ◌&&◌, List, [], ◌∷◌, ◌++◌, refl, sym}
use mathlib.Core.Bool.{and-true, and_assoc}
use Rattle.std.specs.List.{list_all}
use Rattle.rules_server.specs.Octets.{all}

pub all_snoc : (p : ℕ → Bool) (a : List ℕ) (x : ℕ) → all p (a ++ (x ∷ [])) ≡ (all p a && p x)
all_snoc p [] x = and-true (p x)
all_snoc p (y ∷ a) x = rw (all_snoc p a x) (sym (and_assoc (p y) (all p a) (p x)))

pub all_is : (p : ℕ → Bool) (a : List ℕ) → list_all p a ≡ all p a
all_is p [] = refl
all_is p (y ∷ a) = rw (all_is p a)
