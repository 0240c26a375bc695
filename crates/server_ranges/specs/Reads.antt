-- What the spec reading of the code gives, with the places of its numerals, and what that means.
use Rattle.std.specs.Prelude.{ℕ, zero, suc, ◌+◌, cond, List, eqb, length, drop, get_or, Option, None, Some}
use Rattle.rules_server.specs.Octets.{dash}
use Rattle.rules_server.specs.Ranges.{SpecFront, no_spec, spec_then, digits, meaning}
use Rattle.rules_server.specs.declared.Spec.{Spec}
use Rattle.rules_server.specs.declared.Spec.TheVariants.{FirstLast, From, Suffix}

-- the spec whose `-` stands at place, behind k digits and before j, and the place behind it
abbrev pub read_between : ℕ → ℕ → ℕ → Option (Spec × ℕ)
read_between place zero zero = None
read_between place zero (suc j) = Some (Suffix (record { start = place + 1; len = suc j }), place + 1 + suc j)
read_between place (suc k) zero = Some (From (record { start = 0; len = suc k }), place + 1)
read_between place (suc k) (suc j) = Some (FirstLast (record { start = 0; len = suc k }) (record { start = place + 1; len = suc j }), place + 1 + suc j)

-- the spec that the text m begins with
unfoldable pub read_text : List ℕ → Option (Spec × ℕ)
read_text m =
    cond (eqb (get_or m (length (digits m)) 0) dash)
    (read_between (length (digits m)) (length (digits m)) (length (digits (drop (suc (length (digits m))) m))))
    None

-- the same as document 01's reading has it: the exact numbers, and what stands behind the spec
abbrev pub read_meaning : List ℕ → Option (Spec × ℕ) → SpecFront
read_meaning m None = no_spec
read_meaning m (Some (s, next)) = spec_then (meaning m s) (drop next m)
