-- The places of a copy's runs, one at a time, and bits gathered of numbers.
use Prim.Native.Nat.{ℕ}
use native.Mathlib.Omega.{arith}
use mathlib.Core.Path.{◌≡◌, sym, ap, ◌∙◌}
use mathlib.Core.Bool.{◌&&◌, and_assoc, and-false, and-true}
use mathlib.Core.List.{List, [], ◌∷◌}
use lib.Bits.{bit_or, or_add_and, and_le_l, and_le_r}
use Rattle.std.specs.List.{fold}
use lib.Dec.{eqb}
use borrow.Author.Tests.{eq-eqb, ne_eqb}
use Rattle.rules_server.specs.declared.Run.{Run}
use Rattle.rules_tablet.specs.Copies.{all_blank}
use Rattle.laws_runs.proofs.Lies.{equal_or}

-- two numbers have no bit exactly where both are 0
or_zero : (a b : ℕ) → eqb (bit_or a b) 0 ≡ (eqb a 0 && eqb b 0)
or_zero a b =
    equal_or a 0
    (λ e. equal_or b 0
    (λ f. rw (eq-eqb a 0 e, eq-eqb b 0 f) (eq-eqb (bit_or a b) 0 (omega (arith, or_add_and a b))))
    (λ f. rw (ne_eqb b 0 f, and-false) (ne_eqb (bit_or a b) 0 (λ g. omega (arith, f, or_add_and a b, and_le_l a b)))))
    (λ e. rw (ne_eqb a 0 e) (ne_eqb (bit_or a b) 0 (λ g. omega (arith, e, or_add_and a b, and_le_r a b))))

-- the bits gathered of runs, behind those of `set`
pub gathered : (set : ℕ) (runs : List Run) → eqb (fold (λ (s : ℕ) (r : Run). bit_or (bit_or s r.first) r.last) set runs) 0 ≡ (eqb set 0 && all_blank runs)
gathered set [] = rw and-true
gathered set (r ∷ runs) =
    gathered (bit_or (bit_or set r.first) r.last) runs
    ∙ rw (or_zero (bit_or set r.first) r.last, or_zero set r.first)
    (and_assoc (eqb set 0 && eqb r.first 0) (eqb r.last 0) (all_blank runs) ∙ and_assoc (eqb set 0) (eqb r.first 0) (eqb r.last 0 && all_blank runs)
    ∙ ap (λ b. eqb set 0 && b) (sym (and_assoc (eqb r.first 0) (eqb r.last 0) (all_blank runs))))
