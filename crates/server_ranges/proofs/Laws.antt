-- Laws of reading a spec: what the code's places mean.
use Prim.Native.Nat.{ℕ, zero, suc, ◌+◌}
use Rattle.std.specs.Prelude.{None, Some}
use mathlib.Core.Path.{◌≡◌, refl, sym, ap, ◌∙◌}
use mathlib.Core.Bool.{true, false, cond}
use mathlib.Core.List.{List, [], ◌∷◌}
use native.Mathlib.Nat.{add-zero}
use native.Mathlib.Numerals.{add-one}
use borrow.Author.Tests.{eq-eqb, ne_eqb}
use lib.Dec.{eqb}
use lib.ListN.{length, take, drop, get_or}
use lib.Seq.{drop-drop, get_or-drop}
use Rattle.rules_server.specs.Numerals.{decimal}
use Rattle.rules_server.specs.Ranges.{span, onward, suffix, no_spec, spec_then, digits, after_digits, spec_of, spec_from, spec_at}
use Rattle.rules_server.specs.declared.Spec.TheVariants.{FirstLast, From, Suffix}
use Rattle.server_ranges.specs.Reads.{read_between, read_text, read_meaning}
use Rattle.numerals.proofs.counts.Laws.{digits-take, digits-drop}

-- what stands at k is what the rest from k on begins with
pub get_d_front : (l : List ℕ) (k : ℕ) → get_or l k 0 ≡ get_or (drop k l) 0 0
get_d_front l k = sym (get_or-drop k l 0 0 ∙ ap (λ i. get_or l i 0) (add-zero k))

-- the rest behind k is the rest from k on without what it begins with
pub drop-front : (l : List ℕ) (k : ℕ) → drop (suc k) l ≡ drop 1 (drop k l)
drop-front l k = sym (drop-drop 1 k l ∙ ap (λ i. drop i l) (add-one k))

-- the text m as digits a, a `-`, digits b and a rest: the places of read_between mean what spec_of says
between_means : (m a b rest : List ℕ) → take (length a) m ≡ a → take (length b) (drop (length a + 1) m) ≡ b → drop (length a + 1 + length b) m ≡ rest
    → read_meaning m (read_between (length a) (length a) (length b)) ≡ spec_of a b rest
between_means m [] [] rest p q r = refl
between_means m [] (y ∷ b) rest p q r = λ i. spec_then (suffix (decimal (q i))) (r i)
between_means m (x ∷ a) [] rest p q r =
    let r' : drop (suc (length a) + 1) m ≡ rest = rw add-zero at r in
    λ i. spec_then (onward (decimal (p i))) (r' i)
between_means m (x ∷ a) (y ∷ b) rest p q r = λ i. spec_then (span (decimal (p i)) (decimal (q i))) (r i)

-- the same behind the digits a, by what stands there
from_means : (m a r : List ℕ) → take (length a) m ≡ a → drop (length a) m ≡ r
    → read_meaning m (cond (eqb (get_or m (length a) 0) 45) (read_between (length a) (length a) (length (digits (drop (suc (length a)) m)))) None)
    ≡ spec_from a r
from_means m a [] p q = rw (get_d_front m (length a), q)
from_means m a (x ∷ l) p q =
    let rest : drop (length a + 1) m ≡ l = sym (drop-drop 1 (length a) m) ∙ ap (drop 1) q in
    rw (get_d_front m (length a), drop-front m (length a), q)
    (elim (eqb x 45) as (λ b. read_meaning m (cond b (read_between (length a) (length a) (length (digits l))) None) ≡ cond b
    (spec_of a (digits l) (after_digits l)) no_spec) [
      | true ↦ between_means m a (digits l) (after_digits l) p (ap (take (length (digits l))) rest ∙ digits-take l)
          (sym (drop-drop (length (digits l)) (length a + 1) m) ∙ ap (drop (length (digits l))) rest ∙ digits-drop l)
      | false ↦ refl
    ])

-- what the code reads at the front of a text means what document 01 reads there
pub read_means : (m : List ℕ) → read_meaning m (read_text m) ≡ spec_at m
unfolding read_text spec_at
read_means m = from_means m (digits m) (after_digits m) (digits-take m) (digits-drop m)

-- behind the digits stands no `-`: no spec
pub read_none : (m : List ℕ) (k : ℕ) → k ≡ length (digits m) → (get_or m k 0 ≡ 45 → ⊥) → None ≡ read_text m
unfolding read_text
read_none m k e h = rw (← e, ne_eqb (get_or m k 0) 45 h)

-- behind the digits stands a `-`
pub read_dash : (m : List ℕ) (k j : ℕ) → k ≡ length (digits m) → get_or m k 0 ≡ 45 → j ≡ length (digits (drop (k + 1) m)) → read_between k k j ≡ read_text m
unfolding read_text
read_dash m k j e h d = rw (← e, eq-eqb (get_or m k 0) 45 h, ← add-one k, ← d)

-- read_between with digits behind the `-` only
pub between_suffix : (dash j : ℕ) → (j ≡ 0 → ⊥) → Some (Suffix (record { start = dash + 1; len = j }), dash + 1 + j) ≡ read_between dash 0 j
between_suffix dash zero h = absurd (h refl)
between_suffix dash (suc j) h = refl

-- digits before the `-` only
pub between_from : (dash k : ℕ) → (k ≡ 0 → ⊥) → Some (From (record { start = 0; len = k }), dash + 1 + 0) ≡ read_between dash k 0
between_from dash zero h = absurd (h refl)
between_from dash (suc k) h = rw (add-zero (dash + 1))

-- digits on both sides
pub between_both : (dash k j : ℕ) → (k ≡ 0 → ⊥) → (j ≡ 0 → ⊥)
    → Some (FirstLast (record { start = 0; len = k }) (record { start = dash + 1; len = j }), dash + 1 + j) ≡ read_between dash k j
between_both dash zero j h g = absurd (h refl)
between_both dash (suc k) zero h g = absurd (g refl)
between_both dash (suc k) (suc j) h g = refl
