-- The first of an array's runs, by index: the loops' turns, and their ends.
-- Assumes nothing.
use Prim.Native.Nat.{ℕ, zero, suc, ◌+◌, ◌-◌, ◌≤◌, ◌<◌}
use native.Mathlib.Numerals.{add-one}
use native.Mathlib.Omega.{arith}
use mathlib.Core.Path.{◌≡◌, sym, ap, ◌∙◌}
use mathlib.Core.Bool.{true, and-eq-true_iff, ◌&&◌}
use mathlib.Core.List.{List, [], ◌∷◌, ◌++◌}
use lib.Dec.{eqb}
use lib.ListN.{length, take, drop, set, get_or, length-append, length-take, length-drop, take-append-drop, drop_of_length-le}
use lib.Seq.{take_all, take-take, drop-cons, take-suc-set, take-set-lt, drop-set-lt, get_or-take}
use Rattle.rules_server.specs.declared.Run.{Run}
use Rattle.rules_tablet.specs.Copies.{all_blank}

-- the run at i
abbrev pub at : List Run → ℕ → Run
at runs i = get_or runs i (record { first = 0; last = 0 })

-- what is left of the first n runs from i on begins with the one at i
pub rest : (runs : List Run) (n i : ℕ) → i < n → n ≤ length runs → drop i (take n runs) ≡ at runs i ∷ drop (i + 1) (take n runs)
rest runs n i hi hn =
    rw (
      add-one,
      drop-cons (take n runs) i (record { first = 0; last = 0 }) (simp length-take (omega arith)),
      get_or-take n runs i
          (record { first = 0; last = 0 }) hi,
    )

-- what is left of runs from i on begins with the one at i
pub front_next : (runs : List Run) (i : ℕ) → i < length runs → drop i runs ≡ at runs i ∷ drop (i + 1) runs
front_next runs i h = rw (add-one, drop-cons runs i (record { first = 0; last = 0 }) h)

-- nothing is left of the first n runs from n on
pub ended : (runs : List Run) (n i : ℕ) → n ≤ i → drop i (take n runs) ≡ []
ended runs n i h =
    let u : length (take n runs) ≤ i = simp length-take (omega arith) in
    drop_of_length-le (take n runs) u

-- a count beyond the array takes all of it
pub take-over : (m n : ℕ) (runs : List Run) → length runs ≡ m → m ≤ n → take m runs ≡ take n runs
take-over m n runs e h = take_all m runs (omega arith) ∙ sym (take_all n runs (omega arith))

-- and leaves nothing
pub drop-over : (m n : ℕ) (runs : List Run) → length runs ≡ m → m ≤ n → drop m runs ≡ drop n runs
drop-over m n runs e h =
    let a : length runs ≤ m = omega arith in
    let b : length runs ≤ n = omega arith in
    drop_of_length-le runs a ∙ sym (drop_of_length-le runs b)

-- the first runs of a front are those of the whole
pub front_of : (runs : List Run) (n i : ℕ) → i ≤ n → take i (take n runs) ≡ take i runs
front_of runs n i h = take-take i n runs h

-- the runs from i on are those of the first n and the others
pub split_rest : (runs : List Run) (n i : ℕ) → i ≤ n → n ≤ length runs → drop i runs ≡ drop i (take n runs) ++ drop n runs
split_rest runs zero i h u = let e : i ≡ 0 = omega arith in rw e
split_rest [] (suc n) i h u = absurd (omega arith)
split_rest (x ∷ runs) (suc n) zero h u = ap (λ (l : List Run). x ∷ l) (sym (take-append-drop n runs))
split_rest (x ∷ runs) (suc n) (suc i) h u = split_rest runs n i (omega arith) (omega arith)

-- blank places stay blank without the first of them
pub blank_rest : (r : Run) (l : List Run) → all_blank (r ∷ l) ≡ true → all_blank l ≡ true
blank_rest r l e = ((and-eq-true_iff (eqb r.first 0 && eqb r.last 0) (all_blank l)).0 e).1

-- a front and the runs behind a gap have as many as both
pub length_put : (runs : List Run) (n start next : ℕ) (r : Run) → start ≤ next → next ≤ n → n ≤ length runs
    → length (take start runs ++ r ∷ drop next (take n runs)) ≡ suc (start + (n - next))
length_put runs n start next r a b u = simp (length-append, length-take, length-drop) (omega arith)

-- a store before i does not change what is left of the first n runs from i on
pub rest_set : (runs : List Run) (j i n : ℕ) (q : Run) → j < i → i ≤ n → drop i (take n (set runs j q)) ≡ drop i (take n runs)
rest_set runs j i n q hj hi =
    let hn : j < n = omega arith in
    rw (take-set-lt, drop-set-lt)

-- a run stored at j ends the first j + 1
pub front-set : (runs : List Run) (j : ℕ) (q : Run) → j < length runs → take (j + 1) (set runs j q) ≡ take j runs ++ (q ∷ [])
front-set runs j q h = rw add-one (take-suc-set runs j q h)
