-- Laws of the runs of a saved file, read one after the other. Assumes nothing.
use Prim.Native.Nat.{ℕ, zero, suc, ◌+◌, ◌*◌, ◌-◌, ◌≤◌, ◌<◌}
use mathlib.Core.Path.{◌≡◌, refl, sym, ap, ap₂, ◌∙◌}
use mathlib.Core.Bool.{Bool, true, false, ◌&&◌}
use mathlib.Core.List.{List, [], ◌∷◌, ◌++◌}
use native.Mathlib.Numerals.{add-one}
use native.Mathlib.Omega.{arith}
use lib.Dec.{leb, ltb}
use lib.ListN.{length, take, drop, set, replicate, length-set, length-replicate, length-drop, take-append-drop}
use lib.Seq.{drop-drop, drop-set-lt, length-take-le, take-nil, take-suc-set, take-take}
use borrow.Author.Tests.{lt-ltb, le-ltb, ltb-true}
use Rattle.rules_server.specs.Numbers.{value_of}
use Rattle.rules_server.specs.declared.Run.{Run}
use Rattle.rules_tablet.specs.Limits.{max_runs}
use Rattle.rules_tablet.specs.Runs.{run}
use Rattle.rules_tablet.specs.SavedCopies.{draft, run_unit, run_of, run_fault, unit_refusal, units, read_units}
use Rattle.octets.specs.Numbers.{number_at}
use Rattle.std.proofs.Common.{Ok, Err}
use Rattle.copy_bytes.specs.Lists.{run_from}
use Rattle.copy_bytes.specs.SavedFiles.{awaiting, RunUnitsSay}
use Rattle.copy_bytes.proofs.units.Laws.{unit_whole, whole_unit, step, step_none, stop, number_there}

-- ---- one run

-- a part of a front
drop-take : (m n k : ℕ) (l : List ℕ) → k ≡ m + n → drop m (take k l) ≡ take n (drop m l)
drop-take zero n k l e = let same : k ≡ n = omega arith in ap (λ (j : ℕ). take j l) same
drop-take (suc m) n k [] e = ap (drop (suc m)) (take-nil k) ∙ sym (take-nil n)
drop-take (suc m) n zero (b ∷ l) e = absurd (omega arith)
drop-take (suc m) n (suc k) (b ∷ l) e = drop-take m n k l (omega arith)

-- the run that sixteen bytes are
run_there : (l : List ℕ) → 16 ≤ length l → run_from l ≡ run_of (take 16 l)
run_there l h =
    let first : number_at l 0 ≡ value_of (take 8 (take 16 l)) = number_there l 0 (omega arith) ∙ ap value_of (sym (take-take 8 16 l (omega arith))) in
    let last : number_at l 8 ≡ value_of (drop 8 (take 16 l)) = number_there l 8 (omega arith) ∙ ap value_of (sym (drop-take 8 8 16 l (omega arith))) in
    ap₂ run first last

-- what is wrong with a whole run
pub run_unit_lem : (next n : ℕ) (l : List ℕ) (r : Run) → 16 ≤ length l → r ≡ run_from l → unit_refusal (awaiting next n) run_unit l ≡ run_fault (awaiting next n) r
run_unit_lem next n l r h e = unit_whole (awaiting next n) run_unit l h ∙ ap (run_fault (awaiting next n)) (sym (e ∙ run_there l h))

-- it follows the run before it, or not; it ends before n, or not
module _ (next n : ℕ) (l : List ℕ) (r : Run) (h : 16 ≤ length l) (e : r ≡ run_from l) where
  pub no_fault : (leb r.first r.last && leb next r.first) ≡ true → r.last < n → 0 ≡ unit_refusal (awaiting next n) run_unit l
  no_fault t f = sym (run_unit_lem next n l r h e ∙ rw (t, lt-ltb r.last n f) refl)

  pub far_fault : (leb r.first r.last && leb next r.first) ≡ true → n ≤ r.last → 28 ≡ unit_refusal (awaiting next n) run_unit l
  far_fault t f = sym (run_unit_lem next n l r h e ∙ rw (t, le-ltb r.last n f) refl)

  pub order_fault : (leb r.first r.last && leb next r.first) ≡ false → 27 ≡ unit_refusal (awaiting next n) run_unit l
  order_fault t = sym (run_unit_lem next n l r h e ∙ rw t refl)

-- a run with no fault ends before n
fault_below : (next n : ℕ) (r : Run) → run_fault (awaiting next n) r ≡ 0 → r.last < n
fault_below next n r e = go (leb r.first r.last && leb next r.first) (ltb r.last n) refl refl
  where
    go : (a b : Bool) → (leb r.first r.last && leb next r.first) ≡ a → ltb r.last n ≡ b → r.last < n
    go a true p q = ltb-true r.last n q
    go true false p q = let z : ◌≡◌ {A = ℕ} (run_fault (awaiting next n) r) 28 = rw (p, q) refl in absurd (omega (arith, sym z ∙ e))
    go false false p q = let z : ◌≡◌ {A = ℕ} (run_fault (awaiting next n) r) 27 = rw p refl in absurd (omega (arith, sym z ∙ e))

-- ---- the runs read so far

-- i runs are read into the array, the others blank; the next may begin at `next`
pub record RunsSoFar (n count : ℕ) (rest : List ℕ) (runs : List Run) (next i : ℕ) : Type 0 where
  pub within : i ≤ count
  pub few : count ≤ max_runs
  pub sized : length runs ≡ max_runs
  pub blank : drop i runs ≡ replicate (max_runs - i) (run 0 0)
  pub whole : 16 * i ≤ length rest
  pub goes : (v k : ℕ) (tag : List ℕ) (m : ℕ)
      → read_units (replicate count run_unit) (draft v k tag n m [] 0) rest
      ≡ read_units (replicate (count - i) run_unit) (draft v k tag n m (take i runs) next) (drop (16 * i) rest)

pub none_read : (n count : ℕ) (rest : List ℕ) → count ≤ max_runs → RunsSoFar n count rest (replicate max_runs (run 0 0)) 0 0
none_read n count rest h = record {
  within = omega arith;
  few = h;
  sized = length-replicate max_runs (run 0 0);
  blank = refl;
  whole = omega arith;
  goes = λ v k tag m.
      let z : count ≡ count - 0 = omega arith in
      ap (λ (j : ℕ). read_units (replicate j run_unit) (draft v k tag n m [] 0) rest) z;
}

module _ (n count : ℕ) (rest : List ℕ) (runs : List Run) (next i : ℕ) (s : RunsSoFar n count rest runs next i) where
  -- one run is still to come
  one_more : i < count → (v k : ℕ) (tag : List ℕ) (m : ℕ)
      → read_units (replicate (count - i) run_unit) (draft v k tag n m (take i runs) next) (drop (16 * i) rest)
      ≡ read_units (run_unit ∷ replicate (count - (i + 1)) run_unit) (draft v k tag n m (take i runs) next) (drop (16 * i) rest)
  one_more h v k tag m =
      let e : count - i ≡ suc (count - (i + 1)) = omega arith in
      ap (λ (j : ℕ). read_units (replicate j run_unit) (draft v k tag n m (take i runs) next) (drop (16 * i) rest)) e

  -- it is refused
  pub run-refused : (r : ℕ) → i < count → r ≡ unit_refusal (awaiting next n) run_unit (drop (16 * i) rest) → (r ≡ 0 → ⊥)
      → RunUnitsSay n count rest (Err r)
  run-refused r h e z = λ v k tag m.
      s.goes v k tag m ∙ one_more h v k tag m
      ∙ stop run_unit (replicate (count - (i + 1)) run_unit) (draft v k tag n m (take i runs) next) (drop (16 * i) rest) r e z

  -- it is right
  module _ (h : i < count) (e : unit_refusal (awaiting next n) run_unit (drop (16 * i) rest) ≡ 0) where
    sixteen : 16 ≤ length (drop (16 * i) rest)
    sixteen = whole_unit (awaiting next n) run_unit (drop (16 * i) rest) e

    pub run_below : (r : Run) → r ≡ run_from (drop (16 * i) rest) → r.last < n
    run_below r f = fault_below next n r (sym (run_unit_lem next n (drop (16 * i) rest) r sixteen f) ∙ e)

    pub run_read : (r : Run) → r ≡ run_from (drop (16 * i) rest) → RunsSoFar n count rest (set runs i r) (r.last + 2) (i + 1)
    run_read r f =
        let w = length-drop (16 * i) rest in
        let room : i < max_runs = omega (arith, h, s.few) in
        let front : take i runs ++ (r ∷ []) ≡ take (i + 1) (set runs i r) = sym (rw add-one (take-suc-set runs i r (omega (arith, room, s.sized)))) in
        let left : drop (i + 1) (set runs i r) ≡ drop (i + 1) runs = drop-set-lt (i + 1) runs i r (omega arith) in
        let blanks : drop 1 (drop i runs) ≡ replicate (max_runs - (i + 1)) (run 0 0) =
        ap (drop 1) s.blank ∙ ap (λ (j : ℕ). drop 1 (replicate j (run 0 0))) (more room) in
        let behind : drop 16 (drop (16 * i) rest) ≡ drop (16 * (i + 1)) rest =
        drop-drop 16 (16 * i) rest ∙ ap (λ (j : ℕ). drop j rest) (scaled i) in
        let is : run_of (take 16 (drop (16 * i) rest)) ≡ r = sym (f ∙ run_there (drop (16 * i) rest) sixteen) in
        record {
          within = omega arith;
          few = s.few;
          sized = length-set runs i r ∙ s.sized;
          blank = left ∙ sym (drop-drop 1 i runs) ∙ blanks;
          whole = omega (arith, sixteen, w, s.whole);
          goes = λ v k tag m.
              s.goes v k tag m ∙ one_more h v k tag m
              ∙ step run_unit (replicate (count - (i + 1)) run_unit) (draft v k tag n m (take i runs) next) (drop (16 * i) rest) e
              ∙ ap₂ (λ (q : Run) (t : List ℕ). read_units (replicate (count - (i + 1)) run_unit)
              (draft v k tag n m (take i runs ++ (q ∷ [])) (suc (suc q.last))) t) is behind
              ∙ ap₂ (λ (rs : List Run) (x : ℕ). read_units (replicate (count - (i + 1)) run_unit) (draft v k tag n m rs x) (drop (16 * (i + 1)) rest)) front
              (two r.last);
        }
      where
        more : i < max_runs → max_runs - i ≡ suc (max_runs - (i + 1))
        more h = omega arith

        scaled : (i : ℕ) → 16 * i + 16 ≡ 16 * (i + 1)
        scaled i = omega arith

        two : (x : ℕ) → suc (suc x) ≡ x + 2
        two x = omega arith

  -- all are read
  pub runs-said : count ≤ i → RunUnitsSay n count rest (Ok runs)
  runs-said h =
      let all : i ≡ count = omega (arith, h, s.within) in
      let gone : count - i ≡ 0 = omega arith in
      record {
        blank = sym (take-append-drop count runs) ∙ ap (λ (t : List Run). take count runs ++ t)
            (ap (λ (j : ℕ). drop j runs) (sym all) ∙ s.blank ∙ ap (λ (j : ℕ). replicate (max_runs - j) (run 0 0)) all);
        counted = length-take-le count runs (omega (arith, s.few, s.sized));
        whole = omega (arith, all, s.whole);
        next = next;
        goes = λ v k tag m.
            s.goes v k tag m ∙ ap (λ (j : ℕ). read_units (replicate j run_unit) (draft v k tag n m (take i runs) next) (drop (16 * i) rest)) gone
            ∙ step_none (draft v k tag n m (take i runs) next) (drop (16 * i) rest)
            ∙ ap (λ (j : ℕ). units (draft v k tag n m (take j runs) next) (drop (16 * j) rest)) all;
      }
