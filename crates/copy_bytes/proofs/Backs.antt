-- A list of runs is read back as the copy that it was written of. Assumes nothing.
use Prim.Native.Nat.{ℕ, zero, suc, ◌+◌, ◌-◌, ◌≤◌, ◌<◌}
use mathlib.Core.Path.{◌≡◌, refl, sym, ap, ap₂, ◌∙◌}
use mathlib.Core.List.{List, [], ◌∷◌, ◌++◌, append_assoc}
use native.Mathlib.Omega.{arith}
use lib.ListN.{length, drop, replicate, length-append}
use lib.Seq.{length-take-le, take_at, drop_at}
use Rattle.rules_server.specs.Limits.{max_file, max_tag}
use Rattle.rules_server.specs.Numbers.{value_of}
use Rattle.laws_numerals.proofs.Bytes.{value_back}
use Rattle.rules_server.specs.declared.Run.{Run}
use Rattle.rules_tablet.specs.Limits.{max_runs}
use Rattle.rules_tablet.specs.Runs.{WellFormed, run}
use Rattle.rules_tablet.specs.Copies.{tag_of, runs_of}
use Rattle.copy.proofs.Laws.{rule_kept}
use Rattle.copy_bytes.specs.Lists.{number_at, eight, run_from, runs_from, runs_bytes, list_bytes, ReadsBack}
use Rattle.copy_bytes.proofs.units.Laws.{number_there}
use Rattle.copy_bytes.proofs.Lists.{eight_long, number-behind, filled_bytes, array_of, list_of}

-- a number is read back from its eight bytes
pub number_back : (n : ℕ) (l : List ℕ) → n < 18446744073709551616 → number_at (eight n ++ l) 0 ≡ n
number_back n l h =
    let long = length-append (eight n) l in
    number_there (eight n ++ l) 0 (omega (arith, long, eight_long n)) ∙ ap value_of (take_at (eight n) l 8 (eight_long n)) ∙ value_back 8 n h

-- numbers of eight bytes
abbrev Small : List Run → Type 0
Small [] = Unit {0}
Small (r ∷ rs) = (r.first < 18446744073709551616) × (r.last < 18446744073709551616) × Small rs

-- runs of a file are such
small_formed : (lo n : ℕ) (rs : List Run) → n ≤ max_file → WellFormed lo n rs → Small rs
small_formed lo n [] h w = tt
small_formed lo n (r ∷ rs) h w = (omega arith, omega arith, small_formed (suc (suc r.last)) n rs h w.3)

-- and zeros
small-blank : (rs : List Run) (k : ℕ) → Small rs → Small (rs ++ replicate k (run 0 0))
small-blank [] zero s = tt
small-blank [] (suc k) s = (omega arith, omega arith, small-blank [] k tt)
small-blank (r ∷ rs) k s = (s.0, s.1, small-blank rs k s.2)

-- a run at the front of bytes
run_back : (r : Run) (l : List ℕ) → r.first < 18446744073709551616 → r.last < 18446744073709551616 → run_from ((eight r.first ++ eight r.last) ++ l) ≡ r
run_back r l f g =
    let front = append_assoc (eight r.first) (eight r.last) l in
    let behind : drop 8 ((eight r.first ++ eight r.last) ++ l) ≡ eight r.last ++ l = ap (drop 8) front
    ∙ drop_at (eight r.first) (eight r.last ++ l) 8 (eight_long r.first) in
    let bytes = (eight r.first ++ eight r.last) ++ l in
    let second : number_at bytes 8 ≡ number_at (eight r.last ++ l) 0 = number-behind bytes 8 0 ∙ ap (λ (t : List ℕ). number_at t 0) behind in
    ap₂ run (ap (λ (t : List ℕ). number_at t 0) front ∙ number_back r.first _ f) (second ∙ number_back r.last l g)

-- runs are read back from their bytes
runs_back : (rs : List Run) → Small rs → runs_from (length rs) (runs_bytes rs) ≡ rs
unfolding runs_from
runs_back [] s = refl
runs_back (r ∷ rs) s =
    let bytes = eight r.first ++ eight r.last in
    let size : length bytes ≡ 16 = length-append (eight r.first) (eight r.last) ∙ ap₂ ◌+◌ (eight_long r.first) (eight_long r.last) in
    ap₂ ◌∷◌ (run_back r (runs_bytes rs) s.0 s.1) (ap (runs_from (length rs)) (drop_at bytes (runs_bytes rs) 16 size) ∙ runs_back rs s.2)

pub reads_back : ReadsBack
reads_back c tags full rule =
    let k = rule_kept c rule in
    let list = list_of c rule full in
    let rest : drop 8 (list_bytes (runs_of c)) ≡ runs_bytes c.runs = ap (drop 8) (sym list)
    ∙ drop_at (eight c.count) (runs_bytes c.runs) 8 (eight_long c.count) in
    let small : Small c.runs = rw (sym (array_of c rule full)) at
    (small-blank (runs_of c) (max_runs - c.count) (small_formed 0 c.length (runs_of c) k.below k.formed)) in
    let count : number_at (list_bytes (runs_of c)) 0 ≡ c.count = ap (λ (t : List ℕ). number_at t 0) (sym list) ∙ number_back c.count _ (omega arith) in
    let runs : runs_from max_runs (drop 8 (list_bytes (runs_of c))) ≡ c.runs = ap (runs_from max_runs) rest
    ∙ ap (λ (m : ℕ). runs_from m (runs_bytes c.runs)) (sym full)
    ∙ runs_back c.runs small in
    let size : length (tag_of c) ≡ c.tag_len = length-take-le c.tag_len c.tag (omega arith) in
    let gap : length c.tag - c.tag_len ≡ max_tag - length (tag_of c) = omega arith in
    let tag : tag_of c ++ replicate (max_tag - length (tag_of c)) 0 ≡ c.tag =
    sym (filled_bytes c.tag c.tag_len k.zeros ∙ ap (λ (m : ℕ). tag_of c ++ replicate m 0) gap) in
    λ i. record { tag = tag i; tag_len = size i; length = c.length; runs = runs i; count = count i }
