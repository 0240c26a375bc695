-- Runs of positions, added to a set one after the other by an answer's cells: where they are holes of the set, and where there is room for them all.
use Prim.Native.Nat.{ℕ, zero, suc, ◌+◌, ◌-◌, ◌≤◌, ◌<◌}
use native.Mathlib.Omega.{arith}
use mathlib.Core.Path.{◌≡◌, refl, sym, ◌∙◌, ap}
use mathlib.Core.Bool.{Bool, true, ◌||◌, or_assoc, or_comm}
use mathlib.Core.List.{List, [], ◌∷◌}
use lib.ListN.{length}
use borrow.Author.Tests.{le-leb, lt-ltb}
use Rattle.rules_server.specs.Texts.{crlf}
use Rattle.rules_server.specs.Status.{Resource}
use Rattle.rules_server.specs.Answers.{Cell, head_then, own_then, from_then, data_of, part_head, closing, multipart_body, plain_answer, multipart_answer, partial_answer}
use Rattle.rules_server.specs.Answers.{ok_answer}
use Rattle.rules_server.specs.declared.Run.{Run}
use Rattle.rules_tablet.specs.Runs.{lies, member, WellFormed, maximal_runs}
use Rattle.rules_demands.specs.Positions.{Each}
use Rattle.laws_server.proofs.Runs.{each_map}
use Rattle.laws_server.proofs.Cells.{length_data}
use Rattle.laws_runs.proofs.Lies.{below_or, lies_in_lem}
use Rattle.rules_demands.specs.Demand3Arrivals.{Set, flat, arrive}
use Rattle.laws_reader.proofs.storing.Arrive.{scan_held}
use Rattle.laws_exchange.proofs.completion.Spans.{with_span, span_grows, span_held, run-held, runs-next, runs-before, runs-whole, runs_more, span_more}
use Rattle.laws_exchange.proofs.completion.Spans.{arrive_own, arrive_span}

-- the set with the positions of runs
abbrev pub with-runs : List Run → Set → Set
with-runs [] set = set
with-runs (r ∷ rs) set = with-runs rs (with_span r.first (suc r.last - r.first) set)

-- just these positions are added
pub runs-held : (lo n q : ℕ) (rs : List Run) (set : Set) → WellFormed lo n rs → q < n → with-runs rs set q ≡ (member q rs || set q)
runs-held lo n q [] set w l = refl
runs-held lo n q (r ∷ rs) set w l =
    runs-held _ n q rs (with_span r.first (suc r.last - r.first) set) w.3 l
    ∙ ap (λ (b : Bool). member q rs || b) (run-held n q r set w.1 w.2 l)
    ∙ sym (or_assoc (member q rs) (lies q r) (set q))
    ∙ ap (λ (b : Bool). b || set q) (or_comm (member q rs) (lies q r))

-- the positions next to a run, before it and behind it, are in the set
pub record Edged (n : ℕ) (set : Set) (r : Run) : Type 0 where
  pub before : (p : ℕ) → suc p ≡ r.first → set p ≡ true
  pub behind : suc r.last < n → set (suc r.last) ≡ true

-- so they are in a set with more positions
edged_grows : (n p k : ℕ) (set : Set) (rs : List Run) → Each (Edged n set) rs → Each (Edged n (with_span p k set)) rs
edged_grows n p k set rs h =
    each_map rs
    (λ r e. record {
      before = λ q f. span_grows p k q set (e.before q f);
      behind = λ l. span_grows p k (suc r.last) set (e.behind l);
    }) h

-- a run between positions of the set leaves the number of runs within a bound, of at least one run
fill_count : (most n a b : ℕ) (set : Set) → a ≤ b → b < n → ((p : ℕ) → suc p ≡ a → set p ≡ true) → (suc b < n → set (suc b) ≡ true)
    → 1 ≤ most → length (maximal_runs n set) ≤ most → length (maximal_runs n (with_span a (suc b - a) set)) ≤ most
fill_count most n zero b set o u before behind one few =
    below_or (suc b) n
    (λ l. let e : 0 + (suc b - 0) ≡ suc b = omega arith in omega (arith, runs-before n 0 (suc b - 0) set (omega arith) (rw e (behind l))))
    (λ l. omega (
      arith,
      runs-whole n (with_span 0 (suc b - 0) set)
          (λ p h. run-held n p (record { first = 0; last = b }) set o u h ∙ rw (lies_in_lem p (record { first = 0; last = b }) (omega arith) (omega arith))),
    ))
fill_count most n (suc a) b set o u before behind one few = omega (arith, runs-next n a (suc b - suc a) set (omega arith) (before a refl))

-- each of the runs finds fewer runs than the limit, as those before it left them
abbrev pub Fits : ℕ → ℕ → List Run → Set → Type 0
Fits lim n [] set = Unit {0}
Fits lim n (r ∷ rs) set = (length (maximal_runs n set) < lim) × Fits lim n rs (with_span r.first (suc r.last - r.first) set)

-- so it is for runs between positions of a set with fewer runs than a limit of at least two, and these leave fewer than the limit again
pub edged_fits : (lim lo n : ℕ) (rs : List Run) (set : Set) → 2 ≤ lim → WellFormed lo n rs → Each (Edged n set) rs → length (maximal_runs n set) ≤ lim - 1
    → Fits lim n rs set × (length (maximal_runs n (with-runs rs set)) ≤ lim - 1)
edged_fits lim lo n [] set two w e few = (tt, few)
edged_fits lim lo n (r ∷ rs) set two w e few =
    let k = suc r.last - r.first in
    let filled = fill_count (lim - 1) n r.first r.last set w.1 w.2 e.0.before e.0.behind (omega arith) few in
    let ih = edged_fits lim _ n rs (with_span r.first k set) two w.3 (edged_grows n r.first k set rs e.1) filled in
    ((omega arith, ih.0), ih.1)

-- and for runs that are no more than the limit together with those of the set
pub few_fits : (lim lo n : ℕ) (rs : List Run) (set : Set) → WellFormed lo n rs → length (maximal_runs n set) + length rs ≤ lim → Fits lim n rs set
few_fits lim lo n [] set w few = tt
few_fits lim lo n (r ∷ rs) set w few =
    let k = suc r.last - r.first in
    let more = span_more n r.first k set (omega arith) in
    (omega arith, few_fits lim _ n rs (with_span r.first k set) w.3 (omega arith))

-- the cells of a 206 add the positions of its parts, where each part finds fewer runs than the limit
module _ (lim : ℕ) (f : Resource) where
  -- the data of a run
  arrive_data : (r : Run) (rest : List Cell) (set : Set) → r.first ≤ r.last → r.last < length f.file
      → length (maximal_runs (length f.file) set) < lim
      → arrive lim (length f.file) (from_then r.first (data_of f.file r) rest) set ≡ arrive lim (length f.file) rest
      (with_span r.first (suc r.last - r.first) set)
  arrive_data r rest set o u few =
      let n = length f.file in
      let size = length_data f.file r (record { ordered = o; inside = u }) in
      let k : length (data_of f.file r) ≡ suc r.last - r.first = omega arith in
      let more = runs_more n r.first set (omega arith) in
      arrive_span lim n r.first (data_of f.file r) rest set (omega arith) (omega arith) ∙ rw k

  -- a multipart body
  arrive_body : (lo : ℕ) (rs : List Run) (set : Set) → WellFormed lo (length f.file) rs → Fits lim (length f.file) rs set
      → arrive lim (length f.file) (multipart_body f rs) set ≡ with-runs rs set
  arrive_body lo [] set w h = arrive_own lim (length f.file) (closing f.boundary) [] set
  arrive_body lo (r ∷ rs) set w h =
      let n = length f.file in
      let k = suc r.last - r.first in
      let rest = own_then crlf (multipart_body f rs) in
      arrive_own lim n (part_head f.boundary f.media n r) (from_then r.first (data_of f.file r) rest) set
      ∙ arrive_data r rest set w.1 w.2 h.0
      ∙ arrive_own lim n crlf (multipart_body f rs) (with_span r.first k set)
      ∙ arrive_body _ rs (with_span r.first k set) w.3 h.1

  -- a 206's body, plain or not
  arrive-partial : (lo : ℕ) (rs : List Run) (set : Set) → WellFormed lo (length f.file) rs → Fits lim (length f.file) rs set
      → arrive lim (length f.file) (partial_answer f rs).body set ≡ with-runs rs set
  unfolding plain_answer multipart_answer
  arrive-partial lo [] set w h = arrive_body lo [] set w h
  arrive-partial lo (r ∷ []) set w h = arrive_data r [] set w.1 w.2 h.0
  arrive-partial lo (r ∷ s ∷ rs) set w h = arrive_body lo (r ∷ s ∷ rs) set w h

  -- a whole 206
  pub arrive-flat : (lo : ℕ) (rs : List Run) (set : Set) → WellFormed lo (length f.file) rs → Fits lim (length f.file) rs set
      → arrive lim (length f.file) (flat (partial_answer f rs)) set ≡ with-runs rs set
  unfolding flat
  arrive-flat lo rs set w h =
      arrive_own lim (length f.file) (head_then (partial_answer f rs) []) (partial_answer f rs).body set ∙ arrive-partial lo rs set w h

-- the whole file adds every position to a set within the limit that has the first
pub arrive_file : (lim : ℕ) (f : Resource) (set : Set) (p : ℕ) → length (maximal_runs (length f.file) set) ≤ lim → set 0 ≡ true → p < length f.file
    → arrive lim (length f.file) (flat (ok_answer f (from_then 0 f.file []))) set p ≡ true
unfolding flat ok_answer
arrive_file lim f set p few first l =
    let n = length f.file in
    let a = ok_answer f (from_then 0 f.file []) in
    ap (λ (x : Set). x p) (arrive_own lim n (head_then a []) a.body set
    ∙ arrive_span lim n 0 f.file [] set (omega arith) (rw (scan_held n 0 set first) few))
    ∙ span_held n 0 n p set (omega arith) l
    ∙ rw (le-leb 0 p (omega arith), lt-ltb p (0 + n) (omega arith))
