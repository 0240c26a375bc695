-- Single positions two apart: their runs, the holes between them, and what our server's whole answer of just these positions leaves of a copy.
use Prim.Native.Nat.{ℕ, zero, suc, ◌+◌, ◌-◌, ◌*◌, ◌≤◌}
use native.Mathlib.Omega.{arith}
use mathlib.Core.Path.{◌≡◌, refl, sym, ◌∙◌, ap, subst}
use mathlib.Core.Bool.{Bool, true, ◌||◌, or_assoc, or_comm, or-false}
use mathlib.Core.List.{List, [], ◌∷◌}
use lib.ListN.{length, take, drop}
use Rattle.rules_server.specs.Limits.{max_file, max_specs}
use Rattle.rules_server.specs.Tags.{is_strong}
use Rattle.rules_server.specs.Status.{Request}
use Rattle.rules_server.specs.Answers.{Cell, answer, partial_answer}
use Rattle.rules_server.specs.declared.Run.{Run}
use Rattle.rules_tablet.specs.Limits.{max_runs}
use Rattle.rules_tablet.specs.Runs.{run, lies, member, WellFormed, holes_from, maximal_runs}
use Rattle.rules_demands.specs.Demand3Arrivals.{Set, flat, arrive}
use Rattle.rules_demands.specs.Demand3Sessions.{Event, delivered, ours, cells_of, Session, begun, run_events, resource_of}
use Rattle.rules_demands.specs.Demand3Limits.{SinglesFed}
use Rattle.rules_demands.specs.AnchorSamples.{singles}
use Rattle.laws_runs.proofs.Members.{head-member, unique}
use Rattle.laws_runs.proofs.Holes.{hole_cases}
use Rattle.laws_runs.proofs.Scan.{scan_formed, scan_member}
use Rattle.laws_reader.proofs.own_answers.Own.{own_tracks}
use Rattle.laws_reader.proofs.rules_kept.Demand1.{splits, fair_always, asking_always}
use Rattle.laws_exchange.proofs.calls.Answer.{Good}
use Rattle.laws_exchange.proofs.calls.One.{ours_left}
use Rattle.laws_exchange.proofs.completion.Fill.{with-runs, runs-held, few_fits, arrive-flat}
use Rattle.laws_exchange.proofs.completion.Asked.{asked_answer}
use Rattle.laws_exchange.proofs.completion.Round.{copy_small, whole_ours}

-- they are well-formed
pub singles_formed : (lo n a k : ℕ) → lo ≤ a → a + 2 * k ≤ suc n → WellFormed lo n (singles a k)
singles_formed lo n a zero l u = tt
singles_formed lo n a (suc k) l u = (l, omega arith, omega arith, singles_formed _ n (suc (suc a)) k (omega arith) (omega arith))

-- there are k of them
pub singles-count : (a k : ℕ) → length (singles a k) ≡ k
singles-count a zero = refl
singles-count a (suc k) = ap suc (singles-count (suc (suc a)) k)

-- the first of them is a member
pub singles_first : (a k : ℕ) → 1 ≤ k → member a (singles a k) ≡ true
singles_first a zero l = absurd (omega arith)
singles_first a (suc k) l = head-member a (run a a) (singles (suc (suc a)) k) (omega arith) (omega arith)

-- j and k of them, end to end, are the positions of j + k
pub singles-member : (a b j k m q : ℕ) → b ≡ a + 2 * j → m ≡ j + k → member q (singles a m) ≡ (member q (singles b k) || member q (singles a j))
singles-member a b zero k m q e f =
    let x : b ≡ a = omega arith in
    let y : m ≡ k = omega arith in
    rw (x, y) (sym (or-false (member q (singles a k))))
singles-member a b (suc j) k zero q e f = absurd (omega arith)
singles-member a b (suc j) k (suc m) q e f =
    let own = lies q (run a a) in
    let more = member q (singles b k) in
    let rest = member q (singles (suc (suc a)) j) in
    ap (λ (x : Bool). own || x) (singles-member (suc (suc a)) b j k m q (omega arith) (omega arith))
    ∙ sym (or_assoc own more rest)
    ∙ ap (λ (x : Bool). x || rest) (or_comm own more)
    ∙ or_assoc more own rest

-- before each of them is a hole of one position, and one behind the last
pub singles-holes : (n a k : ℕ) → n ≡ suc (a + 2 * k) → holes_from a n (singles (suc a) k) ≡ singles a (suc k)
singles-holes n a zero e =
    let last : n - 1 ≡ a = omega arith in
    hole_cases (λ l. l ≡ singles a 1) a n [] (λ h. ap (λ (b : ℕ). run a b ∷ []) last) (λ h. absurd (omega arith))
singles-holes n a (suc k) e =
    let last : suc a - 1 ≡ a = omega arith in
    let rest = holes_from (suc (suc a)) n (singles (suc (suc (suc a))) k) in
    hole_cases (λ l. l ≡ singles a (suc (suc k))) a (suc a) rest
    (λ h. ap (λ (b : ℕ). run a b ∷ rest) last ∙ ap (λ (l : List Run). run a a ∷ l) (singles-holes n (suc (suc a)) k (omega arith)))
    (λ h. absurd (omega arith))

-- all but the last
pub singles-front : (a k : ℕ) → take k (singles a (suc k)) ≡ singles a k
singles-front a zero = refl
singles-front a (suc k) = ap (λ (l : List Run). run a a ∷ l) (singles-front (suc (suc a)) k)

-- the last
pub singles-last : (a b k : ℕ) → b ≡ a + 2 * k → drop k (singles a (suc k)) ≡ singles b 1
singles-last a b zero e = ap (λ (c : ℕ). singles c 1) (let x : a ≡ b = omega arith in x)
singles-last a b (suc k) e = singles-last (suc (suc a)) b k (omega arith)

-- the runs of a set with the positions of well-formed runs more
runs-with : (n : ℕ) (rs ts : List Run) (set : Set) → WellFormed 0 n rs → WellFormed 0 n ts
    → ((q : ℕ) → member q ts ≡ (member q rs || member q (maximal_runs n set))) → maximal_runs n (with-runs rs set) ≡ ts
runs-with n rs ts set w v same =
    unique n (maximal_runs n (with-runs rs set)) ts (scan_formed n (with-runs rs set)) v
    (λ q l. scan_member n (with-runs rs set) q l ∙ runs-held 0 n q rs set w l ∙ ap (λ (b : Bool). member q rs || b) (sym (scan_member n set q l)) ∙ sym (same q))

-- our server's whole answer to a GET of single positions, at least one of them: just their cells arrive
pub fed_cells : (file tag : List ℕ) (a k : ℕ) (es : List Event) → is_strong tag ≡ true → length file ≤ max_file → 1 ≤ k → k ≤ max_specs
    → a + 2 * k ≤ suc (length file) → (fed : SinglesFed file tag a k es) → cells_of file tag (delivered es) (ours fed.source)
    ≡ flat (partial_answer (resource_of file tag fed.source.media fed.source.boundary fed.source.modified fed.source.reference) (singles a k))
fed_cells file tag a zero es strong small some few u fed = absurd (omega arith)
fed_cells file tag a (suc k) es strong small some few u fed =
    let o = fed.source in
    let f = resource_of file tag o.media o.boundary o.modified o.reference in
    whole_ours file tag (delivered es) o fed.whole
    ∙ ap (λ (x : Request). flat (answer x f)) fed.is_to
    ∙ ap flat (asked_answer file tag o.media o.boundary o.modified o.reference (run a a) (singles (suc (suc a)) k) strong small
    (omega (arith, singles-count a (suc k))) (singles_formed 0 (length file) a (suc k) (omega arith) u))

-- where there is room for these runs, the copy then holds just the positions that it held and these
pub singles-left : (file tag : List ℕ) (a k : ℕ) (ts : List Run) (es : List Event) (set : Set) (s : Session) → Good file tag set s → 1 ≤ k → k ≤ max_specs
    → length s.copy.runs + k ≤ max_runs → a + 2 * k ≤ suc (length file) → SinglesFed file tag a k es
    → WellFormed 0 (length file) ts → ((q : ℕ) → member q ts ≡ (member q (singles a k) || member q s.copy.runs))
    → Good file tag (with-runs (singles a k) set) (run_events es (begun s)) × ((run_events es (begun s)).copy.runs ≡ ts)
singles-left file tag a k ts es set s g some few room u fed v same =
    let n = length file in
    let o = fed.source in
    let f = resource_of file tag o.media o.boundary o.modified o.reference in
    let rs = singles a k in
    let formed = singles_formed 0 n a k (omega arith) u in
    let held = ap length g.holds.runs in
    let cells = fed_cells file tag a k es g.strong (rw (← g.of_length) (copy_small s.copy g.rule)) some few u fed in
    let arrived : arrive max_runs n (cells_of file tag (delivered es) (ours o)) set ≡ with-runs rs set =
    ap (λ (cs : List Cell). arrive max_runs n cs set) cells
    ∙ arrive-flat max_runs f 0 rs set formed (few_fits max_runs 0 n rs set formed (omega (arith, singles-count a k))) in
    let left = (ours_left own_tracks splits fair_always asking_always file tag set s es o g).0 in
    let good = subst (λ (y : Set). Good file tag y (run_events es (begun s))) arrived left.good in
    (good, good.holds.runs ∙ runs-with n rs ts set formed v (rw (← g.holds.runs) same))
