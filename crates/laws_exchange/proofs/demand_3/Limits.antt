-- Demand 3 at the limits of holes and of runs.
use Prim.Native.Nat.{ℕ, suc, ◌+◌, ◌-◌, ◌*◌, ◌≤◌, ◌<◌}
use native.Mathlib.Omega.{arith}
use mathlib.Core.Path.{◌≡◌, refl, sym, ap, subst, ◌∙◌}
use mathlib.Core.Logic.{◌↔◌, ◌⊎◌, inl, inr}
use mathlib.Core.Bool.{Bool, true, false, ◌||◌, or-false, true≢false, false≢true}
use mathlib.Core.List.{List, [], ◌∷◌}
use Rattle.std.specs.Prelude.{Option, None, Some}
use lib.ListN.{length, take, drop, length-drop}
use borrow.Author.Tests.{ltb-true, lt-ltb, le-ltb, eq-eqb}
use Rattle.rules_server.specs.Limits.{max_specs, max_tag, max_file}
use Rattle.rules_server.specs.Tags.{is_strong}
use Rattle.rules_server.specs.Answers.{Cell, from, own_then, from_then, ok_answer}
use Rattle.rules_server.specs.declared.Run.{Run}
use Rattle.rules_tablet.specs.Limits.{max_runs, max_holes}
use Rattle.rules_tablet.specs.Runs.{lies, member, WellFormed, insert, holes, maximal_runs, with}
use Rattle.rules_tablet.specs.Copies.{bad_opening, no_hole, is_complete}
use Rattle.rules_tablet.specs.Requests.{request_text, wanted}
use Rattle.rules_tablet.specs.Calls.{State, copy_ok, opened, request_lines, complete_call}
use Rattle.rules_tablet.specs.declared.Stage.TheVariants.{Refused}
use Rattle.rules_demands.specs.Demand3Arrivals.{flat, too_many, arrive, admitted}
use Rattle.rules_demands.specs.Demand3Sessions.{Event, delivered, resource_of, Ours, ours, cells_of, Session, begun, run_events}
use Rattle.rules_demands.specs.Demand3.{Start, held_at, taken_in, Round, after_round, Complete}
use Rattle.rules_demands.specs.Demand3Corollary.{opened_session}
use Rattle.rules_demands.specs.Demand3Limits.{RoundFillsAlways, Apart, TooManyExactly, SinglesFed, behind, TwoNeededAlways, FullAlways}
use Rattle.rules_demands.specs.AnchorSamples.{singles}
use Rattle.laws_runs.proofs.Members.{not-behind, head-member}
use Rattle.laws_runs.proofs.Insert.{insert_cases, insert_same, insert_count, insert_next, insert_before}
use Rattle.laws_runs.proofs.Scan.{scan_is, scan_insert}
use Rattle.laws_reader.proofs.storing.Arrive.{arrive_by, admitted_by}
use Rattle.laws_reader.proofs.own_answers.Parts.{own_length}
use Rattle.laws_reader.proofs.own_answers.Own.{own_tracks}
use Rattle.laws_reader.proofs.rules_kept.Tests.{or_right}
use Rattle.laws_reader.proofs.rules_kept.Demand1.{splits, fair_always, asking_always}
use Rattle.laws_exchange.proofs.calls.Answer.{Good, copy_facts, good_few}
use Rattle.laws_exchange.proofs.calls.One.{ours_left}
use Rattle.laws_exchange.proofs.calls.Calls.{start_good, good_start}
use Rattle.laws_exchange.proofs.completion.Spans.{arrive_own, admitted_own}
use Rattle.laws_exchange.proofs.completion.Fill.{with-runs, arrive_file}
use Rattle.laws_exchange.proofs.completion.Gaps.{holes-left}
use Rattle.laws_exchange.proofs.completion.Asked.{unranged_answer}
use Rattle.laws_exchange.proofs.completion.Round.{whole_ours, round_left, two_answers}
use Rattle.laws_exchange.proofs.completion.Singles.{singles_formed, singles-count, singles-member, singles-holes, singles-front, singles-last}
use Rattle.laws_exchange.proofs.completion.Singles.{singles_first, singles-left}
use Rattle.laws_exchange.proofs.demand_3.Demand3.{demand_3}
use Rattle.laws_exchange.proofs.demand_3.Corollary.{opening_starts}

-- complete, of a copy that meets its rule
pub complete_holes : (c : State) (n : ℕ) → copy_ok c ≡ true → c.length ≡ n → (complete_call c ≡ Some true) ↔ (no_hole (holes n c.runs) ≡ true)
unfolding complete_call is_complete
complete_holes c n rule e = ((λ h. let x = rw (rule, e) at h in cc), (λ h. rw (rule, e) (ap {B = Option Bool} Some h)))

-- no hole is left exactly when there were no more than those filled
none-left : (k : ℕ) (hs : List Run) → (no_hole (drop k hs) ≡ true) ↔ (length hs ≤ k)
none-left k hs = go (drop k hs) (length-drop k hs)
  where
    go : (l : List Run) → length l ≡ length hs - k → (no_hole l ≡ true) ↔ (length hs ≤ k)
    go [] e = ((λ x. omega arith), (λ x. refl))
    go (r ∷ l) e = ((λ x. absurd (false≢true x)), (λ x. absurd (omega arith)))

pub round_fills : RoundFillsAlways
round_fills file tag s start few r =
    let n = length file in
    let set = held_at s in
    let g = start_good file tag s start in
    let x = (round_left own_tracks splits fair_always asking_always file tag set s g (rw (← g.holds.runs) few) r).0 in
    let e = after_round file tag s r in
    let left : holes n e.copy.runs ≡ drop max_holes (holes n s.copy.runs) =
    ap (holes n) x.holds.runs ∙ holes-left n max_holes set ∙ ap (λ (rs : List Run). drop max_holes (holes n rs)) (sym g.holds.runs) in
    let is = complete_holes e.copy n x.rule x.of_length in
    let of_none = none-left max_holes (holes n s.copy.runs) in
    record {
      left = left;
      completes = (
        (λ c. of_none.0 (sym (ap no_hole left) ∙ is.0 c)),
        (λ l. is.1 (ap no_hole left ∙ of_none.1 l)),
      );
    }

-- a position apart from all runs is a run more
apart_more : (lo n p : ℕ) (rs : List Run) → WellFormed lo n rs → Apart rs p → length (insert p rs) ≡ suc (length rs)
apart_more lo n p [] h a = refl
apart_more lo n p (r ∷ rs) h a =
    insert_cases (λ l. length l ≡ suc (suc (length rs))) p r rs
    (λ e. refl)
    (λ e. absurd (true≢false (sym (head-member (suc p) r rs (omega arith) (omega arith)) ∙ a.behind)))
    (λ l u. absurd (true≢false (sym (head-member p r rs l u) ∙ a.own)))
    (λ l e. absurd (true≢false (sym (head-member r.last r rs h.1 (omega arith)) ∙ a.before r.last (sym e))))
    (λ l u. ap suc (apart_more _ n p rs h.3 (record {
      own = or_right (lies p r) (member p rs) a.own;
      behind = or_right (lies (suc p) r) (member (suc p) rs) a.behind;
      before = λ q e. or_right (lies q r) (member q rs) (a.before q e);
    })))

-- a test that is not true
not_true_false : (b : Bool) → (b ≡ true → ⊥) → b ≡ false
not_true_false true f = absurd (f refl)
not_true_false false f = refl

pub too_many_exactly : TooManyExactly
unfolding too_many
too_many_exactly file tag s p start l =
    let n = length file in
    let rs = s.copy.runs in
    let facts = copy_facts s.copy start.rule in
    let formed : WellFormed 0 n rs = subst (λ (m : ℕ). WellFormed 0 m rs) start.of_length facts.formed in
    let few : length rs ≤ max_runs = facts.few in
    let runs : maximal_runs n (with p (held_at s)) ≡ insert p rs = scan_insert n p (held_at s) l ∙ ap (insert p) (scan_is n rs formed) in
    let size : length (maximal_runs n (with p (held_at s))) ≡ length (insert p rs) = ap length runs in (
      (λ e.
          let more = ltb-true max_runs (length (maximal_runs n (with p (held_at s)))) e in
          let most = insert_count n p rs formed in (
            omega arith,
            record {
              own = not_true_false (member p rs) (λ m. let x = ap length (insert_same n p rs formed m) in omega arith);
              behind = not_true_false (member (suc p) rs) (λ m. let x = insert_before n p rs formed m in omega arith);
              before = λ q f. not_true_false (member q rs) (λ m.
                  let x = insert_next n q rs formed m in
                  let y : length (insert p rs) ≤ length rs = subst (λ (i : ℕ). length (insert i rs) ≤ length rs) f x in
                  omega arith);
            },
          )),
      (λ a. let x = apart_more 0 n p rs formed a.1 in let y = a.0 in lt-ltb max_runs (length (maximal_runs n (with p (held_at s)))) (omega arith)),
    )

-- Copies that our server's answers of single positions leave, from a fresh copy on.

module _ (file tag buffer : List ℕ) (strong : is_strong tag ≡ true) (short : length tag ≤ max_tag) (small : length file ≤ max_file)
    (same : length buffer ≡ length file) where
  -- a fresh copy
  abbrev fresh : Session
  fresh = opened_session tag (length file) buffer

  -- it may be opened
  opens : bad_opening tag (length file) (length buffer) ≡ false
  unfolding bad_opening
  opens = rw (strong, le-ltb max_tag (length tag) short, eq-eqb (length buffer) (length file) same, le-ltb max_file (length file) small)

  -- it holds nothing
  fresh-runs : fresh.copy.runs ≡ []
  unfolding opened
  fresh-runs = rw opens

  -- behind an answer of k positions
  one_left : (a k : ℕ) (es : List Event) → 1 ≤ k → k ≤ max_specs → k ≤ max_runs → a + 2 * k ≤ suc (length file) → SinglesFed file tag a k es
      → Good file tag (with-runs (singles a k) (held_at fresh)) (behind file tag buffer (es ∷ []))
      × ((behind file tag buffer (es ∷ [])).copy.runs ≡ singles a k)
  one_left a k es least few room u fed =
      singles-left file tag a k (singles a k) es (held_at fresh) fresh (start_good file tag fresh (opening_starts file tag buffer opens)) least few
      (omega (arith, ap length fresh-runs)) u fed (singles_formed 0 (length file) a k (omega arith) u)
      (λ q. sym (or-false (member q (singles a k))) ∙ ap (λ (rs : List Run). member q (singles a k) || member q rs) (sym fresh-runs))

  -- behind an answer of the first j positions and one of the next k
  both-left : (j k m : ℕ) (es ds : List Event) → 1 ≤ j → j ≤ max_specs → 1 ≤ k → k ≤ max_specs → m ≡ j + k → m ≤ max_runs → 2 * m ≤ suc (length file)
      → SinglesFed file tag 0 j es → SinglesFed file tag (2 * j) k ds
      → Start file tag (behind file tag buffer (es ∷ ds ∷ [])) × ((behind file tag buffer (es ∷ ds ∷ [])).copy.runs ≡ singles 0 m)
  both-left j k m es ds least few least' few' sum room u fed fed' =
      let s = behind file tag buffer (es ∷ []) in
      let x = one_left 0 j es least few (omega arith) (omega arith) fed in
      let y = singles-left file tag (2 * j) k (singles 0 m) ds (with-runs (singles 0 j) (held_at fresh)) s x.0 least' few'
      (omega (arith, ap length x.1 ∙ singles-count 0 j)) (omega arith) fed' (singles_formed 0 (length file) 0 m (omega arith) (omega arith))
      (λ q.
      singles-member 0 (2 * j) j k m q (omega arith) sum
      ∙ ap (λ (rs : List Run). member q (singles (2 * j) k) || member q rs) (sym x.1)) in
      (good_start file tag _ (behind file tag buffer (es ∷ ds ∷ [])) y.0, y.1)

pub two_needed_always : TwoNeededAlways
two_needed_always file tag buffer es strong short e same fed =
    let n = length file in
    let s = behind file tag buffer (es ∷ []) in
    let x = one_left file tag buffer strong short (omega arith) same 1 max_holes es (omega arith) (omega arith) (omega arith) (omega arith) fed in
    let start = good_start file tag _ s x.0 in
    let few : length s.copy.runs ≤ max_runs - 1 = omega (arith, ap length x.1 ∙ singles-count 1 max_holes) in
    let missing : holes n s.copy.runs ≡ singles 0 (suc max_holes) = ap (holes n) x.1 ∙ singles-holes n 0 max_holes (omega arith) in
    let many : length (holes n s.copy.runs) ≡ suc max_holes = ap length missing ∙ singles-count 0 (suc max_holes) in
    let lacks : (r : Round file tag s) → Complete (after_round file tag s r) → ⊥ =
    λ r c. let y = (round_fills file tag s start few r).completes.0 c in omega arith in
    record {
      starts = start;
      runs = x.1;
      missing = missing;
      lines = lines_of s.copy start.of_length start.under_tag missing;
      left = λ r. (round_fills file tag s start few r).left ∙ ap (drop max_holes) missing ∙ singles-last 0 (2 * max_holes) max_holes (omega arith);
      lacks = lacks;
      later = λ r. go (lacks r) ((two_answers own_tracks splits fair_always asking_always file tag s start few).two r);
    }
  where
    -- the request of a copy with these holes
    lines_of : (c : State) → c.length ≡ length file → c.tag ≡ tag → holes (length file) c.runs ≡ singles 0 (suc max_holes)
        → request_lines c ≡ request_text (singles 0 max_holes) tag
    lines_of c l t h =
        ap (λ (m : ℕ). request_text (wanted m c.runs) c.tag) l
        ∙ ap (λ (rs : List Run). request_text (take max_holes rs) c.tag) h
        ∙ ap (λ (rs : List Run). request_text rs c.tag) (singles-front 0 max_holes)
        ∙ ap (request_text (singles 0 max_holes)) t

    -- of two cases without the first, the second
    go : {A B : Type 0} → (A → ⊥) → A ⊎ B → B
    go not (inl a) = absurd (not a)
    go not (inr b) = b

-- of an answer of ours whose first byte of the file makes too many runs the bytes before it are taken; then the reader is refused by 16, and the runs stay
many-ends : (file tag : List ℕ) (s : Session) (es : List Event) (o : Ours file tag (delivered es)) (front : List ℕ) (p b : ℕ) (rest : List Cell)
    → Start file tag s → cells_of file tag (delivered es) (ours o) ≡ own_then front (from p b ∷ rest) → too_many max_runs (length file) p (held_at s) ≡ true
    → (taken_in (run_events es (begun s)).said ≡ length front) × ((run_events es (begun s)).reader.stage ≡ Refused 16)
    × ((run_events es (begun s)).copy.runs ≡ s.copy.runs) × Start file tag (run_events es (begun s))
many-ends file tag s es o front p b rest start e many =
    let n = length file in
    let set = held_at s in
    let g = start_good file tag s start in
    let x = ours_left own_tracks splits fair_always asking_always file tag set s es o g in
    let taken : admitted max_runs n (cells_of file tag (delivered es) (ours o)) set ≡ length front =
    ap (λ (cs : List Cell). admitted max_runs n cs set) e
    ∙ omega (arith, admitted_own max_runs n front (from p b ∷ rest) set, admitted_by max_runs n p b rest set true many) in
    let arrived : arrive max_runs n (cells_of file tag (delivered es) (ours o)) set ≡ set =
    ap (λ (cs : List Cell). arrive max_runs n cs set) e ∙ arrive_own max_runs n front (from p b ∷ rest) set ∙ arrive_by max_runs n p b rest set true many in (
      x.1 ∙ taken,
      x.0.cut (omega (arith, taken, ap length e ∙ own_length front (from p b ∷ rest))),
      x.0.good.holds.runs ∙ ap (maximal_runs n) arrived ∙ sym g.holds.runs,
      good_start file tag _ (run_events es (begun s)) x.0.good,
    )

-- our whole answer to a GET without a Range completes a copy that holds the first position
whole_completes : (file tag : List ℕ) (s : Session) (es : List Event) (o : Ours file tag (delivered es)) → Start file tag s → held_at s 0 ≡ true
    → o.request.range ≡ None → o.rest ≡ [] → Complete (run_events es (begun s))
whole_completes file tag s es o start first unranged whole =
    let n = length file in
    let f = resource_of file tag o.media o.boundary o.modified o.reference in
    let cells : cells_of file tag (delivered es) (ours o) ≡ flat (ok_answer f (from_then 0 file [])) =
    whole_ours file tag (delivered es) o whole ∙ ap flat (unranged_answer o.request f o.is_get unranged) in
    (demand_3 file tag s (record { asks = []; answers = es ∷ [] }) (ours o, tt) start).kept.complete.1
    (λ p l.
    ap (λ (cs : List Cell). arrive max_runs n cs (held_at s) p) cells
    ∙ arrive_file max_runs f (held_at s) p (good_few file tag (held_at s) s (start_good file tag s start)) first l)

pub full_always : FullAlways
full_always file tag buffer es ds strong short long small same fed fed' =
    let s = behind file tag buffer (es ∷ ds ∷ []) in
    let rs = singles 0 max_runs in
    let x = both-left file tag buffer strong short small same max_specs (max_runs - max_specs) max_runs es ds (omega arith) (omega arith)
    (omega arith) (omega arith) (omega arith) (omega arith) (omega arith) fed fed' in
    let before : WellFormed 0 (2 * max_runs - 1) rs = singles_formed 0 (2 * max_runs - 1) 0 max_runs (omega arith) (omega arith) in
    let none-at : (q : ℕ) → 2 * max_runs ≤ suc q → member q s.copy.runs ≡ false =
    λ q l. ap (member q) x.1 ∙ not-behind 0 (2 * max_runs - 1) q rs before (omega arith) in
    let more : (p : ℕ) → 2 * max_runs ≤ p → p < length file → too_many max_runs (length file) p (held_at s) ≡ true =
    λ p u l. (too_many_exactly file tag s p x.0 l).1 (
      ap length x.1 ∙ singles-count 0 max_runs,
      record { own = none-at p (omega arith); behind = none-at (suc p) (omega arith); before = λ q e. none-at q (omega arith) },
    ) in
    record {
      starts = x.0;
      runs = x.1;
      more = more;
      ends = λ es o front p b rest e u l.
          let y = many-ends file tag s es o front p b rest x.0 e (more p u l) in
          (y.0, y.1, y.2 ∙ x.1, y.3);
      completes = λ t start runs es o unranged whole.
          whole_completes file tag t es o start (ap (member 0) runs ∙ singles_first 0 max_runs (omega arith)) unranged whole;
    }
