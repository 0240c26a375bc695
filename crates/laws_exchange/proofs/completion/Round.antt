-- One whole answer to the request that a copy has just written fills its first holes, and two fill all.
use Prim.Native.Nat.{ℕ, ◌-◌, ◌*◌, ◌≤◌, ◌<◌}
use native.Mathlib.Omega.{arith}
use mathlib.Core.Path.{◌≡◌, refl, sym, ◌∙◌, ap, subst}
use mathlib.Core.Logic.{◌⊎◌, inl, inr, ◌↔◌}
use mathlib.Core.Bool.{Bool, true, false, true≢false, cond, ◌&&◌, ◌||◌, not-or_self}
use mathlib.Core.List.{List, [], ◌∷◌, ◌++◌, append-nil}
use Rattle.std.specs.Prelude.{Option, None, Some}
use lib.Dec.{leb}
use lib.ListN.{length, take, drop, length-take, length-drop, length-map}
use lib.Seq.{take_all}
use borrow.Author.Tests.{leb-true, le-ltb}
use Rattle.rules_server.specs.Limits.{max_file, max_tag, max_specs}
use Rattle.rules_server.specs.Tags.{is_strong}
use Rattle.rules_server.specs.Status.{Request, Resource}
use Rattle.rules_server.specs.Answers.{Cell, byte_of, answer, bytes_of, partial_answer}
use Rattle.rules_server.specs.declared.Run.{Run}
use Rattle.rules_tablet.specs.Limits.{max_runs, max_holes}
use Rattle.rules_tablet.specs.Runs.{WellFormed, well_formed, holes, maximal_runs}
use Rattle.rules_tablet.specs.Copies.{no_hole, is_complete}
use Rattle.rules_tablet.specs.Requests.{request_text, wanted, request_of}
use Rattle.rules_tablet.specs.Calls.{State, copy_ok, request_refusal, request_lines, request_call, complete_call}
use Rattle.laws_server.proofs.grammar.Bytes.{and_left, and_right}
use Rattle.rules_demands.specs.Positions.{Each}
use Rattle.laws_runs.proofs.Scan.{scan_formed, scan_member}
use Rattle.laws_runs.proofs.Holes.{holes_count}
use Rattle.rules_demands.specs.Demand3Arrivals.{Set, flat, arrive}
use Rattle.rules_demands.specs.Demand3Sessions.{delivered, Ours, ours, cells_of, Session, resource_of}
use Rattle.rules_demands.specs.RequestReading.{request_in}
use Rattle.rules_demands.specs.FeedingFollowed.{OwnTracksAlways}
use Rattle.rules_demands.specs.Demand1Reader.{Splits, FairAlways, AskingAlways}
use Rattle.rules_demands.specs.Demand3.{Start, held_at, Round, after_round, Complete, OneMore, TwoAnswers}
use Rattle.laws_reader.proofs.read_back.ReadBack.{read_behind_lem}
use Rattle.laws_exchange.proofs.calls.Answer.{Good}
use Rattle.laws_exchange.proofs.calls.Cells.{flat_bytes}
use Rattle.laws_exchange.proofs.calls.Complete.{held_complete}
use Rattle.laws_exchange.proofs.calls.One.{ours_left}
use Rattle.laws_exchange.proofs.calls.Calls.{start_good, good_start}
use Rattle.laws_exchange.proofs.completion.Fill.{with-runs, runs-held, Edged, edged_fits, arrive-flat}
use Rattle.laws_exchange.proofs.completion.Gaps.{take_formed, each_take, missing, missing_formed, missing_member, missing_edged, holes-left}
use Rattle.laws_exchange.proofs.completion.Asked.{asked_answer}

-- a copy's length is within the limit
pub copy_small : (c : State) → copy_ok c ≡ true → c.length ≤ max_file
unfolding copy_ok
copy_small c e =
    let a = is_strong c.tag && leb (length c.tag) max_tag in
    let b = leb c.length max_file in
    let x = leb (length c.runs) max_runs in
    let d = well_formed 0 c.length c.runs in
    leb-true c.length max_file (and_right a b (and_left (a && b) x (and_left (a && b && x) d e)))

-- complete, of a copy that meets its rule
complete_is : (c : State) → copy_ok c ≡ true → (complete_call c ≡ Some true) ↔ (is_complete c.length c.runs ≡ true)
unfolding complete_call
complete_is c rule = ((λ e. let x = rw rule at e in cc), (λ e. rw rule (ap {B = Option Bool} Some e)))

-- a request that is written asks for something
pub asks-some : (c : State) (room : ℕ) → request_refusal c room ≡ None → (r : Run) × (rs : List Run) × (wanted c.length c.runs ≡ r ∷ rs)
unfolding request_refusal
asks-some c room e = go (copy_ok c) (wanted c.length c.runs) refl e
  where
    go : (b : Bool) (ws : List Run) → wanted c.length c.runs ≡ ws → cond b (request_of ws c.tag room) (Some 19) ≡ None
        → (r : Run) × (rs : List Run) × (wanted c.length c.runs ≡ r ∷ rs)
    go true [] p e = absurd (let z : ◌≡◌ {A = ℕ} 0 1 = cc in omega arith)
    go true (r ∷ rs) p e = (r, rs, p)
    go false ws p e = absurd (let z : ◌≡◌ {A = ℕ} 0 1 = cc in omega arith)

-- a copy that is not complete has its request written into a buffer that is long enough
asks-none : (c : State) (room : ℕ) → copy_ok c ≡ true → (is_complete c.length c.runs ≡ true → ⊥) → length (request_lines c) ≤ room
    → request_refusal c room ≡ None
unfolding request_refusal is_complete
asks-none c room rule f l = rw rule (go (holes c.length c.runs) f l)
  where
    go : (hs : List Run) → (no_hole hs ≡ true → ⊥) → length (request_text (take max_holes hs) c.tag) ≤ room → request_of (take max_holes hs) c.tag room ≡ None
    go [] f l = absurd (f refl)
    go (r ∷ hs) f l = rw (le-ltb room (length (request_text (take max_holes (r ∷ hs)) c.tag)) l)

-- a session that holds every position says complete
good_done : (file tag : List ℕ) (set : Set) (s : Session) → Good file tag set s → ((p : ℕ) → p < length file → set p ≡ true) → Complete s
good_done file tag set s g h =
    let n = length file in
    (complete_is s.copy g.rule).1
    (rw (g.of_length, g.holds.runs) (held_complete n (maximal_runs n set) (scan_formed n set) (λ p l. scan_member n set p l ∙ h p l)))

-- a whole answer: all its cells arrive
whole_cells : (l : List ℕ) (q : Request) (f : Resource) → l ≡ bytes_of (answer q f) → take (length l) (flat (answer q f)) ≡ flat (answer q f)
whole_cells l q f e =
    let a = ap length (e ∙ sym (flat_bytes (answer q f))) in
    let b = length-map (flat (answer q f)) byte_of in
    take_all (length l) (flat (answer q f)) (omega arith)

-- so it is with an answer of ours that is not broken off
pub whole_ours : (file tag bytes : List ℕ) (o : Ours file tag bytes) → o.rest ≡ [] → cells_of file tag bytes (ours o)
    ≡ flat (answer o.request (resource_of file tag o.media o.boundary o.modified o.reference))
whole_ours file tag bytes o e =
    whole_cells bytes o.request (resource_of file tag o.media o.boundary o.modified o.reference)
    (sym (append-nil bytes) ∙ ap (λ (l : List ℕ). bytes ++ l) (sym e) ∙ o.front)

-- the positions that the first holes add
abbrev pub filled : ℕ → Set → Set
filled n set = with-runs (take max_holes (missing n set)) set

-- where there are no more holes, these are all positions
filled_whole : (n : ℕ) (set : Set) → length (missing n set) ≤ max_holes → (p : ℕ) → p < n → filled n set p ≡ true
filled_whole n set few p l =
    ap (λ (hs : List Run). with-runs hs set p) (take_all max_holes (missing n set) few)
    ∙ runs-held 0 n p (missing n set) set (missing_formed n set) l
    ∙ ap (λ (b : Bool). b || set p) (missing_member n set p l)
    ∙ not-or_self (set p)

-- once the first holes of a set with fewer runs than the limit are filled, so many are left at most
filled_few : (n : ℕ) (set : Set) → length (maximal_runs n set) ≤ max_runs - 1 → length (missing n (filled n set)) ≤ max_holes
filled_few n set few =
    let a = holes_count n (maximal_runs n set) (scan_formed n set) in
    let b = ap length (holes-left n max_holes set) ∙ length-drop max_holes (missing n set) in
    let enough : max_runs ≤ 2 * max_holes = omega arith in
    omega arith

module _ (own : OwnTracksAlways) (splits : Splits) (fair : FairAlways) (asking : AskingAlways) where
  -- a whole answer to the written request fills the first holes, and leaves fewer runs than the limit again
  pub round_left : (file tag : List ℕ) (set : Set) (s : Session) → Good file tag set s → length (maximal_runs (length file) set) ≤ max_runs - 1
      → (r : Round file tag s)
      → Good file tag (filled (length file) set) (after_round file tag s r) × (length (maximal_runs (length file) (filled (length file) set)) ≤ max_runs - 1)
  round_left file tag set s g few r =
      let w = asks-some s.copy (length r.out) r.asks in
      go w.0 w.1 w.2
    where
      n : ℕ
      n = length file

      -- with the ranges that the request asks for
      go : (h : Run) (hs : List Run) → wanted s.copy.length s.copy.runs ≡ h ∷ hs
          → Good file tag (filled n set) (after_round file tag s r) × (length (maximal_runs n (filled n set)) ≤ max_runs - 1)
      go h hs d =
          let e : take max_holes (missing n set) ≡ h ∷ hs = rw (g.of_length, g.holds.runs) at d in
          let f = resource_of file tag r.media r.boundary r.modified r.reference in
          let q = request_in (request_call s.copy r.out) in
          let text = request_text (h ∷ hs) tag in
          let lines : request_lines s.copy ≡ text = rw (d, g.under_tag) in
          let rest = drop (length (request_lines s.copy)) r.out in
          let given : request_call s.copy r.out ≡ text ++ rest = (asking s.copy r.out).written r.asks ∙ ap (λ (t : List ℕ). t ++ rest) lines in
          let read : q ≡ request_in text = ap request_in given ∙ read_behind_lem h hs tag rest g.strong in
          let formed = subst (WellFormed 0 n) e (take_formed 0 n max_holes (missing n set) (missing_formed n set)) in
          let edged = subst (Each (Edged n set)) e (each_take (Edged n set) max_holes (missing n set) (missing_edged n set)) in
          let many : length (h ∷ hs) ≤ max_specs = omega (arith, sym (ap length e) ∙ length-take max_holes (missing n set)) in
          let small : n ≤ max_file = rw (← g.of_length) (copy_small s.copy g.rule) in
          let parts : answer q f ≡ partial_answer f (h ∷ hs) =
          ap (λ (x : Request). answer x f) read
          ∙ asked_answer file tag r.media r.boundary r.modified r.reference h hs g.strong small many formed in
          let o : Ours file tag (delivered r.events) = record {
            request = q;
            media = r.media;
            boundary = r.boundary;
            modified = r.modified;
            reference = r.reference;
            room = r.room;
            is_get = refl;
            answered = r.answered;
            rest = [];
            front = append-nil (delivered r.events) ∙ r.fully;
          } in
          let left = (ours_left own splits fair asking file tag set s r.events o g).0 in
          let cells : cells_of file tag (delivered r.events) (ours o) ≡ flat (partial_answer f (h ∷ hs)) = whole_cells (delivered r.events) q f r.fully
          ∙ ap flat parts in
          let fits = edged_fits max_runs 0 n (h ∷ hs) set (omega arith) formed edged few in
          let arrived : arrive max_runs n (cells_of file tag (delivered r.events) (ours o)) set ≡ filled n set =
          ap (λ (cs : List Cell). arrive max_runs n cs set) cells ∙ arrive-flat max_runs f 0 (h ∷ hs) set formed fits.0
          ∙ ap (λ (rs : List Run). with-runs rs set) (sym e) in
          (subst (λ (y : Set). Good file tag y (after_round file tag s r)) arrived left.good, rw e fits.1)

  -- what is left is a start again, with fewer runs than the limit
  pub round_again : (file tag : List ℕ) (s : Session) → Start file tag s → length s.copy.runs ≤ max_runs - 1 → (r : Round file tag s)
      → Start file tag (after_round file tag s r) × (length (after_round file tag s r).copy.runs ≤ max_runs - 1)
  round_again file tag s start few r =
      let n = length file in
      let g = start_good file tag s start in
      let x = round_left file tag (held_at s) s g (rw (← g.holds.runs) few) r in
      (good_start file tag (filled n (held_at s)) (after_round file tag s r) x.0, rw x.0.holds.runs x.1)

  -- complete, or one more whole answer completes it
  one_more : (file tag : List ℕ) (s : Session) → copy_ok s.copy ≡ true → ((r : Round file tag s) → Complete (after_round file tag s r))
      → Complete s ⊎ OneMore file tag s
  one_more file tag s rule completes = go (is_complete s.copy.length s.copy.runs) refl
    where
      go : (b : Bool) → is_complete s.copy.length s.copy.runs ≡ b → Complete s ⊎ OneMore file tag s
      go true e = inl ((complete_is s.copy rule).1 e)
      go false e = inr (record { written = λ out l. asks-none s.copy (length out) rule (λ t. true≢false (sym t ∙ e)) l; completes = completes })

  -- the last clause of demand 3
  pub two_answers : (file tag : List ℕ) (s : Session) → Start file tag s → length s.copy.runs ≤ max_runs - 1 → TwoAnswers file tag s
  two_answers file tag s start few =
      let n = length file in
      let set = held_at s in
      let g = start_good file tag s start in
      let is = complete_is s.copy start.rule in
      let few-set : length (maximal_runs n set) ≤ max_runs - 1 = rw (← g.holds.runs) few in
      record {
        says18 = λ out. let a = (asking s.copy out).complete in ((λ e. is.1 (a.0 e).1), (λ e. a.1 (start.rule, is.0 e)));
        written = λ out f l. asks-none s.copy (length out) start.rule (λ e. f (is.1 e)) l;
        two = λ r.
            let a = round_left file tag set s g few-set r in
            let once = filled n set in
            let e = after_round file tag s r in
            one_more file tag e a.0.rule (λ r'.
            let b = round_left file tag once e a.0 a.1 r' in
            good_done file tag (filled n once) (after_round file tag e r') b.0 (filled_whole n once (filled_few n set few-set)));
      }
