-- A whole list of calls: the set of the positions that arrived, the buffer, what was said.
use Prim.Native.Nat.{ℕ, ◌<◌}
use mathlib.Core.Path.{◌≡◌, refl, sym, ◌∙◌, ap}
use mathlib.Core.Logic.{◌↔◌}
use mathlib.Core.Bool.{Bool, true, false, true≢false}
use mathlib.Core.List.{List, [], ◌∷◌, ◌++◌, map}
use Rattle.std.specs.Prelude.{Option, None, Some}
use native.Mathlib.Omega.{arith}
use lib.ListN.{length, get_or, take}
use Rattle.rules_server.specs.Answers.{byte_of, answer, bytes_of}
use Rattle.rules_tablet.specs.Limits.{max_runs}
use Rattle.rules_tablet.specs.Runs.{member, maximal_runs}
use Rattle.rules_tablet.specs.Copies.{is_complete}
use Rattle.rules_tablet.specs.Parsers.{is_refused, report_of}
use Rattle.rules_tablet.specs.Feeding.{Fed, feed}
use Rattle.rules_tablet.specs.Calls.{State, copy_ok, fresh, complete_call}
use Rattle.rules_demands.specs.Demand3Arrivals.{Set, flat, arrive}
use Rattle.rules_demands.specs.Demand3Sessions.{Event, Calls, delivered, Ours, Source, ours, foreign, Sources, cells_of, Session, after_ask}
use Rattle.rules_demands.specs.Demand3Sessions.{run_events, begun, run_answers, run_asks, run_calls, resource_of}
use Rattle.rules_demands.specs.FeedingFollowed.{OwnTracksAlways}
use Rattle.rules_demands.specs.Demand1Reader.{Splits, FairAlways, AskingAlways}
use Rattle.rules_demands.specs.Demand3.{Start, held_at, held_after, EachSaid, Not19, Told, ToldAll, Kept}
use Rattle.laws_reader.proofs.storing.Laws.{takes_always}
use Rattle.laws_reader.proofs.storing.Fronts.{right_take, tracks_take}
use Rattle.laws_reader.proofs.storing.Arrive.{arrive-before}
use Rattle.laws_runs.proofs.Scan.{scan_is, scan_member, scan_formed}
use Rattle.laws_runs.proofs.Members.{member_below}
use Rattle.laws_exchange.proofs.calls.Events.{tablet_in, feed_nothing}
use Rattle.laws_exchange.proofs.calls.Answer.{Good, begun_able, copy_facts, good_few, front_cells}
use Rattle.laws_exchange.proofs.calls.Cells.{right_flat, flat_bytes}
use Rattle.laws_exchange.proofs.calls.One.{ours_left, source_left}
use Rattle.laws_exchange.proofs.calls.Says.{OursReport, taken_report, said_never, said_ours}
use Rattle.laws_exchange.proofs.calls.Complete.{complete_held, held_complete}

-- a start is a good session for what it holds
pub start_good : (file tag : List ℕ) (s : Session) → Start file tag s → Good file tag (held_at s) s
start_good file tag s h = record {
  rule = h.rule;
  strong = h.strong;
  under_tag = h.under_tag;
  of_length = h.of_length;
  holds = record {
    runs = sym (scan_is (length file) s.copy.runs (rw (← h.of_length) (copy_facts s.copy h.rule).formed));
    room = h.buffer_length;
    right = λ p l e. h.right p e;
  };
}

-- a good session is a start
pub good_start : (file tag : List ℕ) (set : Set) (s : Session) → Good file tag set s → Start file tag s
good_start file tag set s g =
    let n = length file in
    record {
      rule = g.rule;
      strong = g.strong;
      under_tag = g.under_tag;
      of_length = g.of_length;
      buffer_length = g.holds.room;
      right = λ p e.
          let m : member p (maximal_runs n set) ≡ true = rw (← g.holds.runs) e in
          let l = member_below n p (maximal_runs n set) (scan_formed n set) m in
          g.holds.right p l (sym (scan_member n set p l) ∙ m);
    }

-- a good session says complete exactly when the set has every position
good_complete : (file tag : List ℕ) (set : Set) (s : Session) → Good file tag set s
    → (complete_call s.copy ≡ Some true) ↔ ((p : ℕ) → p < length file → set p ≡ true)
unfolding complete_call
good_complete file tag set s g =
    let n = length file in
    let c : is_complete s.copy.length s.copy.runs ≡ is_complete n (maximal_runs n set) = rw (g.of_length, g.holds.runs) refl in (
      (λ e p l.
          let t : is_complete s.copy.length s.copy.runs ≡ true = let x = rw g.rule at e in cc in
          sym (scan_member n set p l) ∙ complete_held n (maximal_runs n set) (scan_formed n set) (sym c ∙ t) p l),
      (λ h. rw g.rule (ap {B = Option Bool} Some (c ∙ held_complete n (maximal_runs n set) (scan_formed n set) (λ p l. scan_member n set p l ∙ h p l)))),
    )

good_whole : (file tag : List ℕ) (set : Set) (s : Session) → Good file tag set s → complete_call s.copy ≡ None → ⊥
unfolding complete_call
good_whole file tag set s g e = let x = rw g.rule at e in let z : ◌≡◌ {A = ℕ} 0 1 = cc in omega arith

-- a fresh reader is not refused
fresh_open : is_refused fresh.stage ≡ false
unfolding fresh
fresh_open = refl

module _ (own : OwnTracksAlways) (splits : Splits) (fair : FairAlways) (asking : AskingAlways) where
  -- each front of our answer leaves a report of ours
  fronts : (file tag : List ℕ) (set : Set) (s : Session) (es : List Event) (o : Ours file tag (delivered es)) → Good file tag set s
      → (x y : List ℕ) → x ++ y ≡ bytes_of (answer o.request (resource_of file tag o.media o.boundary o.modified o.reference))
      → OursReport (report_of (feed max_runs tag (length file) x (tablet_in (begun s))).tablet.parser.stage)
  fronts file tag set s es o g x y e =
      let f = resource_of file tag o.media o.boundary o.modified o.reference in
      let a = answer o.request f in
      let k = length x in
      let t = tracks_take tag (length file) fresh k (flat a) (own file tag (delivered es) o g.strong).tracks in
      let d = front_cells (flat a) x y (e ∙ sym (flat_bytes a)) in
      let z = takes_always max_runs file tag (take k (flat a)) set (tablet_in (begun s)) g.holds (good_few file tag set s g) t
      (right_take file k (flat a) (right_flat o.request f)) in
      rw d (taken_report max_runs file tag (take k (flat a)) set (tablet_in (begun s))
      (feed max_runs tag (length file) (map byte_of (take k (flat a))) (tablet_in (begun s))) fresh_open t z)

  -- what the calls of one answer say
  told : (file tag : List ℕ) (set : Set) (s : Session) (es : List Event) (x : Source file tag (delivered es)) → Good file tag set s
      → Told file tag (delivered es) x set (run_events es (begun s)).said
  told file tag set s es (ours o) g =
      let able = begun_able file tag set s g in
      record {
        never = said_never fair asking es (begun s) able tt;
        says = λ p e. said_ours splits fair tag (length file) (tablet_in (begun s))
            (bytes_of (answer o.request (resource_of file tag o.media o.boundary o.modified o.reference)))
            (fronts file tag set s es o g) es (begun s) [] o.rest able g.under_tag g.of_length
            (sym (ap (λ (x : Fed). x.tablet) (feed_nothing max_runs tag (length file) (tablet_in (begun s))))) o.front tt;
        takes = λ p e. (ours_left own splits fair asking file tag set s es o g).1;
      }
  told file tag set s es (foreign o) g = record {
    never = said_never fair asking es (begun s) (begun_able file tag set s g) tt;
    says = λ p e. absurd (let z : ◌≡◌ {A = ℕ} 0 1 = cc in omega arith);
    takes = λ p e. absurd (let z : ◌≡◌ {A = ℕ} 0 1 = cc in omega arith);
  }

  -- a position that the answers leave out was out before
  after-before : (file tag : List ℕ) (answers : List (List Event)) (ss : Sources file tag answers) (set : Set) (p : ℕ)
      → held_after file tag answers ss set p ≡ false → set p ≡ false
  after-before file tag [] ss set p e = e
  after-before file tag (es ∷ answers) ss set p e =
      let cells = cells_of file tag (delivered es) ss.0 in
      arrive-before max_runs (length file) cells set p (after-before file tag answers ss.1 (arrive max_runs (length file) cells set) p e)

  -- what a list of answers leaves
  pub answers-left : (file tag : List ℕ) (answers : List (List Event)) (ss : Sources file tag answers) (set : Set) (s : Session) → Good file tag set s
      → Good file tag (held_after file tag answers ss set) (run_answers answers s)
      × ((p : ℕ) → held_after file tag answers ss set p ≡ false → get_or (run_answers answers s).buffer p 0 ≡ get_or s.buffer p 0)
      × ((run_answers answers s).copy.tag ≡ s.copy.tag)
      × ((run_answers answers s).copy.length ≡ s.copy.length)
      × ToldAll file tag answers ss set s
  answers-left file tag [] ss set s g = (g, (λ p e. refl), refl, refl, tt)
  answers-left file tag (es ∷ answers) ss set s g =
      let cells = cells_of file tag (delivered es) ss.0 in
      let one = source_left own splits fair asking file tag set s es ss.0 g in
      let rest = answers-left file tag answers ss.1 (arrive max_runs (length file) cells set) (run_events es (begun s)) one.good in (
        rest.0,
        (λ p e. rest.1 p e ∙ one.others p (after-before file tag answers ss.1 (arrive max_runs (length file) cells set) p e)),
        rest.2 ∙ one.tag_kept,
        rest.3 ∙ one.length_kept,
        (told file tag set s es ss.0 g, rest.4),
      )

  -- requests change neither copy nor buffer nor reader
  asks_copy : (outs : List (List ℕ)) (s : Session) → (run_asks outs s).copy ≡ s.copy
  asks_copy [] s = refl
  asks_copy (out ∷ outs) s = asks_copy outs (after_ask s out)

  asks_buffer : (outs : List (List ℕ)) (s : Session) → (run_asks outs s).buffer ≡ s.buffer
  asks_buffer [] s = refl
  asks_buffer (out ∷ outs) s = asks_buffer outs (after_ask s out)

  asks_good : (file tag : List ℕ) (set : Set) (outs : List (List ℕ)) (s : Session) → Good file tag set s → Good file tag set (run_asks outs s)
  asks_good file tag set [] s g = g
  asks_good file tag set (out ∷ outs) s g =
      asks_good file tag set outs (after_ask s out)
      (record { rule = g.rule; strong = g.strong; under_tag = g.under_tag; of_length = g.of_length; holds = g.holds })

  -- and 19 is never said of them
  asks_never_lem : (outs : List (List ℕ)) (s : Session) → copy_ok s.copy ≡ true → EachSaid Not19 s.said → EachSaid Not19 (run_asks outs s).said
  asks_never_lem [] s r h = h
  asks_never_lem (out ∷ outs) s r h = asks_never_lem outs (after_ask s out) r ((λ e. true≢false (sym r ∙ (asking s.copy out).broken.0 e)), h)

  -- a whole list of calls
  pub calls_kept : (file tag : List ℕ) (s : Session) (cs : Calls) (ss : Sources file tag cs.answers) → Start file tag s
      → Kept file tag s (held_after file tag cs.answers ss (held_at s)) (run_calls cs s)
      × ToldAll file tag cs.answers ss (held_at s) (run_asks cs.asks s)
      × EachSaid Not19 (run_asks cs.asks (begun s)).said
      × Good file tag (held_after file tag cs.answers ss (held_at s)) (run_calls cs s)
  calls_kept file tag s cs ss h =
      let set = held_after file tag cs.answers ss (held_at s) in
      let before = run_asks cs.asks s in
      let e = run_calls cs s in
      let x = answers-left file tag cs.answers ss (held_at s) before (asks_good file tag (held_at s) cs.asks s (start_good file tag s h)) in
      let g = x.0 in (
        record {
          runs = g.holds.runs;
          right = g.holds.right;
          others = λ p f. x.1 p f ∙ ap (λ (b : List ℕ). get_or b p 0) (asks_buffer cs.asks s);
          buffer_length = g.holds.room ∙ sym h.buffer_length;
          tag_kept = x.2 ∙ ap (λ (c : State). c.tag) (asks_copy cs.asks s);
          length_kept = x.3 ∙ ap (λ (c : State). c.length) (asks_copy cs.asks s);
          complete = good_complete file tag set e g;
          incomplete = good_whole file tag set e g;
          again = good_start file tag set e g;
        },
        x.4,
        asks_never_lem cs.asks (begun s) h.rule tt,
        g,
      )
