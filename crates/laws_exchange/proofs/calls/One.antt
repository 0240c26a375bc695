-- One beginning with its calls: what it leaves, and what its calls say.
use Prim.Native.Nat.{ℕ}
use native.Mathlib.Omega.{arith}
use mathlib.Core.Path.{◌≡◌, sym, ◌∙◌, ap, subst}
use mathlib.Core.List.{List, []}
use lib.ListN.{length, get_or, take}
use Rattle.rules_server.specs.Answers.{Cell, answer}
use Rattle.rules_tablet.specs.Limits.{max_runs}
use Rattle.rules_tablet.specs.Feeding.{Held, Tablet}
use Rattle.rules_tablet.specs.Calls.{fresh}
use Rattle.rules_demands.specs.Demand3Arrivals.{Set, flat, admitted}
use Rattle.rules_demands.specs.Demand3Sessions.{Event, delivered, Ours, Other, Source, ours, foreign, cells_of, Session}
use Rattle.rules_demands.specs.Demand3Sessions.{run_events, begun, resource_of}
use Rattle.rules_demands.specs.FeedingFollowed.{OwnTracksAlways}
use Rattle.rules_demands.specs.FeedingStored.{Holds}
use Rattle.rules_demands.specs.Demand1Reader.{Splits, FairAlways, AskingAlways}
use Rattle.rules_demands.specs.Demand3.{taken_in}
use Rattle.laws_reader.proofs.storing.Laws.{takes_always}
use Rattle.laws_reader.proofs.storing.Fronts.{right_take, tracks_take}
use Rattle.laws_reader.proofs.foreign_answers.Foreign.{foreign_always}
use Rattle.laws_exchange.proofs.calls.Events.{tablet_in, run_events_lem}
use Rattle.laws_exchange.proofs.calls.Answer.{Good, begun_able, able_rule, front_cells, Left, follow}
use Rattle.laws_exchange.proofs.calls.Cells.{right_flat, flat_bytes}

module _ (own : OwnTracksAlways) (splits : Splits) (fair : FairAlways) (asking : AskingAlways) where
  -- the cells of our answer that arrived: followed, right, and the delivered bytes
  ours_cells : (file tag bytes : List ℕ) (o : Ours file tag bytes) → List Cell
  ours_cells file tag bytes o = cells_of file tag bytes (ours o)

  -- ours
  pub ours_left : (file tag : List ℕ) (set : Set) (s : Session) (es : List Event) (o : Ours file tag (delivered es)) → Good file tag set s
      → Left file tag (cells_of file tag (delivered es) (ours o)) set s (run_events es (begun s))
      × (taken_in (run_events es (begun s)).said ≡ admitted max_runs (length file) (cells_of file tag (delivered es) (ours o)) set)
  ours_left file tag set s es o g =
      let f = resource_of file tag o.media o.boundary o.modified o.reference in
      let a = answer o.request f in
      let k = length (delivered es) in
      follow splits fair takes_always file tag (take k (flat a)) set s es g
      (tracks_take tag (length file) fresh k (flat a) (own file tag (delivered es) o g.strong).tracks)
      (right_take file k (flat a) (right_flat o.request f))
      (front_cells (flat a) (delivered es) o.rest (o.front ∙ sym (flat_bytes a)))

  -- under another tag
  foreign_left : (file tag : List ℕ) (set : Set) (s : Session) (es : List Event) (o : Other tag (delivered es)) → Good file tag set s
      → Left file tag [] set s (run_events es (begun s))
  foreign_left file tag set s es o g =
      let e = run_events es (begun s) in
      let x = run_events_lem splits fair es (begun s) (begun_able file tag set s g) in
      let held : Held = record { runs = s.copy.runs; bytes = s.buffer } in
      let same : (tablet_in e).held ≡ held =
      ap (λ (u : Tablet). u.held) x.tablet
      ∙ (rw g.under_tag (foreign_always max_runs tag s.copy.length (delivered es) o.rest held g.strong o.other)) in
      record {
        good = record {
          rule = able_rule e x.able;
          strong = g.strong;
          under_tag = x.tag ∙ g.under_tag;
          of_length = x.size ∙ g.of_length;
          holds = subst (λ (h : Held). Holds file set h) (sym same) g.holds;
        };
        others = λ p h. ap (λ (u : Held). get_or u.bytes p 0) same;
        tag_kept = x.tag;
        length_kept = x.size;
        cut = λ l. absurd (omega arith);
      }

  pub source_left : (file tag : List ℕ) (set : Set) (s : Session) (es : List Event) (x : Source file tag (delivered es)) → Good file tag set s
      → Left file tag (cells_of file tag (delivered es) x) set s (run_events es (begun s))
  source_left file tag set s es (ours o) g = (ours_left file tag set s es o g).0
  source_left file tag set s es (foreign o) g = foreign_left file tag set s es o g
