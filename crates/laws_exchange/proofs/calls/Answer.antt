-- One answer of a list: what it leaves of a session, ours or under another tag.
use Prim.Native.Nat.{ℕ, ◌+◌, ◌≤◌, ◌<◌}
use mathlib.Core.Path.{◌≡◌, refl, sym, ◌∙◌, ap, subst}
use mathlib.Core.Bool.{Bool, true, false, ◌&&◌, false≢true}
use mathlib.Core.List.{List, [], ◌∷◌, ◌++◌, map}
use native.Mathlib.Omega.{arith}
use lib.ListN.{length, get_or, take, length-map}
use lib.Dec.{leb, eqb}
use borrow.Author.Tests.{eq-eqb, leb-true}
use Rattle.laws_runs.proofs.Members.{test_true}
use Rattle.rules_server.specs.Limits.{max_tag, max_file}
use Rattle.rules_server.specs.Tags.{is_strong}
use Rattle.rules_server.specs.Answers.{Cell, byte_of}
use Rattle.rules_tablet.specs.Limits.{max_runs}
use Rattle.rules_tablet.specs.Runs.{maximal_runs, WellFormed, well_formed}
use Rattle.rules_tablet.specs.Feeding.{Tablet, feed}
use Rattle.rules_tablet.specs.Calls.{State, copy_ok, fresh, feedable, reader_ok}
use Rattle.rules_tablet.specs.declared.Stage.TheVariants.{Refused}
use Rattle.rules_demands.specs.Demand3Arrivals.{Set, arrive, admitted}
use Rattle.rules_demands.specs.Demand3Sessions.{Event, delivered, Session, run_events}
use Rattle.rules_demands.specs.Demand3Sessions.{begun}
use Rattle.rules_demands.specs.FeedingFollowed.{Tracks}
use Rattle.rules_demands.specs.FeedingStored.{RightCells, Holds, TakesAlways}
use Rattle.rules_demands.specs.Demand1Reader.{Splits, FairAlways}
use Rattle.rules_demands.specs.Demand3.{taken_in}
use Rattle.laws_exchange.proofs.calls.Events.{tablet_in, Able, run_events_lem}

-- a session whose copy holds just the set's positions, with the file's bytes
pub record Good (file tag : List ℕ) (set : Set) (s : Session) : Type 0 where
  pub rule : copy_ok s.copy ≡ true
  pub strong : is_strong tag ≡ true
  pub under_tag : s.copy.tag ≡ tag
  pub of_length : s.copy.length ≡ length file
  pub holds : Holds file set (record { runs = s.copy.runs; bytes = s.buffer })

-- a fresh reader meets its rule
fresh-ok : (c : State) → reader_ok c fresh ≡ true
unfolding reader_ok fresh
fresh-ok c = refl

and_true : (a b : Bool) → a ≡ true → b ≡ true → (a && b) ≡ true
and_true true b e h = h
and_true false b e h = e

-- a beginning meets the rules
pub begun_able : (file tag : List ℕ) (set : Set) (s : Session) → Good file tag set s → Able (begun s)
unfolding feedable
begun_able file tag set s g =
    and_true (copy_ok s.copy && eqb (length s.buffer) s.copy.length) (reader_ok s.copy fresh)
    (and_true (copy_ok s.copy) (eqb (length s.buffer) s.copy.length) g.rule
    (eq-eqb (length s.buffer) s.copy.length (g.holds.room ∙ sym g.of_length)))
    (fresh-ok s.copy)

-- the rules of a session give the copy's
and_first : (a b : Bool) → (a && b) ≡ true → a ≡ true
and_first true b e = refl
and_first false b e = e

pub able_rule : (s : Session) → Able s → copy_ok s.copy ≡ true
unfolding feedable
able_rule s a =
    and_first (copy_ok s.copy) (eqb (length s.buffer) s.copy.length)
    (and_first (copy_ok s.copy && eqb (length s.buffer) s.copy.length) (reader_ok s.copy s.reader) a)

-- the copy's rule, taken apart
pub record CopyFacts (c : State) : Type 0 where
  pub strong : is_strong c.tag ≡ true
  pub few : length c.runs ≤ max_runs
  pub formed : WellFormed 0 c.length c.runs

and_second : (a b : Bool) → (a && b) ≡ true → b ≡ true
and_second true b e = e
and_second false b e = absurd (false≢true e)

pub copy_facts : (c : State) → copy_ok c ≡ true → CopyFacts c
unfolding copy_ok
copy_facts c e =
    let s = is_strong c.tag in
    let t = leb (length c.tag) max_tag in
    let m = leb c.length max_file in
    let a = s && t && m in
    let b = leb (length c.runs) max_runs in
    let d = well_formed 0 c.length c.runs in
    record {
      strong = and_first s t (and_first (s && t) m (and_first a b (and_first (a && b) d e)));
      few = leb-true (length c.runs) max_runs (and_second a b (and_first (a && b) d e));
      formed = test_true 0 c.length c.runs (and_second (a && b) d e);
    }

-- a good session's set is within the limit
pub good_few : (file tag : List ℕ) (set : Set) (s : Session) → Good file tag set s → length (maximal_runs (length file) set) ≤ max_runs
good_few file tag set s g = rw (← g.holds.runs) (copy_facts s.copy g.rule).few

-- a front of bytes of cells is the bytes of a front of the cells
pub front_cells : (cells : List Cell) (bytes rest : List ℕ) → bytes ++ rest ≡ map byte_of cells → bytes ≡ map byte_of (take (length bytes) cells)
front_cells cells [] rest e = refl
front_cells [] (b ∷ bytes) rest e = absurd (let z : ◌≡◌ {A = ℕ} 0 1 = cc in omega arith)
front_cells (c ∷ cells) (b ∷ bytes) rest e =
    let h : b ≡ byte_of c = cc in
    let t : bytes ++ rest ≡ map byte_of cells = cc in
    let ih = front_cells cells bytes rest t in
    cc

-- so many cells there are
pub front-length : (cells : List Cell) (bytes rest : List ℕ) → bytes ++ rest ≡ map byte_of cells → length (take (length bytes) cells) ≡ length bytes
front-length cells bytes rest e = sym (length-map (take (length bytes) cells) byte_of) ∙ ap length (sym (front_cells cells bytes rest e))

-- what one answer leaves: the set of its cells, the other bytes of the buffer; where not all cells were admitted, the reader refused by 16
pub record Left (file tag : List ℕ) (cells : List Cell) (set : Set) (s e : Session) : Type 0 where
  pub good : Good file tag (arrive max_runs (length file) cells set) e
  pub others : (p : ℕ) → arrive max_runs (length file) cells set p ≡ false → get_or e.buffer p 0 ≡ get_or s.buffer p 0
  pub tag_kept : e.copy.tag ≡ s.copy.tag
  pub length_kept : e.copy.length ≡ s.copy.length
  pub cut : admitted max_runs (length file) cells set < length cells → e.reader.stage ≡ Refused 16

module _ (splits : Splits) (fair : FairAlways) (takes : TakesAlways) where
  -- cells that the parser follows
  pub follow : (file tag : List ℕ) (cells : List Cell) (set : Set) (s : Session) (es : List Event)
      → Good file tag set s → Tracks tag (length file) fresh cells → RightCells file cells → delivered es ≡ map byte_of cells
      → Left file tag cells set s (run_events es (begun s))
      × (taken_in (run_events es (begun s)).said ≡ admitted max_runs (length file) cells set)
  follow file tag cells set s es g t r d =
      let e = run_events es (begun s) in
      let x = run_events_lem splits fair es (begun s) (begun_able file tag set s g) in
      let start : Tablet = tablet_in (begun s) in
      let k = takes max_runs file tag cells set start g.holds (good_few file tag set s g) t r in
      let end : tablet_in e ≡ (feed max_runs tag (length file) (map byte_of cells) start).tablet =
      rw (← g.under_tag, ← g.of_length, ← d) x.tablet in
      let taken-end : 0 + (feed max_runs s.copy.tag s.copy.length (delivered es) start).taken ≡ admitted max_runs (length file) cells set =
      rw (g.under_tag, g.of_length, d) (let h = k.taken in omega arith) in (
        record {
          good = record {
            rule = able_rule e x.able;
            strong = g.strong;
            under_tag = x.tag ∙ g.under_tag;
            of_length = x.size ∙ g.of_length;
            holds = subst (λ (u : Tablet). Holds file (arrive max_runs (length file) cells set) u.held) (sym end) k.holds;
          };
          others = λ p h. ap (λ (u : Tablet). get_or u.held.bytes p 0) end ∙ k.others p h;
          tag_kept = x.tag;
          length_kept = x.size;
          cut = λ l. ap (λ (u : Tablet). u.parser.stage) end ∙ k.cut l;
        },
        x.taken ∙ taken-end,
      )
