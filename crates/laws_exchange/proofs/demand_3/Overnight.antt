-- Demand 3 over two sessions with a saved copy between them.
use Prim.Native.Nat.{ℕ, ◌≤◌}
use native.Mathlib.Omega.{arith}
use mathlib.Core.Path.{◌≡◌, sym, ap, subst, ◌∙◌, fun_ext}
use mathlib.Core.Bool.{true, false}
use mathlib.Core.List.{List, [], ◌∷◌}
use Rattle.std.specs.Prelude.{None}
use lib.ListN.{length, get_or, take}
use Rattle.rules_server.specs.Answers.{Cell, own, from, answer}
use Rattle.rules_tablet.specs.Limits.{max_runs}
use Rattle.rules_tablet.specs.Runs.{member, WellFormed, with}
use Rattle.rules_tablet.specs.Calls.{State, copy_ok}
use Rattle.rules_tablet.specs.SavedCopies.{saved_bytes, save_refusal, save_call, loads, saved_read}
use Rattle.rules_demands.specs.FeedingStored.{RightCells}
use Rattle.rules_demands.specs.Demand3Arrivals.{Set, flat, too_many, arrive}
use Rattle.rules_demands.specs.Demand3Sessions.{Event, Calls, delivered, Source, ours, foreign, Sources, cells_of, Session, run_asks, run_calls, resource_of}
use Rattle.rules_demands.specs.Demand3.{Start, held_at, held_after, ToldAll, Kept}
use Rattle.rules_demands.specs.Demand3Overnight.{held_overnight, Resumed, Demand3Overnight, SavesAlways, Demand3Reloaded}
use Rattle.laws_runs.proofs.Lies.{on_cond, below_or}
use Rattle.laws_runs.proofs.Members.{not-behind}
use Rattle.laws_runs.proofs.Scan.{scan_member}
use Rattle.laws_reader.proofs.storing.Arrive.{with_other}
use Rattle.laws_reader.proofs.storing.Fronts.{right_take}
use Rattle.laws_saved.proofs.Buffers.{saved_written, saved_front}
use Rattle.laws_saved.proofs.Laws.{saves_once}
use Rattle.laws_exchange.proofs.calls.Answer.{copy_facts}
use Rattle.laws_exchange.proofs.calls.Cells.{right_flat}
use Rattle.laws_exchange.proofs.demand_3.Demand3.{demand_3}
use Rattle.laws_exchange.proofs.demand_3.Corollary.{never_mixed}

-- No position beyond the file arrives.

-- what arrived of an answer carries the file's bytes
source_right : (file tag bytes : List ℕ) (x : Source file tag bytes) → RightCells file (cells_of file tag bytes x)
source_right file tag bytes (ours o) =
    let f = resource_of file tag o.media o.boundary o.modified o.reference in
    right_take file (length bytes) (flat (answer o.request f)) (right_flat o.request f)
source_right file tag bytes (foreign o) = tt

-- the cells of one answer add no position beyond the file
arrive-beyond : (lim : ℕ) (file : List ℕ) (cells : List Cell) (set : Set) (p : ℕ) → RightCells file cells → length file ≤ p → set p ≡ false
    → arrive lim (length file) cells set p ≡ false
arrive-beyond lim file [] set p r l e = e
arrive-beyond lim file (own b ∷ cs) set p r l e = arrive-beyond lim file cs set p r.1 l e
arrive-beyond lim file (from q b ∷ cs) set p r l e =
    on_cond (λ (s : Set). s p ≡ false) (too_many lim (length file) q set) set (arrive lim (length file) cs (with q set))
    (λ f. e)
    (λ f. arrive-beyond lim file cs (with q set) p r.1 l (with_other q p set (λ x. let u = r.0.0 in omega arith) ∙ e))

-- nor do the answers of a list
after-beyond : (file tag : List ℕ) (answers : List (List Event)) (ss : Sources file tag answers) (set : Set) (p : ℕ) → length file ≤ p → set p ≡ false
    → held_after file tag answers ss set p ≡ false
after-beyond file tag [] ss set p l e = e
after-beyond file tag (es ∷ answers) ss set p l e =
    let cells = cells_of file tag (delivered es) ss.0 in
    after-beyond file tag answers ss.1 (arrive max_runs (length file) cells set) p l
    (arrive-beyond max_runs file cells set p (source_right file tag (delivered es) ss.0) l e)

-- a start holds none
start_beyond : (file tag : List ℕ) (s : Session) (p : ℕ) → Start file tag s → length file ≤ p → held_at s p ≡ false
start_beyond file tag s p h l =
    not-behind 0 (length file) p s.copy.runs
    (subst (λ (n : ℕ). WellFormed 0 n s.copy.runs) h.of_length (copy_facts s.copy h.rule).formed) l

-- the positions that arrived are those that the copy holds at the end
held_end : (file tag : List ℕ) (s : Session) (cs : Calls) (ss : Sources file tag cs.answers) → Start file tag s
    → held_at (run_calls cs s) ≡ held_after file tag cs.answers ss (held_at s)
held_end file tag s cs ss h =
    let n = length file in
    let set : Set = held_after file tag cs.answers ss (held_at s) in
    let k = (demand_3 file tag s cs ss h).kept in
    fun_ext (λ p. below_or p n
    (λ l. ap (member p) k.runs ∙ scan_member n set p l)
    (λ l. start_beyond file tag (run_calls cs s) p k.again l ∙ sym (after-beyond file tag cs.answers ss (held_at s) p l (start_beyond file tag s p h l))))

-- A copy that is saved and loaded.

-- the bytes of a copy that was saved are loaded as that copy
saved_loads : (c : State) (out : List ℕ) → copy_ok c ≡ true → save_refusal c (length out) ≡ None
    → saved_read (take (length (saved_bytes c)) (save_call c out)) ≡ loads c
saved_loads c out rule e = ap saved_read (saved_front c out e) ∙ saves_once.back c rule

-- a copy is loaded as one only
loads_same : (c d : State) → loads c ≡ loads d → c ≡ d
loads_same c d e = cc

pub saves_always : SavesAlways
saves_always file tag s cs ss h =
    let c = (run_calls cs s).copy in
    let rule = (demand_3 file tag s cs ss h).kept.again.rule in
    record {
      written = λ out l. saved_written c (length out) rule (omega (arith, saves_once.longest c rule));
      loaded = λ out e. saved_loads c out rule e;
    }

-- The two sessions.

-- a loaded copy is a start, if the data's bytes at the held positions are as they were when it was saved
night_starts : (file tag : List ℕ) (e m : Session) → m.copy ≡ e.copy → Start file tag e → length m.buffer ≡ length e.buffer
    → ((p : ℕ) → member p e.copy.runs ≡ true → get_or m.buffer p 0 ≡ get_or e.buffer p 0) → Start file tag m
night_starts file tag e m same h long as_saved_lem = record {
  rule = ap copy_ok same ∙ h.rule;
  strong = h.strong;
  under_tag = ap (λ (c : State). c.tag) same ∙ h.under_tag;
  of_length = ap (λ (c : State). c.length) same ∙ h.of_length;
  buffer_length = long ∙ h.buffer_length;
  right = λ p x.
      let held : member p e.copy.runs ≡ true = ap (λ (c : State). member p c.runs) (sym same) ∙ x in
      as_saved_lem p held ∙ h.right p held;
}

-- demand 3 from a start on whose held positions are this set
resumed : (file tag : List ℕ) (m : Session) (set : Set) (ds : Calls) (ts : Sources file tag ds.answers) → Start file tag m → held_at m ≡ set
    → Resumed file tag m set ds ts
resumed file tag m set ds ts h same =
    let d = demand_3 file tag m ds ts h in
    record {
      starts = h;
      same = same;
      kept = subst (λ (x : Set). Kept file tag m (held_after file tag ds.answers ts x) (run_calls ds m)) same d.kept;
      told = subst (λ (x : Set). ToldAll file tag ds.answers ts x (run_asks ds.asks m)) same d.told;
      asks_never = d.asks_never;
      two = d.two;
      mixed = never_mixed file tag m ds ts h;
    }

pub demand_3_overnight : Demand3Overnight
demand_3_overnight file tag s cs ss m ds ts h night =
    let e = run_calls cs s in
    let evening = demand_3 file tag s cs ss h in
    let again = evening.kept.again in
    let same : m.copy ≡ e.copy =
    loads_same m.copy e.copy (sym night.loaded ∙ saved_loads e.copy night.out again.rule night.saved) in
    let set : Set = held_overnight file tag s cs ss in
    let held : held_at m ≡ set = ap {B = Set} (λ (c : State) (p : ℕ). member p c.runs) same ∙ held_end file tag s cs ss h in
    record {
      evening = evening;
      loads = same;
      morning = resumed file tag m set ds ts (night_starts file tag e m same again night.buffer_length night.as_saved) held;
    }

pub demand_3_reloaded : Demand3Reloaded
demand_3_reloaded file tag e m ds ts h x =
    let same : m.copy ≡ e.copy =
    loads_same m.copy e.copy (sym x.loaded ∙ saves_once.under x.version e.copy h.rule x.few) in
    let held : held_at m ≡ held_at e = ap {B = Set} (λ (c : State) (p : ℕ). member p c.runs) same in
    (same, resumed file tag m (held_at e) ds ts (night_starts file tag e m same h x.buffer_length x.as_saved) held)
