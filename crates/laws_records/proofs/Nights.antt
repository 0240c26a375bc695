-- Demand 3 of two lists of calls on records with a saved copy between them.
use Rattle.std.specs.Prelude.{None}
use Prim.Native.Nat.{ℕ, ◌≤◌}
use mathlib.Core.Path.{◌≡◌, refl, sym, ◌∙◌, ap, subst}
use mathlib.Core.Bool.{true}
use mathlib.Core.List.{List, []}
use lib.ListN.{length, take, replicate, length-replicate}
use native.Mathlib.Omega.{arith}
use Rattle.rules_tablet.specs.Copies.{copy_rule}
use Rattle.rules_tablet.specs.SavedCopies.{max_saved, saved_bytes, loads, saved_read}
use Rattle.rules_demands.specs.Demand3Arrivals.{Set}
use Rattle.rules_demands.specs.Demand3Sessions.{Said, Session}
use Rattle.rules_demands.specs.Demand3Overnight.{Night, held_overnight}
use Rattle.laws_saved.proofs.Laws.{saves_once}
use Rattle.laws_exchange.proofs.demand_3.Overnight.{demand_3_overnight}
use Rattle.copy.specs.States.{state_of}
use Rattle.copy.proofs.Laws.{rule_ok}
use Rattle.copy_bytes.specs.SavedFiles.{save_outcome, save_bytes, record_of, load_call}
use Rattle.copy_bytes.specs.SavedFiles.{LoadedCopy}
use Rattle.rules_records.specs.Demand3Records.{Records, calls_of, after_all, session_of, KeptFrom}
use Rattle.rules_records.specs.SavedRecords.{RecordsNight, Demand3OvernightOfRecords, NightsExist}
use Rattle.laws_saved.proofs.Buffers.{saved_front}
use Rattle.laws_records.proofs.Starts.{start_of, records_start}
use Rattle.laws_records.proofs.Right.{demand_3_of_records}
use Rattle.laws_records.proofs.Saved.{record_state, record_rule, record_back, WasSaved, was_saved, saved_records, loads_written}
use Rattle.laws_records.proofs.Saved.{saved_records_back}

-- what a night says of the copy
record CopyLoaded (e m : Records) (night : RecordsNight e m) : Type 0 where
  was : WasSaved e.copy (length night.out) night.size
  says : night.result.refusal ≡ None
  copy : m.copy ≡ record_of (state_of e.copy)

-- it is loaded as the record of the state that was saved
night_loads : (e m : Records) (night : RecordsNight e m) → CopyLoaded e m night
night_loads e m night =
    let c = e.copy in
    let was = was_saved c (length night.out) night.size (sym night.meets.0 ∙ night.saved) in
    let result : night.result ≡ record { copy = record_of (state_of c); refusal = None } =
    night.loads ∙ ap (λ (l : List ℕ). load_call night.given (take night.size l)) night.meets.1
    ∙ loads_written c night.given night.out night.size was in
    record {
      was = was;
      says = ap (λ (y : LoadedCopy). y.refusal) result;
      copy = night.copy ∙ ap (λ (y : LoadedCopy). y.copy) result;
    }

-- the copy means the state that was saved
loaded_state : (e m : Records) (night : RecordsNight e m) → state_of m.copy ≡ state_of e.copy
loaded_state e m night = ap state_of (night_loads e m night).copy ∙ record_state (state_of e.copy)

-- a night of records is one of the sessions that they mean
night_of : (e m : Records) (said : List Said) → RecordsNight e m → Night (session_of e said) (session_of m [])
night_of e m said night =
    let c = state_of e.copy in
    let was = (night_loads e m night).was in
    let bytes = ap saved_read (saved_front c night.out was.fits) in
    record {
      out = night.out;
      saved = was.fits;
      loaded = bytes ∙ saves_once.back c (rule_ok e.copy was.rule) ∙ ap loads (sym (loaded_state e m night));
      buffer_length = night.buffer_length;
      as_saved = night.as_saved;
    }

-- both lists of calls
pub demand_3_overnight_of_records : Demand3OvernightOfRecords
demand_3_overnight_of_records file tag h w ss m night v ts start meet next =
    let e = after_all w h in
    let s = session_of h [] in
    let evening = demand_3_of_records file tag h w ss start meet in
    let set : Set = held_overnight file tag s (calls_of w) ss in
    let l = night_loads e m night in
    let between = subst (λ (x : Session). Night x (session_of m [])) evening.session (night_of e m _ night) in
    let both = demand_3_overnight file tag s (calls_of w) ss (session_of m []) (calls_of v) ts (start_of file tag h [] start) between in
    let rule : copy_rule m.copy ≡ true = ap copy_rule l.copy ∙ record_rule (state_of e.copy) (rule_ok e.copy l.was.rule) in
    let again = records_start file tag m [] rule both.morning.starts in
    let held = both.morning.same in
    record {
      evening = evening;
      loaded = l.says;
      state = loaded_state e m night;
      same = λ z. l.copy ∙ record_back e.copy z l.was.rule;
      start = again;
      held = held;
      morning = subst (λ (x : Set). KeptFrom file tag m x v ts) held (demand_3_of_records file tag m v ts again next);
    }

-- the copy is saved into max_saved bytes, and loaded in place of itself
pub nights_exist : NightsExist
nights_exist e buffer r rule z long right =
    let c = e.copy in
    let out : List ℕ = replicate max_saved 0 in
    let room : max_saved ≤ length out = let n = length-replicate {A = ℕ} max_saved 0 in omega (arith, n) in
    let size = length (saved_bytes (state_of c)) in
    let saved = saved_records c out rule room in
    record {
      out = out;
      said = save_outcome c (length out);
      written = save_bytes c out;
      meets = (refl, refl);
      size = size;
      saved = saved;
      given = c;
      result = record { copy = c; refusal = None };
      loads = sym (saved_records_back c c out size z saved);
      copy = refl;
      buffer_length = long;
      as_saved = right;
    }
