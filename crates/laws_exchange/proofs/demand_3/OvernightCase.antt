-- The concrete case of demand 3 after loading, by computation.
use Prim.Native.Nat.{ℕ, zero, suc, ◌≤◌}
use native.Mathlib.Omega.{arith}
use mathlib.Core.Path.{◌≡◌, refl, sym, ap, subst, ◌∙◌}
use mathlib.Core.Bool.{true, true≢false}
use mathlib.Core.List.{List, [], ◌∷◌, ◌++◌}
use Rattle.std.specs.Prelude.{None}
use lib.ListN.{length, get_or, take, drop}
use Rattle.rules_server.specs.Octets.{codes}
use Rattle.rules_server.specs.Texts.{status206}
use Rattle.rules_server.specs.Numbers.{in_bytes}
use Rattle.rules_tablet.specs.Runs.{run, member}
use Rattle.rules_tablet.specs.Calls.{State, complete_call}
use Rattle.rules_tablet.specs.SavedCopies.{saved_under, saved_bytes, save_refusal, save_call, read_units, loads, saved_read}
use Rattle.rules_demands.specs.AnchorSamples.{dots}
use Rattle.rules_demands.specs.Demand3Sessions.{delivered, ours, Session, begun, run_calls}
use Rattle.rules_demands.specs.Demand3Cases.{tag, fresh_for, wants, digits, multipart, broken}
use Rattle.rules_demands.specs.Demand3Overnight.{Night, Reloaded}
use Rattle.rules_demands.specs.SavedRefusals.{one, runs_in}
use Rattle.rules_demands.specs.Demand3OvernightCase.{evening_calls, evening, saved_digits, saved_earlier, morning, request, resumption, morning_calls}
use Rattle.rules_demands.specs.Demand3OvernightCase.{OvernightCase}
use Rattle.rules_demands.specs.RequestReading.{request_in}
use Rattle.laws_runs.proofs.Members.{not-behind}
use Rattle.laws_exchange.proofs.demand_3.Demand3.{demand_3}
use Rattle.laws_exchange.proofs.demand_3.Corollary.{opening_starts}
use Rattle.laws_exchange.proofs.demand_3.Cases.{computes, from_ours, holding, first_leaves}
use Rattle.laws_exchange.proofs.demand_3.Overnight.{demand_3_overnight, demand_3_reloaded}

-- the first session leaves the copy that the second begins with
evening_copy : evening.copy ≡ morning.copy
evening_copy = ap (λ (x : Session). x.copy) first_leaves

-- and this buffer
evening_buffer : evening.buffer ≡ codes "012......."
evening_buffer = ap (λ (x : Session). x.buffer) first_leaves

-- the copy is saved into 40 bytes
copy_fits : save_refusal morning.copy 40 ≡ None
unfolding computes in_bytes saved_under save_refusal
copy_fits = refl

-- with these bytes at the front
copy_saved : save_call morning.copy (dots 40) ≡ saved_digits ++ dots 4
unfolding computes in_bytes saved_under save_refusal save_call
copy_saved = refl

-- they are read as the copy
digits_loaded : saved_read saved_digits ≡ loads morning.copy
unfolding computes read_units saved_read
digits_loaded = refl

-- so the copy is loaded from the buffer
copy_loaded : saved_read (take (length (saved_bytes morning.copy)) (save_call morning.copy (dots 40))) ≡ loads morning.copy
unfolding in_bytes saved_under
copy_loaded = ap (λ (l : List ℕ). saved_read (take 36 l)) copy_saved ∙ digits_loaded

-- the data are as they were at the held positions
as_saved_lem : (p : ℕ) → member p (run 0 2 ∷ []) ≡ true → get_or (codes "012xxxxxxx") p 0 ≡ get_or (codes "012.......") p 0
as_saved_lem zero h = refl
as_saved_lem (suc zero) h = refl
as_saved_lem (suc (suc zero)) h = refl
as_saved_lem (suc (suc (suc p))) h =
    absurd (true≢false (sym h ∙ not-behind 0 3 (suc (suc (suc p))) (run 0 2 ∷ []) (omega arith, omega arith, omega arith, tt) (omega arith)))

-- the copy is saved and loaded, and the data have their bytes at the held positions
case_night : Night evening morning
case_night = record {
  out = dots 40;
  saved = ap (λ (c : State). save_refusal c 40) evening_copy ∙ copy_fits;
  loaded = subst (λ (c : State). saved_read (take (length (saved_bytes c)) (save_call c (dots 40))) ≡ loads morning.copy) (sym evening_copy) copy_loaded;
  buffer_length = sym (ap length evening_buffer);
  as_saved = λ p h.
      as_saved_lem p (ap (λ (c : State). member p c.runs) (sym evening_copy) ∙ h) ∙ ap (λ (l : List ℕ). get_or l p 0) (sym evening_buffer);
}

-- under version 1 it has the same bytes but for the version
copy_earlier : saved_under 1 morning.copy ≡ saved_earlier
unfolding computes in_bytes saved_under
copy_earlier = refl

-- they are read as the copy
earlier_loaded : saved_read saved_earlier ≡ loads morning.copy
unfolding computes read_units saved_read
earlier_loaded = refl

-- so a file of version 1 is loaded as it
case_reloaded : Reloaded evening morning
case_reloaded = record {
  version = one;
  few = subst (λ (c : State). length c.runs ≤ runs_in one) (sym evening_copy) (omega arith);
  loaded = ap saved_read (ap (saved_under 1) evening_copy ∙ copy_earlier) ∙ earlier_loaded;
  buffer_length = case_night.buffer_length;
  as_saved = case_night.as_saved;
}

-- the second session's end
morning-ends : begun (run_calls morning_calls morning) ≡ holding (run 0 9 ∷ []) digits
unfolding computes
morning-ends = refl

pub overnight_case : OvernightCase
unfolding computes case_night case_reloaded
overnight_case =
    let starts = opening_starts digits tag (dots 10) refl in
    let first = from_ours None digits (wants "bytes=0-2,6-7") status206 (delivered broken) (drop 190 multipart) refl refl refl refl in
    let second = from_ours None digits (request_in request) status206 (delivered resumption) [] refl refl refl refl in
    record {
      starts = starts;
      first = first;
      held = ap (λ (c : State). c.runs) evening_copy;
      buffer = evening_buffer;
      saved = ap (λ (c : State). save_call c (dots 40)) evening_copy ∙ copy_saved;
      loaded = digits_loaded;
      night = case_night;
      into = refl;
      writes = refl;
      second = second;
      demand = demand_3_overnight digits tag (fresh_for digits) evening_calls (ours first.source, tt) morning morning_calls
          (ours second.source, tt) starts case_night;
      asks = refl;
      said = refl;
      runs = ap (λ (x : Session). x.copy.runs) morning-ends;
      whole = ap (λ (x : Session). x.buffer) morning-ends;
      complete = ap (λ (x : Session). complete_call x.copy) morning-ends;
      earlier = ap (saved_under 1) evening_copy ∙ copy_earlier;
      reloaded = case_reloaded;
      under = refl;
      resumed = (demand_3_reloaded digits tag evening morning morning_calls (ours second.source, tt)
          (demand_3 digits tag (fresh_for digits) evening_calls (ours first.source, tt) starts).kept.again case_reloaded).1;
    }
