-- Calls take whole just the acceptable answers whose data agrees, and the bytes of each stand at their positions.
use mathlib.Core.Path.{refl, sym}
use mathlib.Core.List.{[], append-nil}
use native.Mathlib.Omega.{arith}
use lib.ListN.{length}
use Rattle.rules_tablet.specs.Limits.{max_runs}
use Rattle.rules_demands.specs.RefusalsOfCalls.{joined, held_by}
use Rattle.rules_demands.specs.Demand2Tablet.{AcceptsJust}
use Rattle.laws_refusals.proofs.acceptance.Standing.{bytes_stand}
use Rattle.laws_refusals.proofs.refusals.Calling.{calls_exactly}
use Rattle.laws_exchange.proofs.calls.Answer.{copy_facts}

-- for any pieces
pub accepts_just : AcceptsJust
accepts_just c buffer pieces rule room =
    let says = calls_exactly c buffer pieces rule room in
    let bytes = joined pieces in
    let facts = copy_facts c rule in
    record {
      takes = λ cells last a g. (says.ended (length bytes) last).0
          (record {
            answer = bytes;
            rest = [];
            whole = record { cells = cells; acceptable = a; agrees = g };
            text = sym (append-nil bytes);
            place = refl;
          });
      only = λ i last q.
          let e = (says.ended i last).1 q in
          record {
            ended = e;
            stands = bytes_stand max_runs c.tag c.length (held_by c buffer) last e.answer e.whole.cells facts.formed (omega arith)
                e.whole.acceptable e.whole.agrees;
          };
    }
