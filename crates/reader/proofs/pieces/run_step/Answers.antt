-- `run_step` stores the bytes and goes on behind them, where a run has a place for them.
-- Assumes nothing.
use Rattle.std.proofs.Common.{None, ◌≡◌, ◌+◌, ◌-◌, ◌≤◌, length, take, drop, arith, length-drop}
use Rattle.std.proofs.Math.Seq.{length-take-le, take-take}
use Rattle.rules_tablet.specs.Runs.{run}
use Rattle.reader_data.proofs.Laws.{put_sets}
use Rattle.reader.specs.Steps.{with, DataReady}
use Rattle.reader.proofs.pieces.Data.{ahead_room, data_is}
use Rattle.reader.proofs.pieces.Longer.{on_placed}
use Rattle.reader.proofs.pieces.Fronts.{front_long, data_longer}
use Rattle.reader.proofs.pieces.run_step.Goals as goal

pub returns : goal.returns
returns c =
    let a = c.args in
    let d = a.d in
    let rest = a.rest.now in
    let buffer = a.buffer.now in
    let k = c.min-k.result in
    let free = c.free_bytes.result in
    let place = c.in_ok-place.place in
    let placed = rw c.in_ok-place.was at c.place_of.ensures in
    let room = ahead_room d (length buffer) c.requires.0 in
    let given : length (take k rest) ≡ k = length-take-le k rest (omega arith) in
    let part : length (take k rest) ≤ length (take (length buffer - d.next) (drop d.next buffer)) =
    rw (given, length-take-le (length buffer - d.next) (drop d.next buffer) (rw length-drop (omega arith))) (omega arith) in
    let some : 1 ≤ free = omega arith in
    let long = front_long free rest some c.free_bytes.ensures in
    rw (
      c.stage_behind.ensures,
      c.saturating_sub.ensures,
      c.store_pieces-far.ensures.stored,
      put_sets d.next (length buffer - d.next) buffer (take k rest) part (rw given (omega arith)),
    )
    (record {
      far = c.store_pieces-far.ensures.end;
      taken = λ l ec few whole eq ex ready.
          let front : DataReady l buffer (take free rest) = record { formed = ready.formed; given = rw long some; small = ready.small } in
          let on =
          on_placed l buffer d.next (take free rest) d.room a.recent k a.q a.x front (omega (arith, few, ec)) whole eq (λ u. ex (omega (arith, u, ec)))
          (rw long c.min-k.ensures) room.some room.fits place (rw (← ec) at placed) in
          let is = data_is l buffer (take free rest) front place.index on.0 d c.requires.0
          (record { runs = with l place.index (run place.first (d.next + (k - 1))) place.count; taken = k; refusal = None }) _ on.1 in
          data_longer free rest some c.free_bytes.ensures l d.stage d.after buffer _ _ (rw (take-take k free rest (omega arith)) at is);
    })
