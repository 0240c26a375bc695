-- `feed_right` takes the records apart, feeds the bytes, and puts the records together.
-- Assumes nothing.
use native.Mathlib.Omega.{arith}
use mathlib.Core.Path.{◌≡◌, sym}
use lib.Seq.{length-take-le}
use lib.ListN.{length}
use Rattle.rules_server.specs.Limits.{max_tag}
use Rattle.copy.proofs.Laws.{rule_kept}
use Rattle.reader.proofs.pieces.Loop.{start, end}
use Rattle.reader.proofs.pieces.feed_right.Goals as goal

pub slice_bounds-own-end : goal.slice_bounds-own-end
slice_bounds-own-end c =
    let size : length c.args.c.tag ≡ max_tag = omega arith in
    omega (arith, (rule_kept c.args.c c.requires.copy).short)

pub slice_bounds-feed_bytes-end-4 : goal.slice_bounds-feed_bytes-end-4
slice_bounds-feed_bytes-end-4 c =
    let size : length c.args.c.tag ≡ max_tag = omega arith in
    sym (length-take-le c.args.c.tag_len c.args.c.tag (omega (arith, (rule_kept c.args.c c.requires.copy).short)))

pub feed_bytes-f-requires : goal.feed_bytes-f-requires
feed_bytes-f-requires c =
    let s = c in
    let a = s.args in
    rw c.state_of-s.ensures
    (record {
      feedable = rw s.requires.room (start a.c a.r a.buffer.now a.answer.now s.requires);
      arrays = record { line_room = omega arith; tag_room = omega arith; boundary_room = omega arith };
      small = rw s.requires.room (rule_kept a.c s.requires.copy).below;
    })

pub returns : goal.returns
returns c =
    let s = c in
    let a = s.args in
    let f = rw (
      c.state_of-s.ensures,
      s.requires.room,
    ) at
    c.feed_bytes-f.ensures in
    rw (c.ended.ensures, c.reader_of.ensures)
    (end a.c a.r a.buffer.now a.answer.now s.requires
    c.feed_bytes-f.result.runs _ _
    c.feed_bytes-f.result.taken f)
