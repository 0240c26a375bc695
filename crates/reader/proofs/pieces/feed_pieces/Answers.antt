-- `feed_pieces` tests the rules in their order, and then feeds.
-- Assumes nothing.
use mathlib.Core.Path.{sym, ◌∙◌}
use Rattle.reader.specs.Calls.{FeedReady}
use Rattle.reader.proofs.pieces.Loop.{reject, copy_broken, room_broken, reader_broken, accept}
use Rattle.reader.proofs.pieces.feed_pieces.Goals as goal

pub returns-then-not-meets_rule : goal.returns-then-not-meets_rule
returns-then-not-meets_rule c =
    let i = c in
    let a = i.args in
    reject a.c a.r a.buffer.now a.answer.now c.rejected.result c.rejected.ensures
    (copy_broken a.c a.r a.buffer.now
    (sym c.meets_rule.ensures ∙ c.if-not-meets_rule.true))

pub returns-then-buffer-length : goal.returns-then-buffer-length
returns-then-buffer-length c =
    let i = c in
    let a = i.args in
    reject a.c a.r a.buffer.now a.answer.now c.rejected-then-buffer-length.result c.rejected-then-buffer-length.ensures
    (room_broken a.c a.r a.buffer.now
    (sym c.meets_rule.ensures ∙ c.if-not-meets_rule.false)
    c.if-buffer-length.true)

pub returns-then-not-meets_rule-2 : goal.returns-then-not-meets_rule-2
returns-then-not-meets_rule-2 c =
    let i = c in
    let a = i.args in
    reject a.c a.r a.buffer.now a.answer.now c.rejected-then-not-meets_rule-2.result c.rejected-then-not-meets_rule-2.ensures
    (reader_broken a.c a.r a.buffer.now
    (sym c.meets_rule.ensures
    ∙ c.if-not-meets_rule.false)
    c.if-buffer-length.false (sym c.meets_rule-2.ensures
    ∙ c.if-not-meets_rule-2.true))

pub returns : goal.returns
returns c =
    let x = c.feed_right in
    let a = c.args in
    let met : FeedReady a.c a.r a.buffer.now = record {
      copy = sym c.meets_rule.ensures ∙ c.if-not-meets_rule.false;
      room = c.if-buffer-length.false;
      reader = sym c.meets_rule-2.ensures ∙ c.if-not-meets_rule-2.false;
    } in
    accept a.c a.r a.buffer.now a.answer.now x.result _ met x.ensures
