-- `open` makes the tests of a bad opening in their order.
use Rattle.std.proofs.Common.{sym, ◌∙◌, arith, rules}
use Rattle.rules_tablet.specs.Copies.{bad_opening}
use Rattle.copy.proofs.Laws.{good_opening, refused_opening}
use Rattle.copy.proofs.open.Goals as goal

-- the tag is wrong
pub returns-then-not-is_strong : goal.returns-then-not-is_strong
unfolding bad_opening
returns-then-not-is_strong c = refused_opening _ _ _ (search rules)

-- the buffer or the length is
pub returns-then-buffer-length : goal.returns-then-buffer-length
unfolding bad_opening
returns-then-buffer-length c = refused_opening _ _ _ (search rules)

-- a fresh copy is opened
pub returns : goal.returns
returns c =
    let s = sym c.is_strong.ensures ∙ c.if-not-is_strong.false in
    rw (c.padded.ensures, c.fresh.ensures) (good_opening _ _ _ s (omega arith) (omega arith) (omega arith))
