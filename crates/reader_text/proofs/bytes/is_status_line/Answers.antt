-- `is_status_line` tests as its definition does: the front, the length, the digits, the end or a space.
use native.Mathlib.Omega.{arith}
use mathlib.Core.Path.{sym, ◌∙◌}
use borrow.Author.Tests.{eq-eqb, ne_eqb, lt-leb}
use lib.ListN.{length}
use Rattle.rules_tablet.specs.Fields.{is_status_line}
use Rattle.reader_text.proofs.bytes.Status.{status_rest}
use Rattle.reader_text.proofs.bytes.is_status_line.Goals as goal

-- it begins otherwise
pub returns-then-not-starts_with : goal.returns-then-not-starts_with
unfolding is_status_line
returns-then-not-starts_with c = rw (← c.starts_with.ensures, c.if-not-starts_with.true)

-- it is too short
pub returns-then-l-lt12 : goal.returns-then-l-lt12
unfolding is_status_line
returns-then-l-lt12 c =
    let k = c in
    rw (
      ← k.starts_with.ensures,
      c.if-not-starts_with.false,
      lt-leb 12
          (length k.args.l.now) (omega arith),
    )

-- a byte is no digit
pub returns-then-not-all_digits : goal.returns-then-not-all_digits
returns-then-not-all_digits c =
    let k = c in
    let l = k.args.l.now in
    let front = sym k.starts_with.ensures
    ∙ k.if-not-starts_with.false in
    rw (
      status_rest l front (omega arith),
      ← k.status_digits.ensures,
      ← c.all_digits.ensures,
      c.if-not-all_digits.true,
    )

-- it ends behind the digits
pub returns-then-l-eq12 : goal.returns-then-l-eq12
returns-then-l-eq12 c =
    let k = c in
    let l = k.args.l.now in
    let front = sym k.starts_with.ensures
    ∙ k.if-not-starts_with.false in
    rw (
      status_rest l front (omega arith),
      ← k.status_digits.ensures,
      ← c.all_digits.ensures,
      c.if-not-all_digits.false,
      eq-eqb (length l) 12 (omega arith),
    )

-- a space has to follow
pub returns : goal.returns
returns c =
    let k = c in
    let l = k.args.l.now in
    let front = sym k.starts_with.ensures
    ∙ k.if-not-starts_with.false in
    rw (
      status_rest l front (omega arith),
      ← k.status_digits.ensures,
      ← c.all_digits.ensures,
      c.if-not-all_digits.false,
      ne_eqb (length l) 12 (omega arith),
    )
