-- `meets_rule` tests the lengths of the arrays first, and then what the record means.
-- Assumes nothing.
use native.Mathlib.Nat.{sub-zero}
use native.Mathlib.Omega.{arith}
use mathlib.Core.Path.{◌≡◌}
use lib.ListN.{length, length-take}
use borrow.Author.Tests.{le-leb, lt-leb}
use Rattle.rules_server.specs.Limits.{max_tag, max_boundary}
use Rattle.rules_tablet.specs.Limits.{max_line}
use Rattle.rules_tablet.specs.Readers.{parser_in}
use Rattle.copy.specs.States.{state_of}
use Rattle.reader.specs.Rules.{reader_rule}
use Rattle.reader.proofs.rule.Laws.{stage_looks, rule_parts, take_least}
use Rattle.reader.proofs.rule.meets_rule.Goals as goal

pub returns-then-r-gt-MAX_LINE : goal.returns-then-r-gt-MAX_LINE
unfolding reader_rule
returns-then-r-gt-MAX_LINE c =
    let a = c.args in
    rw (lt-leb a.r.line_len max_line (omega arith))

pub returns-then-tag_len-gt-MAX_TAG : goal.returns-then-tag_len-gt-MAX_TAG
unfolding reader_rule
returns-then-tag_len-gt-MAX_TAG c =
    let a = c.args in
    rw (le-leb a.r.line_len max_line (omega arith), lt-leb a.r.tag_len max_tag (omega arith))

pub returns-then-boundary_len-gt-MAX_BOUNDARY : goal.returns-then-boundary_len-gt-MAX_BOUNDARY
unfolding reader_rule
returns-then-boundary_len-gt-MAX_BOUNDARY c =
    let a = c.args in
    rw (le-leb a.r.line_len max_line (omega arith), le-leb a.r.tag_len max_tag (omega arith), lt-leb a.r.boundary_len max_boundary (omega arith))

pub returns : goal.returns
unfolding reader_rule
returns c =
    let r = c.args.r in
    let k = c.args.c in
    let size : length k.tag ≡ max_tag = omega arith in
    let framed = rw (sub-zero r.boundary_len) at c.frame_right-framed.ensures in
    let stands = rw (
      sub-zero r.boundary_len,
      sub-zero r.tag_len,
      sub-zero c.min-copy_end.result,
      c.min-copy_end.ensures,
      take_least k.tag_len max_tag k.tag size,
    ) at c.stage_right-stands.ensures in
    rw (
      le-leb r.line_len max_line (omega arith),
      le-leb r.tag_len max_tag (omega arith),
      le-leb r.boundary_len max_boundary (omega arith),
      rule_parts (state_of k) (parser_in r) (simp length-take (omega arith)) (simp length-take (omega arith)) (simp length-take (omega arith)),
      ← stage_looks (state_of k) r.stage (parser_in r),
      ← framed,
      ← stands,
    )
