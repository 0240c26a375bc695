-- `overwrite` copies byte by byte where the bytes fit: the part is what it was with the first i bytes of `src` put in from `start` on.
use Rattle.std.proofs.Common.{◌+◌, ◌≤◌, ◌≡◌, ◌∙◌, length, sym, arith}
use native.Mathlib.Numerals.{add-one}
use lib.ListN.{length-set}
use lib.Seq.{paste-suc, sets-eq, take-length}
use borrow.Author.Tests.{le-leb}
use Rattle.octets.proofs.overwrites.overwrite.Goals as goal

pub loop-i-preserved : goal.loop-i-preserved
loop-i-preserved c =
    let a = c.args in
    let v = c.loop-i.invariant in (
      rw (v.0, add-one) (paste-suc a.part.now a.start a.src.now c.loop-i.i 0 (omega arith) (omega arith)),
      rw length-set v.1,
    )

pub returns-after-loop-i : goal.returns-after-loop-i
returns-after-loop-i c =
    let a = c.args in
    let fits : a.start + length a.src.now ≤ length a.part.now = omega arith in
    let end : c.loop-i.i ≡ length a.src.now = omega arith in
    rw (le-leb (a.start + length a.src.now) (length a.part.now) fits)
    (c.loop-i.invariant.0 ∙ rw (end, take-length) (sym (sets-eq a.src.now a.part.now a.start fits)))
