-- `skip_step` goes up to the last counted byte.
-- Assumes nothing.
use Prim.Native.Nat.{◌+◌}
use native.Mathlib.Omega.{arith}
use Rattle.reader_state.specs.States.{parser_of}
use Rattle.reader_text.proofs.Text.{skip_on, skip_end}
use Rattle.reader_text.proofs.skip_step.Goals as goal

pub returns-then-size-after : goal.returns-then-size-after
returns-then-size-after c = λ line tag boundary f t n piece e.
    let i = c in
    let s = i.args.s in
    rw c.with_framing.ensures (record {
      fits = record { line = f.line; tag = f.tag; boundary = f.boundary };
      went = λ h. skip_on t n piece (parser_of s line tag boundary) h i.args.size i.requires.1 (omega arith) i.requires.0 c.if-size-after.true;
    })

pub returns : goal.returns
returns c = λ line tag boundary f t n piece e.
    let i = c in
    let s = i.args.s in
    rw (c.with_framing-2.ensures, c.with_stage.ensures) (record {
      fits = record { line = f.line; tag = f.tag; boundary = f.boundary };
      went = λ h. skip_end t n piece (parser_of s line tag boundary) h (s.framing.after + 1) (omega arith) (omega (arith, c.if-size-after.false))
          i.requires.0 (omega arith);
    })
