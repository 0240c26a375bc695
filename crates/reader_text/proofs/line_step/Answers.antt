-- `line_step` takes bytes of a line at once; where none comes so, the parser reads the next byte, which is counted where it is not refused.
-- Assumes nothing.
use Prim.Native.Nat.{ℕ, ◌+◌, ◌-◌, ◌≤◌, min}
use native.Mathlib.Omega.{arith}
use mathlib.Core.Path.{◌≡◌, refl, sym, ◌∙◌}
use mathlib.Core.Bool.{Bool, true, false, cond, true≢false}
use mathlib.Core.List.{List}
use lib.ListN.{length, take, length-take}
use lib.Seq.{length-take-le}
use borrow.Author.Tests.{le-leb}
use Rattle.rules_tablet.specs.Limits.{max_line}
use Rattle.reader_text.specs.Lines.{LineReady}
use Rattle.reader_state.specs.States.{parser_of}
use Rattle.reader_text.specs.Steps.{LineRun}
use Rattle.reader_text.proofs.Byte.{refused_is, taken_is}
use Rattle.reader_text.proofs.Text.{run_is, line_going, line_went, take_sets, byte_on, byte_off}
use Rattle.reader_text.proofs.line_step.Goals as goal

-- a number that is not 0
some : (k : ℕ) → (k ≡ 0 → ⊥) → 1 ≤ k
some k e = omega arith

-- behind CR no byte comes at once
no_cr : (cr : Bool) (most k x : ℕ) → most ≡ cond cr 0 x → k ≤ most → (k ≡ 0 → ⊥) → cr ≡ false
no_cr true most k x e u z = absurd (z (omega arith))
no_cr false most k x e u z = refl

room_is : (cr : Bool) (most x : ℕ) → cr ≡ false → most ≡ cond cr 0 x → most ≡ x
room_is true most x c e = absurd (true≢false c)
room_is false most x c e = e

-- no more comes at once than there is room for
room_least : (b : Bool) (len after most : ℕ) (piece : List ℕ) (k : ℕ) → len ≤ max_line → most ≡ cond b (min (max_line - len) after) (max_line - len)
    → LineRun piece most k → len + k ≤ max_line
room_least true len after most piece k u e r = omega (arith, r.few)
room_least false len after most piece k u e r = omega (arith, r.few)

-- a line and the room behind it
line-fits : (k : ℕ) (l : List ℕ) → k ≤ max_line → length (take k l) + (max_line - k) ≤ max_line
line-fits k l u = rw (length-take k l) (omega arith)

pub slice_bounds-overwrite-end : goal.slice_bounds-overwrite-end
slice_bounds-overwrite-end c =
    let piece = c.args.piece.now in
    let k = c.line_run-k.result in
    sym (length-take-le k piece (run_is piece c.line_room-most.result k c.line_run-k.ensures).within)

pub returns-then-k-ne0 : goal.returns-then-k-ne0
returns-then-k-ne0 c =
    let a = c.args in
    let s = a.s in
    let len = s.line_len in
    let piece = a.piece.now in
    let run = c.line_run-k in
    let room = c.line_room-most in
    let k = run.result in
    let ran = run_is piece room.result k run.ensures in
    let unended = no_cr s.cr room.result k _ room.ensures ran.few c.if-k-ne0.true in
    let most = room_is s.cr room.result _ unended room.ensures in
    let u = room_least a.is_part len s.framing.after room.result piece k
    c.requires.0.arrays.within.line_fits most ran in
    let v = c.requires.0.arrays in
    let fit : len + k ≤ length a.line.now = omega (arith, u, v.line_room) in
    let m = length-take-le k piece ran.within in
    let put = rw (m, le-leb (len + k) (length a.line.now) fit) at c.overwrite.ensures in
    let grown = take_sets a.line.now len k (take k piece) _ fit m put in
    rw (c.with_framing.ensures, c.with_line.ensures, c.line_left-left.ensures) (record {
      fits = record { line = u; tag = v.within.tag_fits; boundary = v.within.boundary_fits };
      went = λ h.
          rw grown
          (line_went a.wanted.now.tag.now a.wanted.now.length piece (parser_of s a.line.now a.tag.now a.boundary.now) h k room.result
          (some k c.if-k-ne0.true) ran unended
          a.is_part (max_line - len) c.requires.1 (line-fits len a.line.now v.within.line_fits) most);
    })

pub returns-then-is_refused : goal.returns-then-is_refused
returns-then-is_refused c =
    let f = c.parse_byte-x in
    let a = c.args in
    let t = a.wanted.now.tag.now in
    let line = a.line.now in
    let tag = a.tag.now in
    let boundary = a.boundary.now in
    let w = c.requires.0 in
    let going = line_going a.s.stage a.is_part
    c.requires.1 in
    let z : LineReady a.s line tag boundary = record { arrays = w.arrays; reads = going.line } in
    let refused = sym c.is_refused.ensures ∙ c.if-is_refused.true in
    let x = refused_is t a.wanted.now.length a.s line tag boundary w _ f.result _ _ _ (f.ensures.step z).0 refused (f.ensures.kept z refused) in
    rw c.with_stage.ensures (record {
      fits = x.fits;
      went = λ h. byte_off t a.wanted.now.length a.piece.now (parser_of a.s line tag boundary) h _
          c.requires.2 going x.is refused;
    })

pub returns : goal.returns
returns c =
    let f = c.parse_byte-x in
    let a = c.args in
    let t = a.wanted.now.tag.now in
    let line = a.line.now in
    let tag = a.tag.now in
    let boundary = a.boundary.now in
    let w = c.requires.0 in
    let going = line_going a.s.stage a.is_part
    c.requires.1 in
    let z : LineReady a.s line tag boundary = record { arrays = w.arrays; reads = going.line } in
    let taken = sym c.is_refused.ensures ∙ c.if-is_refused.false in
    let x = taken_is t a.wanted.now.length a.s line tag boundary w _ f.result _ _ _ (f.ensures.step z).0 taken (f.ensures.step z).1 in
    record {
      fits = x.fits;
      went = λ h. byte_on t a.wanted.now.length a.piece.now (parser_of a.s line tag boundary) h _
          c.requires.2 going x.is taken;
    }
