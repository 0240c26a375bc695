-- `feed_bytes` meets its contract: before each step the rest of the answer does what is left of the whole, or feeding has ended.
-- Assumes nothing.
use Prim.Native.Nat.{ℕ, suc, ◌-◌, ◌≤◌, ◌<◌}
use native.Mathlib.Omega.{arith}
use mathlib.Core.Path.{◌≡◌, refl, sym, ◌∙◌}
use mathlib.Core.List.{List}
use lib.ListN.{length, take, drop, length-set}
use lib.Seq.{take-take}
use Rattle.rules_tablet.specs.Limits.{max_runs}
use Rattle.rules_tablet.specs.Feeding.{Tablet}
use Rattle.rules_tablet.specs.declared.Reader.{Reader}
use Rattle.copy.specs.declared.runs.RunList.{RunList}
use Rattle.std.specs.Prelude.{Some}
use Rattle.reader.specs.declared.pieces.DataAhead.{DataAhead}
use Rattle.reader.specs.Steps.{ahead_of, DataIs}
use Rattle.reader.proofs.pieces.Data.{ahead_same}
use Rattle.reader.specs.declared.pieces.DataStep.{DataStep}
use Rattle.reader.proofs.pieces.Fronts.{data_longer}
use Rattle.reader.proofs.pieces.Loop.{Phase, Before, is_before, is_limit, is_done, rest_long}
use Rattle.reader.proofs.pieces.Loop.{data_within, data_phase, data_ready}
use Rattle.reader.proofs.pieces.Loop.{text_within, text_phase, text_ready}
use Rattle.reader.proofs.pieces.feed_bytes.Goals as goal

-- ---- a turn of the loop, at a piece that ends behind e bytes
module _ {own : List ℕ} {n : ℕ} {answer : List ℕ} {t : Tablet} {l : RunList} {buffer : List ℕ} {r : Reader} {i limit : ℕ}
    (v : Phase own n answer t l buffer r i limit) (h : i < limit) (e : ℕ) (w : (i < e) × (e ≤ limit)) where
  -- the bytes to come
  abbrev rest : List ℕ
  rest = take (length answer - i) (drop i answer)

  -- the loop goes on up to the end of the answer, and the piece ends there or before
  limit_is : limit ≡ length answer
  limit_is = is_limit v h

  up : i < length answer
  up = omega (arith, limit_is)

  ends : e ≤ length answer
  ends = omega (arith, limit_is)

  all : length answer ≤ length answer
  all = omega arith

  -- what the bytes before have made of the tablet
  present : Before own n answer t l buffer r i
  present = is_before v h

  long : length rest ≡ length answer - i
  long = rest_long present (length answer) up all

  -- what a step over data leaves, of the reader as it stands
  as_stands : (d : DataAhead) → ahead_of r.stage r.framing.after ≡ Some d → (piece : List ℕ) (x : DataStep) (bytes : List ℕ)
      → DataIs l d.stage d.after buffer piece x bytes → DataIs l r.stage r.framing.after buffer piece x bytes
  as_stands d e piece x bytes is = let s = ahead_same r.stage r.framing.after d e in rw (s.0, s.1) at is

  -- a step over data up to the end of the piece
  stretch_is : (d : DataStep) (bytes : List ℕ) → DataIs l r.stage r.framing.after buffer (take (e - i) rest) d bytes
      → DataIs l r.stage r.framing.after buffer rest d bytes
  stretch_is = data_longer (e - i) rest (omega arith) (omega (arith, long, ends)) l r.stage r.framing.after buffer

-- ---- the goals

-- a run that is made longer or begun
pub go_on-p-requires : goal.go_on-p-requires
go_on-p-requires c =
    let l = c.loop-p in
    let v = l.invariant in
    let h = c.loop-p-test.true in
    let e = c.piece_end.result in
    let w = c.piece_end.ensures in
    let g = present v.0 h e w in
    let f = c.in-Some-run_step in
    let is = as_stands v.0 h e w c.in-Some.d (sym c.in-Some.ensures) _ _ _ (f.ensures.taken l.runs refl g.now.few v.5 refl
    (λ u. let m : c.within_runs.result ≡ suc l.p.recent = omega (arith, u, g.now.few) in rw m)
    (data_ready g (length c.args.answer.now) (up v.0 h e w) (all v.0 h e w) c.requires.small)) in (
      omega (arith, data_within g (length c.args.answer.now) (up v.0 h e w) (all v.0 h e w) _ _ is, v.4),
      omega (arith, up v.0 h e w, long v.0 h e w, f.ensures.far, v.4),
    )

pub loop-p-preserved-in-Some-run_step : goal.loop-p-preserved-in-Some-run_step
loop-p-preserved-in-Some-run_step c =
    let l = c.loop-p in
    let v = l.invariant in
    let h = c.loop-p-test.true in
    let e = c.piece_end.result in
    let w = c.piece_end.ensures in
    let g = present v.0 h e w in
    let f = c.in-Some-run_step in
    let is = as_stands v.0 h e w c.in-Some.d (sym c.in-Some.ensures) _ _ _ (f.ensures.taken l.runs refl g.now.few v.5 refl
    (λ u. let m : c.within_runs.result ≡ suc l.p.recent = omega (arith, u, g.now.few) in rw m)
    (data_ready g (length c.args.answer.now) (up v.0 h e w) (all v.0 h e w) c.requires.small)) in
    rw c.go_on-p.ensures (
      data_phase g (length c.args.answer.now) (up v.0 h e w) (all v.0 h e w) _ _ is l.p.limit _ (limit_is v.0 h e w) refl,
      v.1,
      is.index,
      omega (arith, up v.0 h e w, long v.0 h e w, f.ensures.far),
      v.4,
      length-set l.runs.runs f.f.index f.f.run ∙ v.5,
    )

-- a stretch of one piece
pub go_on-p-requires-in_default : goal.go_on-p-requires-in_default
go_on-p-requires-in_default c =
    let l = c.loop-p in
    let v = l.invariant in
    let h = c.loop-p-test.true in
    let e = c.piece_end.result in
    let w = c.piece_end.ensures in
    let t = c.stretch_step-t in
    let is = stretch_is v.0 h e w t.result t.new.buffer
    (as_stands v.0 h e w c.in-Some.d (sym c.in-Some.ensures) _ _ _ (rw c.in_default.ensures at t.ensures)) in (
      omega (arith, data_within (present v.0 h e w) (length c.args.answer.now) (up v.0 h e w) (all v.0 h e w) t.result _ is, v.4),
      omega (arith, ends v.0 h e w, v.4),
    )

pub loop-p-preserved-in_default : goal.loop-p-preserved-in_default
loop-p-preserved-in_default c =
    let l = c.loop-p in
    let v = l.invariant in
    let h = c.loop-p-test.true in
    let e = c.piece_end.result in
    let w = c.piece_end.ensures in
    let t = c.stretch_step-t in
    let is = stretch_is v.0 h e w t.result t.new.buffer
    (as_stands v.0 h e w c.in-Some.d (sym c.in-Some.ensures) _ _ _ (rw c.in_default.ensures at t.ensures)) in
    let size : length t.result.runs.runs ≡ max_runs = omega arith in
    rw c.go_on-p-in_default.ensures (
      data_phase (present v.0 h e w) (length c.args.answer.now) (up v.0 h e w) (all v.0 h e w) t.result _ is l.p.limit _ (limit_is v.0 h e w) refl,
      v.1,
      is.index,
      omega (arith, ends v.0 h e w),
      v.4,
      size,
    )

-- bytes without data
pub go_on-p-requires-in-None : goal.go_on-p-requires-in-None
go_on-p-requires-in-None c =
    let l = c.loop-p in
    let v = l.invariant in
    let h = c.loop-p-test.true in
    let e = c.piece_end.result in
    let w = c.piece_end.ensures in
    let g = present v.0 h e w in
    let answer = c.args.answer.now in
    let m = e - l.p.i in
    let x = c.text_step-t in
    let is = (rw (
      c.with_stage-y.ensures,
      g.now.room,
      take-take m (length answer - l.p.i) (drop l.p.i answer) (omega (arith, ends v.0 h e w)),
    ) at x.ensures).ready
    (text_ready g e w.0 (ends v.0 h e w) (sym c.in-None.ensures) v.1.line_room v.1.tag_room v.1.boundary_room) in
    let far = text_within g e w.0 (ends v.0 h e w) x.result.taken _ is in
    (omega (arith, far, ends v.0 h e w, v.4), omega (arith, ends v.0 h e w, v.4))

pub loop-p-preserved : goal.loop-p-preserved
loop-p-preserved c =
    let l = c.loop-p in
    let v = l.invariant in
    let h = c.loop-p-test.true in
    let e = c.piece_end.result in
    let w = c.piece_end.ensures in
    let g = present v.0 h e w in
    let answer = c.args.answer.now in
    let m = e - l.p.i in
    let x = c.text_step-t in
    let is = (rw (
      c.with_stage-y.ensures,
      g.now.room,
      take-take m (length answer - l.p.i) (drop l.p.i answer) (omega (arith, ends v.0 h e w)),
    ) at x.ensures).ready
    (text_ready g e w.0 (ends v.0 h e w) (sym c.in-None.ensures) v.1.line_room v.1.tag_room v.1.boundary_room) in
    rw c.go_on-p-in-None.ensures (
      text_phase g e w.0 (ends v.0 h e w) x.result.taken _ is l.p.limit _ (limit_is v.0 h e w) refl,
      record {
        line_room = x.auto.line ∙ v.1.line_room;
        tag_room = x.auto.tag ∙ v.1.tag_room;
        boundary_room = x.auto.boundary ∙ v.1.boundary_room;
      },
      v.2,
      omega (arith, ends v.0 h e w),
      v.4,
      v.5,
    )

pub returns : goal.returns
returns c = rw c.with_stage-state.ensures (is_done c.loop-p.invariant.0 (omega (arith, c.loop-p-test.false)))
