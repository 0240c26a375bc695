-- `put_multipart`: the head, and the body written behind it or all passed over.
use Prim.Native.Nat.{◌-◌}
use mathlib.Core.Path.{◌≡◌, refl, sym}
use native.Mathlib.Omega.{arith}
use lib.ListN.{length}
use Rattle.writing.specs.Window.{Wrote}
use Rattle.writing.proofs.window.Laws.{append, passed}
use Rattle.server_answers.specs.Bodies.{body_text}
use Rattle.server_answers.proofs.put_multipart.Goals as goal

pub returns-then-is_skipped : goal.returns-then-is_skipped
returns-then-is_skipped c =
    let f = c.args.f.now in
    let m = c.measure_parts-length in
    let body = body_text f.boundary.now f.media.now f.file.now c.args.parts.now in
    let test = c.is_skipped.ensures c.if-is_skipped.true in
    let exact : m.result ≡ length body = omega (arith, m.ensures, test.0) in
    let v = c.put_multipart_head.new.w in
    let over : Wrote body v (record { out = v.out; skip = v.skip - m.result; at = v.at }) =
    record { name = refl; bytes = rw exact (sym (passed body v.out.now v.skip v.at (omega (arith, exact, test.1)))) } in
    rw (← m.ensures) (append c.put_multipart_head.ensures over)

pub returns-else-is_skipped : goal.returns-else-is_skipped
returns-else-is_skipped c = rw (← c.measure_parts-length.ensures) (append c.put_multipart_head.ensures c.put_parts.ensures)
