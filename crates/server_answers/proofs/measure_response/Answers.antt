-- `measure_response` reckons the length of a plain 206, and writes any other answer behind an enormous skip: what is gone of the skip is its length.
use native.Mathlib.Omega.{arith}
use Rattle.writing.proofs.window.Laws.{skips_text}
use Rattle.server_answers.proofs.Laws.{single_text, text_206}
use Rattle.server_answers.proofs.measure_response.Goals as goal

pub returns-in-206-len1 : goal.returns-in-206-len1
returns-in-206-len1 c =
    let f = c.args.f.now in
    let h = c.in-206-len1 in
    rw (
      text_206 f.boundary.now f.media.now f.file.now f.tag.now c.args.modified.now c.args.parts.now c.args.status c.args.head_only h.is-0,
      single_text f.boundary.now f.media.now f.file.now f.tag.now c.args.modified.now c.args.parts.now h.len_at_least h.len_below,
      c.pass_plain.ensures,
    )

-- the skip only falls
pub overflow_sub-result-2 : goal.overflow_sub-result-2
overflow_sub-result-2 c = omega (arith, skips_text c.put_response.ensures)

pub returns : goal.returns
returns c = rw (skips_text c.put_response.ensures, c.passing-w.ensures.skip)
