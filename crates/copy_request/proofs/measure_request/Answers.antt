-- `copy_request::measure_request` meets its contract: the skip that is left tells how many bytes were passed over. Assumes nothing.
use Rattle.std.proofs.Common.{arith}
use Rattle.writing.proofs.window.Laws.{skips_text}
use Rattle.copy_request.proofs.measure_request.Goals as goal

pub overflow_sub-result : goal.overflow_sub-result
overflow_sub-result c = let s = skips_text c.put_request.ensures in omega (arith, s, c.passing-w.ensures.skip)

pub returns : goal.returns
returns c = let s = skips_text c.put_request.ensures in omega (arith, s, c.passing-w.ensures.skip)
