-- `value_end` asks for as many bytes as there are.
use Rattle.reader_head.proofs.uncounted_fields.Runs.{run-take}
use Rattle.reader_head.proofs.uncounted_fields.value_end.Goals as goal

pub returns-clause-run : goal.returns-clause-run
returns-clause-run c = (run-take c.args.part.now c.line_run.result c.line_run.ensures).1
