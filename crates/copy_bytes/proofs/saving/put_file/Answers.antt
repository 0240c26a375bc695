-- `put_file` writes the parts of a saved file one behind the other.
use Rattle.writing.proofs.window.Laws.{append}
use Rattle.rules_tablet.specs.SavedCopies.{saved_under}
use Rattle.copy_bytes.proofs.saving.put_file.Goals as goal

pub returns : goal.returns
unfolding saved_under
returns c =
    append c.put.ensures
    (append c.put_in_bytes.ensures
    (append c.put_in_bytes-2.ensures (append c.put-2.ensures (append c.put_eight.ensures (append c.put_in_bytes-3.ensures c.put_runs.ensures)))))
