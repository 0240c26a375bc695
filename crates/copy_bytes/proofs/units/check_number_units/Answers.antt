-- `check_number_units`: the length, and the count of runs behind it.
use Rattle.std.proofs.Common.{sym, ap, ◌∙◌}
use Rattle.std.proofs.lemmas.Result.{err_from_is_err_and}
use Rattle.octets.proofs.strings.Laws.{part_to_end}
use Rattle.rules_server.specs.RefusalNumbers.{refusal_number}
use Rattle.rules_tablet.specs.SavedCopies.{run_count_unit, unit_refusal}
use Rattle.copy_bytes.specs.SavedFiles.{versioned}
use Rattle.copy_bytes.proofs.Refusals.{some_number}
use Rattle.copy_bytes.proofs.units.Laws.{length-refused, numbers-said}
use Rattle.copy_bytes.proofs.units.check_number_units.Goals as goal

pub returns-in_err-check_length : goal.returns-in_err-check_length
returns-in_err-check_length c =
    let p = err_from_is_err_and c.from_residual.result c.from_residual.ensures.1 in
    let e = c.in_err-check_length.field-0.0 in
    rw (p.1, p.2) (length-refused c.args.version c.args.rest.now (refusal_number e) c.in_err-check_length.ensures (some_number e))

pub returns : goal.returns
returns c =
    let l = c.args.rest.now in
    let s = c.check_run_count in
    numbers-said c.args.version l (sym c.in_ok-check_length.ensures) s.result
    (s.ensures ∙ ap (unit_refusal (versioned c.args.version) run_count_unit) (part_to_end l 8))
