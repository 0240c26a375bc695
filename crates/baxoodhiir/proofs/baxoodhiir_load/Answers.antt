-- `baxoodhiir_load`: 19 of memory of another size, else what loading says; a copy that is loaded is put into the memory.
use Rattle.std.proofs.Common.{◌≡◌, ◌∙◌, sym, ap, length, refl, arith, Err}
use Rattle.rules_server.specs.Limits.{max_tag}
use Rattle.rules_server.specs.RefusalNumbers.{refusal_number}
use Rattle.rules_tablet.specs.Limits.{max_runs}
use Rattle.baxoodhiir.specs.Saves.{CopyMemory}
use Rattle.baxoodhiir.proofs.Loads.{tag_unfit, list_unfit, load_refused, load_loaded}
use Rattle.baxoodhiir.proofs.baxoodhiir_load.Goals as goal

pub returns-then-tag-ne-MAX_TAG : goal.returns-then-tag-ne-MAX_TAG
returns-then-tag-ne-MAX_TAG c =
    let a = c.args in
    let memory : CopyMemory = record { tag = a.tag.now; tag_length = a.tag_len.now; length = a.length.now; runs = a.runs.now } in
    rw c.number.ensures (tag_unfit a.file.now memory c.if-tag-ne-MAX_TAG.true)

pub returns-then-runs-ne-RUNS_SIZE : goal.returns-then-runs-ne-RUNS_SIZE
returns-then-runs-ne-RUNS_SIZE c =
    let a = c.args in
    let memory : CopyMemory = record { tag = a.tag.now; tag_length = a.tag_len.now; length = a.length.now; runs = a.runs.now } in
    rw c.number-then-runs-ne-RUNS_SIZE.ensures (list_unfit a.file.now memory (omega arith) c.if-runs-ne-RUNS_SIZE.true)

pub returns-in-Err : goal.returns-in-Err
returns-in-Err c =
    let a = c.args in
    let memory : CopyMemory = record { tag = a.tag.now; tag_length = a.tag_len.now; length = a.length.now; runs = a.runs.now } in
    rw c.number-in-Err.ensures (load_refused a.file.now memory (omega arith) (omega arith) (refusal_number c.in-Err.refusal) c.in-Err.ensures)

pub returns : goal.returns
returns c =
    let a = c.args in
    let memory : CopyMemory = record { tag = a.tag.now; tag_length = a.tag_len.now; length = a.length.now; runs = a.runs.now } in
    let copy = c.in-Ok.copy in
    let tags : length copy.tag ≡ max_tag = omega arith in
    let full : length copy.runs ≡ max_runs = omega arith in
    load_loaded a.file.now memory (omega (arith, c.if-tag-ne-MAX_TAG.false)) (omega (arith, c.if-runs-ne-RUNS_SIZE.false)) copy _ _ _ _
    c.in-Ok.ensures tags full c.overwrite.ensures refl refl c.put_list.ensures.bytes
