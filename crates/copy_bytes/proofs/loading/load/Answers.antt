-- `load`: the units up to the tag, those behind it, the runs, and nothing behind them.
use Rattle.std.proofs.Common.{ℕ, List, ap, ◌≡◌, ◌∙◌, ◌+◌, ◌-◌, length, take, drop, length-drop, arith}
use Rattle.std.proofs.lemmas.Result.{err_from_is_err_and}
use Rattle.std.proofs.Math.Seq.{length-take-le}
use Rattle.rules_server.specs.RefusalNumbers.{refusal_number}
use Rattle.rules_server.specs.Tags.{is_strong}
use Rattle.octets.proofs.strings.Laws.{part_to_end}
use Rattle.copy_bytes.specs.SavedFiles.{record_with}
use Rattle.copy_bytes.proofs.loading.Laws.{refused_call, loaded_call, first_refused, tag_of, second_refused, third_refused, trailing_refused, all_loaded}
use Rattle.copy_bytes.proofs.loading.Laws.{tag_part, record_is}
use Rattle.copy_bytes.proofs.loading.load.Goals as goal

-- the bytes behind a tag of b bytes, and those behind the numbers
abbrev behind_tag : List ℕ → ℕ → List ℕ
behind_tag file b = take (length file - (6 + b)) (drop (6 + b) file)

abbrev at-runs : List ℕ → List ℕ
at-runs l = take (length l - 10) (drop 10 l)

pub returns-in_err-check_tag_units : goal.returns-in_err-check_tag_units
returns-in_err-check_tag_units c =
    let p = err_from_is_err_and c.from_residual.result c.from_residual.ensures.1 in
    let k = refusal_number c.in_err-check_tag_units.field-0.0 in
    rw (p.1, p.2) (refused_call c.args.file.now k (first_refused c.args.file.now k c.in_err-check_tag_units.ensures))

-- the tag that the units before say
pub slice_bounds-numbers-count : goal.slice_bounds-numbers-count
slice_bounds-numbers-count c =
    let t = tag_of c.args.file.now c.byte_at-behind.result c.in_ok-check_tag_units.ensures c.byte_at-behind.ensures.is in
    omega (arith, t.whole)

pub slice_bounds-numbers-start : goal.slice_bounds-numbers-start
slice_bounds-numbers-start c =
    let t = tag_of c.args.file.now c.byte_at-behind.result c.in_ok-check_tag_units.ensures c.byte_at-behind.ensures.is in
    omega (arith, t.whole)

pub returns-in_err-check_number_units : goal.returns-in_err-check_number_units
returns-in_err-check_number_units c =
    let p = err_from_is_err_and c.from_residual-in_err-check_number_units.result c.from_residual-in_err-check_number_units.ensures.1 in
    let k = refusal_number c.in_err-check_number_units.field-0.0 in
    let file = c.args.file.now in
    let v = c.pair_at-version in
    let b = c.byte_at-behind.result in
    let t = tag_of file b c.in_ok-check_tag_units.ensures c.byte_at-behind.ensures.is in
    rw (p.1, p.2)
    (refused_call file k (second_refused file v.result b v.ensures t _ (part_to_end file (6 + b)) k c.in_err-check_number_units.ensures))

pub returns-in_err-runs : goal.returns-in_err-runs
returns-in_err-runs c =
    let p = err_from_is_err_and c.from_residual-in_err-runs.result c.from_residual-in_err-runs.ensures.1 in
    let k = refusal_number c.in_err-runs.field-0.0 in
    let file = c.args.file.now in
    let v = c.pair_at-version in
    let b = c.byte_at-behind.result in
    let t = tag_of file b c.in_ok-check_tag_units.ensures c.byte_at-behind.ensures.is in
    let l = behind_tag file b in
    let n = c.number_at-length in
    let m = c.pair_at-count in
    rw (p.1, p.2)
    (refused_call file k
    (third_refused file v.result b v.ensures t l (part_to_end file (6 + b)) c.in_ok-check_number_units.ensures n.result m.result n.ensures m.ensures (at-runs l)
    (part_to_end l 10) k c.in_err-runs.ensures))

pub returns-then-count-rest : goal.returns-then-count-rest
returns-then-count-rest c =
    let file = c.args.file.now in
    let v = c.pair_at-version in
    let b = c.byte_at-behind.result in
    let t = tag_of file b c.in_ok-check_tag_units.ensures c.byte_at-behind.ensures.is in
    let l = behind_tag file b in
    let n = c.number_at-length in
    let m = c.pair_at-count in
    refused_call file 30
    (trailing_refused file v.result b v.ensures t l (part_to_end file (6 + b)) c.in_ok-check_number_units.ensures n.result m.result n.ensures m.ensures
    (at-runs l) (part_to_end l 10) c.in_ok-runs.runs c.in_ok-runs.ensures (omega arith))

pub record_with-requires : goal.record_with-requires
record_with-requires c =
    let file = c.args.file.now in
    let v = c.pair_at-version in
    let b = c.byte_at-behind.result in
    let t = tag_of file b c.in_ok-check_tag_units.ensures c.byte_at-behind.ensures.is in
    let part = tag_part file v.result b v.ensures t (behind_tag file b) (part_to_end file (6 + b)) in
    let long : length (take b (drop 6 file)) ≡ b = length-take-le b (drop 6 file) (omega (arith, t.whole, length-drop 6 file)) in
    (omega (arith, t.short, ap length part, long), ap is_strong part ∙ t.strong)

pub returns : goal.returns
returns c =
    let file = c.args.file.now in
    let v = c.pair_at-version in
    let b = c.byte_at-behind.result in
    let t = tag_of file b c.in_ok-check_tag_units.ensures c.byte_at-behind.ensures.is in
    let l = behind_tag file b in
    let there = part_to_end file (6 + b) in
    let n = c.number_at-length in
    let m = c.pair_at-count in
    let numbers = c.in_ok-check_number_units.ensures in
    let behind = part_to_end l 10 in
    let runs = c.in_ok-runs.runs in
    let right = c.in_ok-runs.ensures in
    loaded_call file _ c.record_with.result
    (all_loaded file v.result b v.ensures t l there numbers n.result m.result n.ensures m.ensures (at-runs l) behind runs right (omega arith))
    (c.record_with.ensures
    ∙ ap (λ (s : List ℕ). record_with s n.result runs m.result) (tag_part file v.result b v.ensures t l there)
    ∙ record_is file v.result b v.ensures t l there numbers n.result m.result n.ensures m.ensures (at-runs l) behind runs right)
