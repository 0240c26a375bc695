-- `check_tag_units`: the mark, the version, the count of the tag's bytes, and the tag, each behind the one before it.
use Rattle.std.proofs.Common.{ℕ, List, sym, ap, ◌≡◌, ◌∙◌, ◌-◌, length, take, drop, arith}
use Rattle.std.proofs.lemmas.Result.{err_from_is_err_and}
use mathlib.Core.Path.{ap₂}
use Rattle.octets.proofs.strings.Laws.{part_to_end}
use Rattle.rules_server.specs.RefusalNumbers.{refusal_number}
use Rattle.rules_tablet.specs.SavedCopies.{SavedUnit, version_unit, tag_count_unit, tag_unit, unit_refusal, blank_draft}
use Rattle.copy_bytes.specs.SavedFiles.{counted}
use Rattle.copy_bytes.proofs.Refusals.{some_number}
use Rattle.copy_bytes.proofs.units.Laws.{mark-refused, version-refused, count-refused, five, six, tag-said_lem}
use Rattle.copy_bytes.proofs.units.check_tag_units.Goals as goal

-- what a call says of the bytes from place k on
said_of : (x : SavedUnit) (l : List ℕ) (k r : ℕ) → r ≡ unit_refusal blank_draft x (take (length l - k) (drop k l)) → r ≡ unit_refusal blank_draft x (drop k l)
said_of x l k r e = e ∙ ap (unit_refusal blank_draft x) (part_to_end l k)

pub returns-in_err-check_mark : goal.returns-in_err-check_mark
returns-in_err-check_mark c =
    let p = err_from_is_err_and c.from_residual.result c.from_residual.ensures.1 in
    let e = c.in_err-check_mark.field-0.0 in
    rw (p.1, p.2) (mark-refused c.args.file.now (refusal_number e) c.in_err-check_mark.ensures (some_number e))

pub returns-in_err-check_version : goal.returns-in_err-check_version
returns-in_err-check_version c =
    let p = err_from_is_err_and c.from_residual-in_err-check_version.result c.from_residual-in_err-check_version.ensures.1 in
    let e = c.in_err-check_version.field-0.0 in
    let l = c.args.file.now in
    rw (p.1, p.2)
    (version-refused l (sym c.in_ok-check_mark.ensures) (refusal_number e) (said_of version_unit l 3 _ c.in_err-check_version.ensures) (some_number e))

pub returns-in_err-check_tag_count : goal.returns-in_err-check_tag_count
returns-in_err-check_tag_count c =
    let p = err_from_is_err_and c.from_residual-in_err-check_tag_count.result c.from_residual-in_err-check_tag_count.ensures.1 in
    let e = c.in_err-check_tag_count.field-0.0 in
    let l = c.args.file.now in
    let version = sym (said_of version_unit l 3 0 c.in_ok-check_version.ensures) in
    rw (p.1, p.2)
    (count-refused l (sym c.in_ok-check_mark.ensures) version (refusal_number e) (said_of tag_count_unit l 5 _ c.in_err-check_tag_count.ensures)
    (some_number e))

pub slice_bounds-check_tag_count-count : goal.slice_bounds-check_tag_count-count
slice_bounds-check_tag_count-count c =
    let l = c.args.file.now in
    omega (arith, five l (sym c.in_ok-check_mark.ensures) (sym (said_of version_unit l 3 0 c.in_ok-check_version.ensures)))

pub slice_bounds-check_tag_count-start : goal.slice_bounds-check_tag_count-start
slice_bounds-check_tag_count-start c =
    let l = c.args.file.now in
    omega (arith, five l (sym c.in_ok-check_mark.ensures) (sym (said_of version_unit l 3 0 c.in_ok-check_version.ensures)))

pub slice_bounds-check_tag-count : goal.slice_bounds-check_tag-count
slice_bounds-check_tag-count c =
    let l = c.args.file.now in
    let version = sym (said_of version_unit l 3 0 c.in_ok-check_version.ensures) in
    let count = sym (said_of tag_count_unit l 5 0 c.in_ok-check_tag_count.ensures) in
    omega (arith, six l (sym c.in_ok-check_mark.ensures) version count)

pub slice_bounds-check_tag-start : goal.slice_bounds-check_tag-start
slice_bounds-check_tag-start c =
    let l = c.args.file.now in
    let version = sym (said_of version_unit l 3 0 c.in_ok-check_version.ensures) in
    let count = sym (said_of tag_count_unit l 5 0 c.in_ok-check_tag_count.ensures) in
    omega (arith, six l (sym c.in_ok-check_mark.ensures) version count)

pub returns : goal.returns
returns c =
    let l = c.args.file.now in
    let s = c.check_tag in
    let version = sym (said_of version_unit l 3 0 c.in_ok-check_version.ensures) in
    let count = sym (said_of tag_count_unit l 5 0 c.in_ok-check_tag_count.ensures) in
    tag-said_lem l (sym c.in_ok-check_mark.ensures) version count s.result
    (s.ensures ∙ ap₂ (λ (k : ℕ) (t : List ℕ). unit_refusal (counted k) tag_unit t) c.byte_at.ensures.is (part_to_end l 6))
