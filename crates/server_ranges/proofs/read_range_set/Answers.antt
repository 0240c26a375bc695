-- `read_range_set`: another unit where the value is shorter than `bytes=` or does not start with it; otherwise the list behind it.
use Rattle.std.proofs.Common.{refl, sym, ap, ◌∙◌, arith, length, take, length-take}
use Rattle.rules_server.specs.Octets.{same_fold}
use Rattle.rules_server.specs.Texts.{bytes_unit}
use Rattle.octets.proofs.strings.Laws.{same_fold_unlike}
use Rattle.server_ranges.proofs.Members.{range_other, range_bytes}
use Rattle.server_ranges.proofs.read_range_set.Goals as goal

-- the value is shorter than the unit
pub returns-in_default : goal.returns-in_default
returns-in_default c =
    let v = c.args.v.now in
    record {
      is = range_other v
          (same_fold_unlike (take (length bytes_unit) v) bytes_unit (λ e. omega (arith, length-take (length bytes_unit) v, c.in_default.ensures.cases)));
      size = refl;
    }

-- it starts with another
pub returns-then-not-same_fold : goal.returns-then-not-same_fold
returns-then-not-same_fold c =
    record {
      is = range_other c.args.v.now (ap (λ u. same_fold u bytes_unit) (sym c.in-Some.ensures.cases.1) ∙ sym c.same_fold.ensures ∙ c.if-not-same_fold.true);
      size = refl;
    }

-- it starts with the unit
pub returns : goal.returns
returns c =
    let p = c.in-Some.ensures.cases in
    rw (range_bytes c.args.v.now (ap (λ u. same_fold u bytes_unit) (sym p.1) ∙ sym c.same_fold.ensures ∙ c.if-not-same_fold.false), ← p.2) c.read_list.ensures
