-- `read_list`: malformed where nothing stands there, where a blank stands first, or where no member has a spec; no parts beyond the limit.
use Rattle.std.proofs.Common.{refl, sym, ◌∙◌, arith}
use Rattle.std.proofs.lemmas.Bool.Decides.{nat_tests}
use Rattle.std.proofs.lemmas.Result.{err_from_is_err_and}
use Rattle.rules_server.specs.Ranges.{members, read_members}
use Rattle.server_ranges.proofs.Members.{list_none, list_blank, list_members}
use Rattle.server_ranges.proofs.Tally.{read_some, read_many, read_nothing, read_broken}
use Rattle.server_ranges.proofs.read_list.Goals as goal
use Rattle.server_ranges.proofs.read_list.Goals.{then-is_empty-via-then-is_empty, then-is_empty-via-else-is_empty+then-is_blank}

-- nothing stands there, or a blank stands first
pub returns-then-is_empty : goal.returns-then-is_empty
returns-then-is_empty c =
    elim c.then-is_empty.branch [
      | then-is_empty-via-then-is_empty w ↦ record { is = list_none c.args.l.now (grind (arith, nat_tests)); size = refl }
      | then-is_empty-via-else-is_empty+then-is_blank w ↦ record { is = list_blank c.args.l.now (sym w.is_blank.ensures ∙ w.if-is_blank.true); size = refl }
    ]

-- a member is no spec
pub returns-in_err-t : goal.returns-in_err-t
returns-in_err-t c =
    let p = err_from_is_err_and c.from_residual.result c.from_residual.ensures.1 in
    rw (p.1, p.2, list_members c.args.l.now (sym c.is_blank.ensures ∙ c.if-is_blank.false))
    (read_broken c.args.n (read_members (members c.args.l.now)) _ (rw c.in_err-t.was at c.read_members.ensures))

-- no member has a spec
pub returns-then-t-eq0 : goal.returns-then-t-eq0
returns-then-t-eq0 c =
    rw (list_members c.args.l.now (sym c.is_blank.ensures ∙ c.if-is_blank.false))
    (read_nothing c.args.n (read_members (members c.args.l.now)) (rw c.in_ok-t.was at c.read_members.ensures) c.if-t-eq0.true)

-- more specs than the limit
pub returns-then-t-gt-MAX_SPECS : goal.returns-then-t-gt-MAX_SPECS
returns-then-t-gt-MAX_SPECS c =
    rw (list_members c.args.l.now (sym c.is_blank.ensures ∙ c.if-is_blank.false))
    (read_many c.args.n (read_members (members c.args.l.now)) (rw c.in_ok-t.was at c.read_members.ensures) (omega arith))

-- a member has a spec
pub returns : goal.returns
returns c =
    rw (list_members c.args.l.now (sym c.is_blank.ensures ∙ c.if-is_blank.false))
    (read_some c.args.n (read_members (members c.args.l.now)) (rw c.in_ok-t.was at c.read_members.ensures) c.if-t-eq0.false (omega arith))
