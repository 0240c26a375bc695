-- `read_spec`: no `-` behind the digits is no spec; with one the digits on its two sides decide.
use Rattle.std.proofs.Common.{◌≡◌, ◌+◌, sym, ap, ◌∙◌, length, arith}
use Rattle.std.proofs.Math.ListN.{get_or-eq_default}
use Rattle.rules_server.specs.Ranges.{digits}
use Rattle.octets.proofs.strings.Laws.{part_to_end}
use Rattle.server_ranges.specs.Reads.{read_text, read_between}
use Rattle.server_ranges.proofs.Laws.{read_none, read_dash, between_suffix, between_from, between_both}
use Rattle.server_ranges.proofs.read_spec.Goals as goal
use Rattle.server_ranges.proofs.read_spec.Goals.{then-k-m-via-then-k-m, then-k-m-via-else-k-m+then-m-k-ne45, in-0-default, in_default-eq0, in_default}

-- the text ends behind its digits, or another byte than `-` stands there
pub returns-then-k-m : goal.returns-then-k-m
returns-then-k-m c =
    let m = c.args.m.now in
    let k = c.count_digits-k.result in
    elim c.then-k-m.branch [
      | then-k-m-via-then-k-m w ↦ read_none m k c.count_digits-k.ensures.count (λ e. omega (arith, get_or-eq_default m 0 {n = k} (omega arith)))
      | then-k-m-via-else-k-m+then-m-k-ne45 w ↦ read_none m k c.count_digits-k.ensures.count w.if-m-k-ne45.true
    ]

-- no digits on either side
pub returns-in-0-eq0 : goal.returns-in-0-eq0
returns-in-0-eq0 c =
    let m = c.args.m.now in
    let k = c.count_digits-k.result in
    let dash : read_between k k c.count_digits-j.result ≡ read_text m =
    read_dash m k c.count_digits-j.result c.count_digits-k.ensures.count c.if-m-k-ne45.false
    (c.count_digits-j.ensures.count ∙ ap (λ l. length (digits l)) (part_to_end m (k + 1))) in
    rw (c.in-0-eq0.is-0, c.in-0-eq0.is-1) at dash

-- digits behind the `-`, before it, or on both sides
pub returns : goal.returns
returns c =
    let m = c.args.m.now in
    let k = c.count_digits-k.result in
    let j = c.count_digits-j.result in
    let dash : read_between k k j ≡ read_text m =
    read_dash m k j c.count_digits-k.ensures.count c.if-m-k-ne45.false (c.count_digits-j.ensures.count ∙ ap (λ l. length (digits l)) (part_to_end m (k + 1))) in
    elim c.match-k.branch [
      | in-0-default w ↦ rw w.spec-is (between_suffix k j w.in-0-default.is-1.1 ∙ ap (λ i. read_between k i j) (sym w.in-0-default.is-0) ∙ dash)
      | in_default-eq0 w ↦ rw (w.spec-is, w.in_default-eq0.is-1)
          (between_from k k w.in_default-eq0.is-0.1 ∙ ap (read_between k k) (sym w.in_default-eq0.is-1) ∙ dash)
      | in_default w ↦ rw w.spec-is (between_both k k j w.in_default.is-0.1 w.in_default.is-1.1 ∙ dash)
    ]
