-- `meets_rule`: where all tests before the last hold, the last decides.
use Rattle.std.proofs.Common.{ℕ, List, sym, ap, ◌≡◌, ◌∙◌, ◌-◌, length, take, drop, length-drop, arith}
use lib.Seq.{take_all}
use borrow.Author.Tests.{le-leb}
use Rattle.rules_server.specs.Limits.{max_tag, max_file}
use Rattle.rules_server.specs.Octets.{all}
use Rattle.rules_tablet.specs.Limits.{max_runs}
use Rattle.rules_tablet.specs.Copies.{is_zero, all_blank, copy_rule}
use Rattle.copy.proofs.rule.meets_rule.Goals as goal

-- the rest of an array of n places
rest_of : {A : Type 0} (n k : ℕ) (l : List A) → length l ≡ n → take (n - k) (drop k l) ≡ drop k l
rest_of n k l e = take_all (n - k) (drop k l) (simp length-drop (omega arith))

pub returns-then-well_formed : goal.returns-then-well_formed
unfolding copy_rule
returns-then-well_formed c =
    let a = c.args.c in
    let tag : length a.tag ≡ max_tag = omega arith in
    let runs : length a.runs ≡ max_runs = omega arith in
    rw (
      le-leb a.tag_len max_tag (omega arith),
      sym c.is_strong.ensures ∙ c.if-not-is_strong.false,
      sym (c.all_are.ensures ∙ ap (all is_zero) (rest_of max_tag a.tag_len a.tag tag)) ∙ c.if-not-all_are.false,
      le-leb a.length max_file (omega arith),
      le-leb a.count max_runs (omega arith),
      sym c.well_formed-2.ensures ∙ c.if-well_formed.true,
    )
    (c.all_blank.ensures ∙ ap all_blank (rest_of max_runs a.count a.runs runs))
