-- `all_blank` gathers the bits of all runs.
use Rattle.std.proofs.Common.{ℕ, ◌≡◌, bit_or, rules}
use Rattle.std.specs.List.{fold}
use Rattle.rules_server.specs.declared.Run.{Run}
use Rattle.copy.proofs.rule.Laws.{gathered}
use Rattle.copy.proofs.rule.all_blank.Goals as goal

pub returns : goal.returns
returns c =
    let e : c.fold.result ≡ fold (λ (s : ℕ) (r : Run). bit_or (bit_or s r.first) r.last) 0 c.args.runs.now = search rules in
    rw e (gathered 0 c.args.runs.now)
