-- `begins_with_dash_boundary`: behind `--` the boundary decides.
use Rattle.std.proofs.Common.{[], ◌∷◌, ◌∙◌}
use Rattle.octets.proofs.prefixes.Laws.{begins_same}
use Rattle.server_status.proofs.Fronts.{behind_front}
use Rattle.server_status.proofs.delimiters.begins_with_dash_boundary.Goals as goal

pub returns : goal.returns
returns c =
    let p = c.in-Some.ensures.cases in
    let rest = c.in-Some.rest.now in
    c.starts_with.ensures.value ∙ begins_same c.args.boundary.now rest ∙ behind_front (45 ∷ 45 ∷ []) c.args.boundary.now c.args.l.now rest p.0 p.1
