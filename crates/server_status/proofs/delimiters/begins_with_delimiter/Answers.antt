-- `begins_with_delimiter`: behind CR LF the rest decides.
use Rattle.std.proofs.Common.{[], ◌∷◌, ◌∙◌}
use Rattle.rules_server.specs.Answers.{dash_boundary}
use Rattle.server_status.proofs.Fronts.{behind_front}
use Rattle.server_status.proofs.delimiters.begins_with_delimiter.Goals as goal

pub returns : goal.returns
returns c =
    let p = c.in-Some.ensures.cases in
    c.begins_with_dash_boundary.ensures ∙ behind_front (13 ∷ 10 ∷ []) (dash_boundary c.args.boundary.now) c.args.l.now c.in-Some.rest.now p.0 p.1
