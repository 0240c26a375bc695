-- `delimiter_in_parts`: it stands in the data of some part.
use Rattle.std.proofs.Common.{◌++◌, ◌∙◌, rules}
use Rattle.std.proofs.lemmas.Iterator.{YieldsList-from_slice}
use Rattle.std.proofs.lemmas.Iterator.Search.{any_from_yields_List}
use Rattle.rules_server.specs.Octets.{occurs}
use Rattle.rules_server.specs.Texts.{crlf}
use Rattle.rules_server.specs.Answers.{dash_boundary, data_of}
use Rattle.server_status.proofs.delimiters.Laws.{in_some_part}
use Rattle.server_status.proofs.delimiters.delimiter_in_parts.Goals as goal

pub returns : goal.returns
returns c =
    let a = c.args in
    any_from_yields_List (λ r. occurs (crlf ++ dash_boundary a.boundary.now) (crlf ++ data_of a.file.now r)) _ _ c.any.result c.any.ensures.ran
    (YieldsList-from_slice a.parts.now cc) (λ x b q k. search rules)
    ∙ in_some_part a.boundary.now a.file.now a.parts.now
