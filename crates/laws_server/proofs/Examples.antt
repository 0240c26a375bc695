-- Document 01's examples marked P: every row of the table is what the definitions give, by computation.
use mathlib.Core.Path.{refl}
use Rattle.rules_server.specs.Numerals.{print}
use Rattle.rules_server.specs.Ranges.{read_range}
use Rattle.rules_server.specs.Parts.{near, parts_of}
use Rattle.rules_server.specs.Status.{failing, rows, decide, specs}
use Rattle.rules_server.specs.Answers.{multipart_line, range_line, unsatisfied_line, length_line, part_head, closing, ok_answer, unsatisfied_answer, plain_answer}
use Rattle.rules_server.specs.Answers.{multipart_answer, parts_for, answer}
use Rattle.rules_demands.specs.Examples.{given, examples, ExamplesHold}

pub examples_hold : ExamplesHold
unfolding given examples print read_range near parts_of failing rows decide specs multipart_line range_line unsatisfied_line length_line part_head closing ok_answer
    unsatisfied_answer plain_answer multipart_answer parts_for answer
examples_hold = refl
