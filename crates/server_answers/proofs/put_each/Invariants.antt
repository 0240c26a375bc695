-- `put_each`: the parts that are left, written behind those before, are all parts written from the start.
use mathlib.Core.Path.{◌≡◌}
use lib.ListN.{drop}
use Rattle.writing.specs.Window.{window_of, write}
use Rattle.server_answers.specs.Bodies.{parts_text}
use Rattle.server_answers.proofs.put_each.Given as goal

abbrev pub invariant-loop-r : goal.invariant-loop-r
invariant-loop-r l =
    (l.w.out.ghost_name ≡ l.initial.w.out.ghost_name)
    × (write (parts_text l.f.boundary.now l.f.media.now l.f.file.now (drop l.r-index l.parts)) (window_of l.w)
    ≡ write (parts_text l.f.boundary.now l.f.media.now l.f.file.now l.parts) (window_of l.initial.w))
