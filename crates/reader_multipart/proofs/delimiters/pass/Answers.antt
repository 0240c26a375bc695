-- `pass`: a delimiter's line is passed whole; else what is still to be passed leads where the whole piece does.
use Prim.Native.Nat.{ℕ, ◌+◌, ◌-◌}
use native.Mathlib.Omega.{arith}
use mathlib.Core.Path.{sym, ap, ◌∙◌}
use mathlib.Core.List.{List}
use lib.ListN.{length, drop}
use Rattle.rules_tablet.specs.declared.Stage.TheVariants.{Delimiter}
use Rattle.reader_multipart.specs.Passing.{pass_on}
use Rattle.reader_multipart.proofs.delimiters.Delimiters.{whole-line}
use Rattle.reader_multipart.proofs.delimiters.pass.Goals as goal

pub returns-then-is_delimited : goal.returns-then-is_delimited
returns-then-is_delimited c =
    let a = c.args in
    let x = c.is_delimited.ensures c.if-is_delimited.true in
    let skip = length a.boundary.now + 6 in
    let whole = whole-line a.boundary.now (a.after - skip) a.after (drop skip a.piece.now) (omega (arith, x.counted)) in
    sym (rw x.begins (ap (λ (l : List ℕ). pass_on (record { stage = Delimiter 0; after = a.after; taken = 0 }) a.boundary.now l) x.is ∙ whole))
