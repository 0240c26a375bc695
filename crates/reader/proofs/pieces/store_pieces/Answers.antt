-- `store_pieces` stores piece by piece: what is still to be stored makes of the part what all of it makes of the part before. The measure is what is left.
-- Assumes nothing.
use Prim.Native.Nat.{◌+◌}
use native.Mathlib.Omega.{arith}
use mathlib.Core.Path.{◌≡◌, ◌∙◌}
use mathlib.Core.List.{[]}
use lib.ListN.{length, drop, drop_of_length-le}
use Rattle.reader.proofs.pieces.Stored.{next_piece, first_piece}
use Rattle.reader.proofs.pieces.store_pieces.Goals as goal

pub loop-i-preserved : goal.loop-i-preserved
loop-i-preserved c =
    let src = c.args.src.now in
    let v = c.loop-i.invariant in
    let i = c.loop-i.i in
    rw c.overwrite-in-loop-i.ensures
    (next_piece c.loop-i.part src _ i
    (i + c.piece_size-step.result) _ (omega arith)
    (omega (arith, v.0, c.loop-i-test.true)) v.3 v.1 v.2)

pub returns-then-src-i : goal.returns-then-src-i
returns-then-src-i c =
    let a = c.args in
    let src = a.src.now in
    let f = first_piece a.part.now src a.first (omega (arith, c.if-src-first.false)) c.requires.0 in
    let v = rw c.overwrite.ensures at c.loop-i.invariant in
    let none : drop c.loop-i.i src ≡ [] = drop_of_length-le src {i = c.loop-i.i} (omega (arith, c.if-src-i.true)) in
    record { stored = rw none at v.1 ∙ f.1; end = omega (arith, v.0, c.requires.1) }

pub returns : goal.returns
returns c =
    let a = c.args in
    let src = a.src.now in
    let f = first_piece a.part.now src a.first (omega (arith, c.if-src-first.false)) c.requires.0 in
    let v = rw c.overwrite.ensures at
    c.loop-i.invariant in
    let p = next_piece c.loop-i.part src _
    c.loop-i.i (length src) _ v.0 (omega arith) v.3 v.1 v.2 in
    let none : drop (length src) src ≡ [] = drop_of_length-le src {i = length src} (omega arith) in
    record { stored = rw c.overwrite-2.ensures (rw none at p.1 ∙ f.1); end = c.piece_end.ensures.1 }
