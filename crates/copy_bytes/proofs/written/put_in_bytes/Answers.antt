-- `put_in_bytes` writes the last K of the eight bytes of a number.
use Rattle.std.proofs.Common.{ℕ, List, sym, ap, ◌≡◌, ◌∙◌, ◌+◌, ◌-◌, take, drop, arith}
use lib.Seq.{take_all}
use Rattle.rules_server.specs.Numbers.{in_bytes}
use Rattle.laws_numerals.proofs.Bytes.{in_bytes_long}
use Rattle.writing.specs.Window.{window_of, write}
use Rattle.copy_bytes.proofs.Lists.{last_bytes_lem}
use Rattle.copy_bytes.proofs.written.put_in_bytes.Goals as goal

pub returns : goal.returns
returns g c =
    let n = c.args.n in
    let w = window_of c.args.w.now in
    let sum : (8 - g.row.K) + g.row.K ≡ 8 = omega (arith, c.requires) in
    let last : drop (8 - g.row.K) (in_bytes 8 n) ≡ in_bytes g.row.K n =
    ap (λ (m : ℕ). drop (8 - g.row.K) (in_bytes m n)) (sym sum) ∙ last_bytes_lem (8 - g.row.K) g.row.K n in
    let long = 8 - (8 - g.row.K) in
    let text : take long (drop (8 - g.row.K) c.eight_bytes.result) ≡ in_bytes g.row.K n =
    ap (λ (l : List ℕ). take long (drop (8 - g.row.K) l)) c.eight_bytes.ensures ∙ ap (take long) last
    ∙ take_all long (in_bytes g.row.K n) (omega (arith, in_bytes_long g.row.K n, c.requires)) in
    record { name = c.put.ensures.name; bytes = c.put.ensures.bytes ∙ ap (λ (l : List ℕ). write l w) text }
