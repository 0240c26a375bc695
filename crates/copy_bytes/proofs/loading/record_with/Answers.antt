-- `record_with`: the array of the tag is that of a copy opened under it.
use Rattle.std.proofs.Common.{◌≡◌, length, arith}
use Rattle.rules_server.specs.Limits.{max_tag}
use Rattle.copy_bytes.proofs.Lists.{opened-tag, strong_opens, opened_ok}
use Rattle.copy_bytes.proofs.loading.record_with.Goals as goal

pub unwrap-requires : goal.unwrap-requires
unwrap-requires c = opened_ok c.args.tag.now c.open.result c.open.ensures (strong_opens c.args.tag.now c.requires.0 c.requires.1)

pub returns : goal.returns
returns c =
    let a = c.args in
    let full : length c.unwrap.result.tag ≡ max_tag = omega arith in
    let t = opened-tag a.tag.now c.unwrap.result full (rw c.unwrap.ensures at c.open.ensures) in
    λ i. record { tag = t.0 i; tag_len = t.1 i; length = a.length; runs = a.runs; count = a.count }
