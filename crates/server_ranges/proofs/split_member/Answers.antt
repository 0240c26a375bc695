-- `split_member`: the member before the first comma, then those of what stands behind it.
use Rattle.server_ranges.proofs.Members.{members_first, fewer_left}
use Rattle.server_ranges.proofs.split_member.Goals as goal

pub returns : goal.returns
returns c =
    let l = c.args.l.now in
    let e = c.index_of-e in
    record {
      members = members_first l e.result c.get.result e.ensures.within e.ensures.rest c.get.ensures.lookup;
      fewer = fewer_left l e.result c.get.result c.get.ensures.lookup;
    }
