-- The supernet of two halves covers what both cover (`JoinLaws`).
use Rattle.ipnet_text.proofs.JoinLaws.{cover_of_halves}
use Rattle.ipnet_text.proofs.net_lists.merged.Goals as goal

pub returns-then-is_other_half : goal.returns-then-is_other_half
returns-then-is_other_half g c =
    let net = g.N.Net.network in
    cover_of_halves (net c.joined.result) (net c.args.first.now) (net c.args.second.now)
    (g.met.N.Net.valid c.args.first.now) c.joined.ensures
    (c.is_other_half.ensures.0 c.if-is_other_half.true)
