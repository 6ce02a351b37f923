use Rattle.std.proofs.Common.{sym}
use Rattle.ipnet.specs.NetworkOf.{ip_network}
use Rattle.ipnet_fewest.proofs.SiblingLaws.{sibling_is}
use Rattle.ipnet_fewest.proofs.halves.sibling.Goals as goal

pub returns : goal.returns
returns c =
    let both = c.parent_and_sibling.result in
    sym (sibling_is (ip_network c.args.network.now) (ip_network both.1) (ip_network both.0)
    c.parent_and_sibling.ensures)
