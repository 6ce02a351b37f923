-- A block is the addresses from its least to its greatest.
use Rattle.ipnet_base.specs.Address.{ip_address}
use Rattle.ipnet.specs.NetworkOf.{ip_network}
use Rattle.ipnet_sets.specs.Members.{IsMember}
use Rattle.ipnet_sets.proofs.MemberLaws.{covers_block}
use Rattle.ipnet_sets.proofs.set.IpSet.covers.Goals as goal

pub returns : goal.returns
returns c =
    covers_block (IsMember c.args.self.now) (ip_network c.args.network.now) (ip_address c.network.result)
    (ip_address c.broadcast.result) c.covers_range.result c.network.ensures c.broadcast.ensures c.covers_range.ensures
