-- The walk that `new` makes of the block's ends gives the subnets, by `AreSubnetsOfLength-from_walk`.
use Rattle.std.proofs.Common.{arith}
use Rattle.ipnet_base.specs.Address.{ipv6_address}
use Rattle.ipnet.specs.NetworkOf.{ipv6_network}
use Rattle.ipnet.specs.NetLaws.{ipv6_valid}
use Rattle.ipnet.specs.SubnetsLeft.{ipv6_subnet_range, ipv6_subnets_left}
use Rattle.ipnet.proofs.SubnetCountLaws.{AreSubnetsOfLength-from_walk, IsBlockRange-from_ends}
use Rattle.ipnet.proofs.net.ipv6_net.Ipv6Net.subnets.Goals as goal

pub returns-clause-walk : goal.returns-clause-walk
returns-clause-walk c =
    let n = c.args.self.now in
    AreSubnetsOfLength-from_walk (ipv6_network n) c.args.new_prefix_len (ipv6_subnets_left c.new.result)
    (ipv6_address c.network.result) (ipv6_address c.broadcast.result)
    (ipv6_valid n) (omega arith) (omega arith) c.network.ensures c.broadcast.ensures c.new.ensures.walk.blocks

pub returns-clause-range : goal.returns-clause-range
returns-clause-range c =
    IsBlockRange-from_ends (ipv6_network c.args.self.now) c.args.new_prefix_len (ipv6_subnet_range c.new.result)
    (ipv6_address c.network.result) (ipv6_address c.broadcast.result)
    c.network.ensures c.broadcast.ensures c.new.ensures.range
