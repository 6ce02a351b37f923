-- The walk that `new` makes of the block's ends gives the subnets, by `AreSubnetsOfLength-from_walk`.
use Rattle.std.proofs.Common.{arith}
use Rattle.ipnet_base.specs.Address.{ipv4_address}
use Rattle.ipnet.specs.NetworkOf.{ipv4_network}
use Rattle.ipnet.specs.NetLaws.{ipv4_valid}
use Rattle.ipnet.specs.SubnetsLeft.{ipv4_subnet_range, ipv4_subnets_left}
use Rattle.ipnet.proofs.SubnetCountLaws.{AreSubnetsOfLength-from_walk, IsBlockRange-from_ends}
use Rattle.ipnet.proofs.net.ipv4_net.Ipv4Net.subnets.Goals as goal

pub returns-clause-walk : goal.returns-clause-walk
returns-clause-walk c =
    let n = c.args.self.now in
    AreSubnetsOfLength-from_walk (ipv4_network n) c.args.new_prefix_len (ipv4_subnets_left c.new.result)
    (ipv4_address c.network.result) (ipv4_address c.broadcast.result)
    (ipv4_valid n) (omega arith) (omega arith) c.network.ensures c.broadcast.ensures c.new.ensures.walk.blocks

pub returns-clause-range : goal.returns-clause-range
returns-clause-range c =
    IsBlockRange-from_ends (ipv4_network c.args.self.now) c.args.new_prefix_len (ipv4_subnet_range c.new.result)
    (ipv4_address c.network.result) (ipv4_address c.broadcast.result)
    c.network.ensures c.broadcast.ensures c.new.ensures.range
