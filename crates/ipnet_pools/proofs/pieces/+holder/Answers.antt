-- A network that contains this one, and is another, contains its supernet.
use Rattle.ipnet_base.proofs.ResultLaws.{false_gives}
use Rattle.ipnet.specs.NetLaws.{ip_valid}
use Rattle.ipnet.specs.NetworkOf.{ip_network}
use Rattle.ipnet_pools.specs.BlocksOf.{blocks_of}
use Rattle.ipnet_pools.proofs.KeyLaws.{keys_valid}
use Rattle.ipnet_pools.proofs.JoinLaws.{none_holds_all, none_holds}
use Rattle.ipnet_pools.proofs.pieces.+holder.Goals as goal

pub returns-in_default-clause-none : goal.returns-in_default-clause-none
returns-in_default-clause-none t c =
    none_holds_all (blocks_of c.args.blocks.now) (keys_valid c.args.blocks.now.keys.keys)
    (ip_network c.args.network.now) (ip_valid c.args.network.now) c.requires
    (false_gives c.contains.result c.contains.ensures c.if-contains.false) (c.supernet.ensures.none.0 (cc))

pub returns-clause-none : goal.returns-clause-none
returns-clause-none t c =
    none_holds (blocks_of c.args.blocks.now) (keys_valid c.args.blocks.now.keys.keys) (ip_network c.args.network.now)
    (ip_valid c.args.network.now) c.requires (false_gives c.contains.result c.contains.ensures c.if-contains.false)
    (ip_network c.in-Some.supernet) c.in-Some.ensures.some c.holder.result c.holder.ensures.none
