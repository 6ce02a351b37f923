use Rattle.ipnet_base.specs.Address.{IPv4}
use Rattle.ipnet.proofs.SubnetsLaws.{walk_by_ends, ipv4_walk}
use Rattle.ipnet.proofs.subnets.ipv4_subnets.Ipv4Subnets.new.Goals as goal

pub returns-clause-walk : goal.returns-clause-walk
returns-clause-walk c =
    walk_by_ends IPv4 _ _ _ _ _ _ _ c.to_bits.ensures c.to_bits-2.ensures c.from.ensures (ipv4_walk _)
