use Rattle.ipnet_base.specs.Address.{IPv6}
use Rattle.ipnet.proofs.SubnetsLaws.{walk_by_ends, ipv6_walk}
use Rattle.ipnet.proofs.subnets.ipv6_subnets.Ipv6Subnets.new.Goals as goal

pub returns-clause-walk : goal.returns-clause-walk
returns-clause-walk c =
    walk_by_ends IPv6 _ _ _ _ _ _ _ c.to_bits.ensures c.to_bits-2.ensures c.from.ensures (ipv6_walk _)
