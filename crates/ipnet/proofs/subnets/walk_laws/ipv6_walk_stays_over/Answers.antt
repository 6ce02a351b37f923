use Rattle.ipnet.specs.NetworkOf.{ipv6_network}
use Rattle.ipnet.specs.SubnetsLeft.{ipv6_subnet_range, ipv6_subnets_left}
use Rattle.ipnet.proofs.SubnetsLaws.{none_after_none}
use Rattle.ipnet.proofs.subnets.walk_laws.ipv6_walk_stays_over.Goals as goal

pub returns : goal.returns
returns c = none_after_none ipv6_network ipv6_subnet_range ipv6_subnets_left
