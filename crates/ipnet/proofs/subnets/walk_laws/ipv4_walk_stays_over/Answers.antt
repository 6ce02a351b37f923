use Rattle.ipnet.specs.NetworkOf.{ipv4_network}
use Rattle.ipnet.specs.SubnetsLeft.{ipv4_subnet_range, ipv4_subnets_left}
use Rattle.ipnet.proofs.SubnetsLaws.{none_after_none}
use Rattle.ipnet.proofs.subnets.walk_laws.ipv4_walk_stays_over.Goals as goal

pub returns : goal.returns
returns c = none_after_none ipv4_network ipv4_subnet_range ipv4_subnets_left
