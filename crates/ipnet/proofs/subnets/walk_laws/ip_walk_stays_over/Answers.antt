use Rattle.ipnet.specs.NetworkOf.{ip_network}
use Rattle.ipnet.specs.SubnetsLeft.{ip_subnet_range, ip_subnets_left}
use Rattle.ipnet.proofs.SubnetsLaws.{none_after_none}
use Rattle.ipnet.proofs.subnets.walk_laws.ip_walk_stays_over.Goals as goal

pub returns : goal.returns
returns c = none_after_none ip_network ip_subnet_range ip_subnets_left
