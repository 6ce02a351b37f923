use Rattle.ipnet.proofs.SubnetsLaws.{ipv6_walk}
use Rattle.ipnet.proofs.subnets.walk_laws.ipv6_walk_is_of_its_range.Goals as goal

pub returns : goal.returns
returns c = ipv6_walk c.args.subnets
