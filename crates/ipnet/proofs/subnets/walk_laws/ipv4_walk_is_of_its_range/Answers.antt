use Rattle.ipnet.proofs.SubnetsLaws.{ipv4_walk}
use Rattle.ipnet.proofs.subnets.walk_laws.ipv4_walk_is_of_its_range.Goals as goal

pub returns : goal.returns
returns c = ipv4_walk c.args.subnets
