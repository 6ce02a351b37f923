use Rattle.ipnet.proofs.SubnetsLaws.{ip_walk}
use Rattle.ipnet.proofs.subnets.walk_laws.ip_walk_is_of_its_range.Goals as goal

pub returns : goal.returns
returns c = ip_walk c.args.subnets
