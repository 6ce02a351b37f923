use Rattle.ipnet_origins.proofs.ValidityLaws.{contained, covered_from}
use Rattle.ipnet_origins.proofs.laws.covering_is_containment.Goals as goal

pub returns : goal.returns
returns c route vrp valid = (contained route vrp, covered_from route vrp valid)
