use Rattle.ipnet_base.proofs.NestingLaws.{nested_or_disjoint}
use Rattle.ipnet_base.proofs.laws.nested_or_disjoint.Goals as goal

pub returns : goal.returns
returns c = nested_or_disjoint
