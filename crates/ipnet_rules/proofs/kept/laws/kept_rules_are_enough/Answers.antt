use Rattle.std.proofs.Common.{length}
use Rattle.ipnet_rules.specs.UnreachedRules.{MatchesAt}
use Rattle.ipnet_rules.proofs.KeptLaws.{kept_enough}
use Rattle.ipnet_rules.proofs.kept.laws.kept_rules_are_enough.Goals as goal

pub returns : goal.returns
returns c = λ rules kept h i within x m. kept_enough (MatchesAt rules) (length rules) kept h x i within m
