use Rattle.std.proofs.Common.{length}
use Rattle.ipnet_rules.specs.UnreachedRules.{MatchesAt}
use Rattle.ipnet_rules.proofs.KeptLaws.{kept_needed}
use Rattle.ipnet_rules.proofs.kept.laws.kept_rules_are_needed.Goals as goal

pub returns : goal.returns
returns c = λ rules kept h i is all. kept_needed (MatchesAt rules) (length rules) kept h i is all
