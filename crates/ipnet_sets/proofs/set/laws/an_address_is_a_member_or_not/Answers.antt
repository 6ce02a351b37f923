use Rattle.ipnet_sets.proofs.SetEqualLaws.{member_or_not}
use Rattle.ipnet_sets.proofs.set.laws.an_address_is_a_member_or_not.Goals as goal

pub returns : goal.returns
returns c s x = member_or_not s x
