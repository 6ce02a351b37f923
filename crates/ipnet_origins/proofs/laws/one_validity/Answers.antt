use Rattle.ipnet_origins.proofs.ValidityLaws.{one, by_members}
use Rattle.ipnet_origins.proofs.laws.one_validity.Goals as goal

pub returns-clause-unique : goal.returns-clause-unique
returns-clause-unique c = one

pub returns-clause-members : goal.returns-clause-members
returns-clause-members c = by_members
