-- A walk is its family and the walk of that family, and only these are hashed.
use Rattle.std.proofs.Common.{rules, refl}
use Rattle.ipnet.specs.contracts.subnets.IpSubnetsHash.TheImpl as IpSubnetsHash
use Rattle.ipnet.proofs.WalkValueLaws.{ip_one_to_one, ip_hash}
use Rattle.ipnet.proofs.subnets.laws.ip_walks_compare_by_range.Goals as goal

pub returns-clause-compare : goal.returns-clause-compare
returns-clause-compare c a b = search (rules, ip_one_to_one a b)

pub returns-clause-hash : goal.returns-clause-hash
returns-clause-hash c =
    ip_hash (λ s. (IpSubnetsHash.ghosts).hash_input s)
    (record { feeds_four = λ s. refl; feeds_six = λ s. refl })
