-- A walk is its stored ends and its minimum prefix length, and only these are hashed.
use Rattle.std.proofs.Common.{rules}
use Rattle.ipnet.proofs.WalkValueLaws.{ipv4_one_to_one, ipv4_hash}
use Rattle.ipnet.proofs.subnets.laws.ipv4_walks_compare_by_range.Goals as goal

pub returns-clause-compare : goal.returns-clause-compare
returns-clause-compare c a b = search (rules, ipv4_one_to_one a b)

pub returns-clause-hash : goal.returns-clause-hash
returns-clause-hash c = ipv4_hash
