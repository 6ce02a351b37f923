-- The derived comparison is by the two stored ends, and a hasher is fed both (`ValueLaws`).
use Rattle.std.proofs.Common.{rules}
use Rattle.ipnet_base.proofs.ValueLaws.{ipv6_one_to_one, ipv6_hash}
use Rattle.ipnet_base.proofs.ipext.laws.ipv6_ranges_compare_by_ends.Goals as goal

pub returns-clause-compare : goal.returns-clause-compare
returns-clause-compare c a b = search (rules, ipv6_one_to_one a b)

pub returns-clause-hash : goal.returns-clause-hash
returns-clause-hash c = ipv6_hash
