-- The derived comparison is by family, then by ends; a hasher is fed the family first (`ValueLaws`).
use Rattle.std.proofs.Common.{rules, refl}
use Rattle.ipnet_base.specs.contracts.ipext.ip_range.IpAddrRangeHash.TheImpl as IpAddrRangeHash
use Rattle.ipnet_base.proofs.ValueLaws.{ip_one_to_one, ip_hash}
use Rattle.ipnet_base.proofs.ipext.laws.ip_ranges_compare_by_ends.Goals as goal

pub returns-clause-compare : goal.returns-clause-compare
returns-clause-compare c a b = search (rules, ip_one_to_one a b)

pub returns-clause-hash : goal.returns-clause-hash
returns-clause-hash c =
    ip_hash (λ r. (IpAddrRangeHash.ghosts).hash_input r)
    (record { feeds_four = λ r. refl; feeds_six = λ r. refl })
