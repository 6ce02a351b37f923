-- One value stands for each network, by `NetLaws`; order and hash go by the variant, then by what it holds.
use Rattle.std.proofs.Common.{rules, refl}
use Rattle.ipnet.specs.NetLaws.{ip_valid, ip_one_to_one}
use Rattle.ipnet.specs.contracts.net.IpNetHash.TheImpl as IpNetHash
use Rattle.ipnet.proofs.NetOrderLaws.{ip_hash}
use Rattle.ipnet.proofs.net.laws.ip_nets_compare_by_network.Goals as goal

pub returns-clause-valid : goal.returns-clause-valid
returns-clause-valid c = ip_valid

pub returns-clause-compare : goal.returns-clause-compare
returns-clause-compare c a b = search (rules, ip_one_to_one a b)

pub returns-clause-hash : goal.returns-clause-hash
returns-clause-hash c =
    ip_hash (λ n. (IpNetHash.ghosts).hash_input n)
    (record { feeds_four = λ n. refl; feeds_six = λ n. refl })
