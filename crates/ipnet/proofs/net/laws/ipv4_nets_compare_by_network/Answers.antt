-- One value stands for each network, by `NetLaws`; order and hash go by the words that store it.
use Rattle.std.proofs.Common.{rules}
use Rattle.ipnet.specs.NetLaws.{ipv4_valid, ipv4_one_to_one}
use Rattle.ipnet.proofs.NetOrderLaws.{ipv4_ranks, ipv4_hash}
use Rattle.ipnet.proofs.net.laws.ipv4_nets_compare_by_network.Goals as goal

pub returns-clause-valid : goal.returns-clause-valid
returns-clause-valid c = ipv4_valid

pub returns-clause-compare : goal.returns-clause-compare
returns-clause-compare c a b = search (rules, ipv4_one_to_one a b, ipv4_ranks a b)

pub returns-clause-hash : goal.returns-clause-hash
returns-clause-hash c = ipv4_hash
