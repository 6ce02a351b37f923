use Rattle.std.proofs.Common.{ap}
use Rattle.ipnet_base.specs.Address.{Address, ip_address}
use Rattle.ipnet.specs.NetLaws.{ip_valid}
use Rattle.ipnet.proofs.ValueFacts.{one_greatest, after_block_truncated, after_block_disjoint}
use Rattle.ipnet.specs.NetworkOf.{ip_network}
use Rattle.ipnet.proofs.value_laws.ip.next_network_begins_a_block.Goals as goal

pub returns-clause-last : goal.returns-clause-last
returns-clause-last c last x h =
    ap (λ (y : Address). y.number) (one_greatest (ip_network c.args.net.now) x (ip_address c.args.last.now) h last)

pub returns-clause-truncated : goal.returns-clause-truncated
returns-clause-truncated c greatest family next no_shorter =
    after_block_truncated (ip_network c.args.net.now) (ip_network c.args.next.now) (ip_address c.args.last.now)
    (ip_valid c.args.net.now) (ip_valid c.args.next.now) greatest family next no_shorter

pub returns-clause-apart : goal.returns-clause-apart
returns-clause-apart c greatest family next no_shorter =
    after_block_disjoint (ip_network c.args.net.now) (ip_network c.args.next.now) (ip_address c.args.last.now)
    (ip_valid c.args.net.now) (ip_valid c.args.next.now) greatest family next no_shorter
