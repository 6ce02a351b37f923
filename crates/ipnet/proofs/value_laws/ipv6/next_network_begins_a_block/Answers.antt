use Rattle.std.proofs.Common.{ap}
use Rattle.ipnet_base.specs.Address.{Address, ipv6_address}
use Rattle.ipnet.specs.NetLaws.{ipv6_valid}
use Rattle.ipnet.proofs.ValueFacts.{one_greatest, after_block_truncated, after_block_disjoint}
use Rattle.ipnet.specs.NetworkOf.{ipv6_network}
use Rattle.ipnet.proofs.value_laws.ipv6.next_network_begins_a_block.Goals as goal

pub returns-clause-last : goal.returns-clause-last
returns-clause-last c last x h =
    ap (λ (y : Address). y.number) (one_greatest (ipv6_network c.args.net.now) x (ipv6_address c.args.last.now) h last)

pub returns-clause-truncated : goal.returns-clause-truncated
returns-clause-truncated c greatest family next no_shorter =
    after_block_truncated (ipv6_network c.args.net.now) (ipv6_network c.args.next.now) (ipv6_address c.args.last.now)
    (ipv6_valid c.args.net.now) (ipv6_valid c.args.next.now) greatest family next no_shorter

pub returns-clause-apart : goal.returns-clause-apart
returns-clause-apart c greatest family next no_shorter =
    after_block_disjoint (ipv6_network c.args.net.now) (ipv6_network c.args.next.now) (ipv6_address c.args.last.now)
    (ipv6_valid c.args.net.now) (ipv6_valid c.args.next.now) greatest family next no_shorter
