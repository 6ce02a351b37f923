use Rattle.std.proofs.Common.{ap}
use Rattle.ipnet_base.specs.Address.{Address, ipv4_address}
use Rattle.ipnet.specs.NetLaws.{ipv4_valid}
use Rattle.ipnet.proofs.ValueFacts.{one_greatest, after_block_truncated, after_block_disjoint}
use Rattle.ipnet.specs.NetworkOf.{ipv4_network}
use Rattle.ipnet.proofs.value_laws.ipv4.next_network_begins_a_block.Goals as goal

pub returns-clause-last : goal.returns-clause-last
returns-clause-last c last x h =
    ap (λ (y : Address). y.number) (one_greatest (ipv4_network c.args.net.now) x (ipv4_address c.args.last.now) h last)

pub returns-clause-truncated : goal.returns-clause-truncated
returns-clause-truncated c greatest family next no_shorter =
    after_block_truncated (ipv4_network c.args.net.now) (ipv4_network c.args.next.now) (ipv4_address c.args.last.now)
    (ipv4_valid c.args.net.now) (ipv4_valid c.args.next.now) greatest family next no_shorter

pub returns-clause-apart : goal.returns-clause-apart
returns-clause-apart c greatest family next no_shorter =
    after_block_disjoint (ipv4_network c.args.net.now) (ipv4_network c.args.next.now) (ipv4_address c.args.last.now)
    (ipv4_valid c.args.net.now) (ipv4_valid c.args.next.now) greatest family next no_shorter
