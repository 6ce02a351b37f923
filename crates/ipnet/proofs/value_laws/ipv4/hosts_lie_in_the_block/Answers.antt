use Rattle.ipnet_base.specs.RangeOf.{ipv4_range}
use Rattle.ipnet.proofs.ValueFacts.{host_in_block, between_hosts_in_block}
use Rattle.ipnet.specs.NetworkOf.{ipv4_network}
use Rattle.ipnet.proofs.value_laws.ipv4.hosts_lie_in_the_block.Goals as goal

pub returns-clause-listed : goal.returns-clause-listed
returns-clause-listed c h x =
    host_in_block (ipv4_network c.args.net.now) (ipv4_range c.args.hosts.now) x h

pub returns-clause-between : goal.returns-clause-between
returns-clause-between c h x =
    between_hosts_in_block (ipv4_network c.args.net.now) (ipv4_range c.args.hosts.now) x h
