use Rattle.ipnet_base.specs.RangeOf.{ip_range}
use Rattle.ipnet.proofs.ValueFacts.{host_in_block, between_hosts_in_block}
use Rattle.ipnet.specs.NetworkOf.{ip_network}
use Rattle.ipnet.proofs.value_laws.ip.hosts_lie_in_the_block.Goals as goal

pub returns-clause-listed : goal.returns-clause-listed
returns-clause-listed c h x =
    host_in_block (ip_network c.args.net.now) (ip_range c.args.hosts.now) x h

pub returns-clause-between : goal.returns-clause-between
returns-clause-between c h x =
    between_hosts_in_block (ip_network c.args.net.now) (ip_range c.args.hosts.now) x h
