use Rattle.std.proofs.Common.{◌≤◌, option_map, ap}
use Rattle.ipnet_base.specs.Address.{ip_address, address_at}
use Rattle.ipnet_base.specs.RangeOf.{ip_range}
use Rattle.ipnet.specs.NetworkOf.{ip_network}
use Rattle.ipnet_info.proofs.HostFacts.{hosts_some, first_is, some_is, none_is_not}
use Rattle.ipnet_info.proofs.hosts.first_host.Goals as goal

pub unreachable-requires : goal.unreachable-requires
unreachable-requires c =
    let r = ip_range c.hosts.result in
    none_is_not (option_map ip_address c.min.result) (r.start ≤ r.end) (address_at r.family r.start) c.min.ensures
    (ap (option_map ip_address) c.in-None.is)
    (hosts_some (ip_network c.args.network.now) r c.hosts.ensures)

pub returns : goal.returns
returns c =
    let r = ip_range c.hosts.result in
    first_is (ip_network c.args.network.now) r (ip_address c.in-Some.host) c.hosts.ensures
    (some_is (option_map ip_address c.min.result) (ip_address c.in-Some.host) (r.start ≤ r.end)
    (address_at r.family r.start) c.min.ensures (ap (option_map ip_address) c.in-Some.is))
