use Rattle.std.proofs.Common.{arith}
use Rattle.ipnet.specs.NetworkOf.{ip_network}
use Rattle.ipnet.specs.SubnetsLeft.{ip_subnets_left}
use Rattle.ipnet_info.proofs.ZoneFacts.{inside_zones, few_inside, next_fits, longest_fits}
use Rattle.ipnet_info.proofs.zones.zones_inside.Goals as goal

pub subnets_of-requires-clause-longer : goal.subnets_of-requires-clause-longer
subnets_of-requires-clause-longer c = c.next_zone_len-length.ensures.reaches

pub subnets_of-requires-clause-fits : goal.subnets_of-requires-clause-fits
subnets_of-requires-clause-fits c =
    let n = ip_network c.args.network.now in
    omega (
      arith,
      next_fits n c.next_zone_len-length.result c.next_zone_len-length.ensures c.requires,
      longest_fits n.family,
    )

pub returns-clause-zones : goal.returns-clause-zones
returns-clause-zones c =
    let n = ip_network c.args.network.now in
    inside_zones n c.next_zone_len-length.result (ip_subnets_left c.subnets_of.result)
    (c.ip_nets_compare_by_network.ensures.valid c.args.network.now) c.next_zone_len-length.ensures c.requires
    (next_fits n c.next_zone_len-length.result c.next_zone_len-length.ensures c.requires) c.subnets_of.ensures

pub returns-clause-few : goal.returns-clause-few
returns-clause-few c =
    few_inside (ip_network c.args.network.now) c.next_zone_len-length.result (ip_subnets_left c.subnets_of.result)
    c.next_zone_len-length.ensures c.subnets_of.ensures
