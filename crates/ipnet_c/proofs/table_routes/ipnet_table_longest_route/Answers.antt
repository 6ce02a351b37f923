-- The octets are of one address, whose longest match was asked for.
use Rattle.std.proofs.Common.{◌≡◌, true, false, refl, arith}
use Rattle.ipnet_base.specs.Address.{ip_address}
use Rattle.ipnet.specs.NetworkOf.{ip_network}
use Rattle.ipnet.specs.NetLaws.{ip_valid}
use Rattle.ipnet_c.proofs.RouteReplies.{route_found, route_missing}
use Rattle.ipnet_c.proofs.table_routes.ipnet_table_longest_route.Goals as goal

pub returns-in-Some-longest_match : goal.returns-in-Some-longest_match
returns-in-Some-longest_match c =
    let route = c.in-Some-longest_match.route in
    route_found c.args.table.now c.in-Ok.image.table.bytes.now c.args.address.now c.args.network.now
    c.write_network.new.buffer (ip_address c.in-Some.address) (ip_network route.0) c.args.value.now route.1
    c.in-Ok.ensures c.in-Ok.image.header c.in-Some.ensures.some (omega (arith, c.if-network-lt-LONGEST_FORM.false))
    c.write_network.ensures c.in-Some-longest_match.ensures.some
    (λ t image out. let apart : true ≡ false = (c.in-Some-longest_match.ensures.none t image).1 out in absurd (cc))
    (ip_valid route.0) c.in-Some-longest_match.ensures.stored c.in-Some-longest_match.ensures.holds

pub returns-in-None : goal.returns-in-None
returns-in-None c =
    route_missing c.args.table.now c.in-Ok.image.table.bytes.now c.args.address.now c.args.network.now
    (ip_address c.in-Some.address) c.args.value.now c.in-Ok.ensures c.in-Ok.image.header c.in-Some.ensures.some
    (omega (arith, c.if-network-lt-LONGEST_FORM.false)) (λ t image. (c.in-None.ensures.none t image).0 refl)
