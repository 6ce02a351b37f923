-- The octets are of one address, whose longest match was asked for.
use Rattle.std.proofs.Common.{◌≡◌, true, false, refl}
use Rattle.ipnet_base.specs.Address.{ip_address}
use Rattle.ipnet.specs.NetworkOf.{ip_network}
use Rattle.ipnet_c.proofs.TableReplies.{match_found, match_missing}
use Rattle.ipnet_c.proofs.tables.find_match.Goals as goal

pub returns-in-Some-longest_match : goal.returns-in-Some-longest_match
returns-in-Some-longest_match c =
    let route = c.in-Some-longest_match.route in
    match_found c.args.table.now c.in-Ok.image.table.bytes.now c.args.address.now (ip_address c.in-Some.address)
    (ip_network route.0) c.args.value.now route.1 c.in-Ok.ensures c.in-Ok.image.header c.in-Some.ensures.some
    c.in-Some-longest_match.ensures.some
    (λ t image out. let apart : true ≡ false = (c.in-Some-longest_match.ensures.none t image).1 out in absurd (cc))
    (record {
      network = ip_network route.0;
      stored = c.in-Some-longest_match.ensures.stored;
      holds = c.in-Some-longest_match.ensures.holds;
    })

pub returns-in-None : goal.returns-in-None
returns-in-None c =
    match_missing c.args.table.now c.in-Ok.image.table.bytes.now c.args.address.now (ip_address c.in-Some.address)
    c.args.value.now c.in-Ok.ensures c.in-Ok.image.header c.in-Some.ensures.some
    (λ t image. (c.in-None.ensures.none t image).0 refl)
