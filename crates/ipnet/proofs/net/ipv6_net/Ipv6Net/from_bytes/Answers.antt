-- The octets and the byte after them are the bytes of exactly one network, by `split_bytes` and `ok_at_bytes`.
use Rattle.std.proofs.Common.{refl, arith}
use Rattle.ipnet_base.specs.Address.{IPv6}
use Rattle.ipnet.specs.NetworkOf.{ipv6_network}
use Rattle.ipnet.specs.NetLaws.{ipv6_valid, ipv6_one_to_one}
use Rattle.ipnet.proofs.CompactLaws.{split_bytes, ok_at_bytes}
use Rattle.ipnet.proofs.net.ipv6_net.Ipv6Net.from_bytes.Goals as goal

pub returns-clause-ok : goal.returns-clause-ok
returns-clause-ok c =
    let form = c.in-Some-default-len1 in
    let parts = form.ensures.cases in
    let bytes =
    split_bytes IPv6 c.args.bytes.now form.octets.now form.field-0-1.now c.from_be_bytes.result c.from.result
    (ipv6_network c.from_number.result)
    parts.0 parts.1 parts.2 (omega arith) (λ k. omega (arith, c.type_inv.bytes k)) c.from_be_bytes.ensures
    c.from.ensures c.from_number.ensures in
    ok_at_bytes ipv6_network IPv6 (λ _. refl) ipv6_valid ipv6_one_to_one c.from_number.result c.args.bytes.now bytes
