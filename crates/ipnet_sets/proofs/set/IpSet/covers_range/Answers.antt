use Rattle.std.proofs.Common.{map, refl, ap, arith}
use Rattle.ipnet_base.specs.Address.{IPv4, IPv6, ipv4_address, ipv6_address}
use Rattle.ipnet_sets.proofs.MemberLaws.{covers_from_to}
use Rattle.ipnet_sets.proofs.set.IpSet.covers_range.Goals as goal

pub returns-in-V4-V4 : goal.returns-in-V4-V4
returns-in-V4-V4 c = rw (c.in-V4-V4.is-0, c.in-V4-V4.is-1) (covers_from_to c.args.self.now IPv4
    (ipv4_address c.in-V4-V4.start) (ipv4_address c.in-V4-V4.end) c.as_slice.result.now
    c.to_bits.result c.to_bits-in-V4-V4.result c.covers_range.result refl refl
    (omega (arith, c.to_bits-in-V4-V4.type_inv)) c.to_bits.ensures c.to_bits-in-V4-V4.ensures
    (ap (map (λ n. n)) c.as_slice.ensures.value) c.covers_range.ensures)

pub returns-in-V6-V6 : goal.returns-in-V6-V6
returns-in-V6-V6 c = rw (c.in-V6-V6.is-0, c.in-V6-V6.is-1) (covers_from_to c.args.self.now IPv6
    (ipv6_address c.in-V6-V6.start) (ipv6_address c.in-V6-V6.end) c.as_slice-in-V6-V6.result.now
    c.to_bits-in-V6-V6.result c.to_bits-in-V6-V6-2.result c.covers_range-in-V6-V6.result refl refl
    (omega (arith, c.to_bits-in-V6-V6-2.type_inv)) c.to_bits-in-V6-V6.ensures c.to_bits-in-V6-V6-2.ensures
    (ap (map (λ n. n)) c.as_slice-in-V6-V6.ensures.value) c.covers_range-in-V6-V6.ensures)
