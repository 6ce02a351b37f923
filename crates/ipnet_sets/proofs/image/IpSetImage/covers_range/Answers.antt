use Rattle.std.proofs.Common.{◌∙◌, sym, ap₂, arith}
use Rattle.ipnet_base.specs.Address.{IPv4, IPv6, ipv4_address, ipv6_address}
use Rattle.ipnet_sets.specs.Images.{numbers_from}
use Rattle.ipnet_sets.proofs.ImageSetLaws.{covers_range_image}
use Rattle.ipnet_sets.proofs.image.IpSetImage.covers_range.Goals as goal

pub returns-in-V4-V4 : goal.returns-in-V4-V4
returns-in-V4-V4 c = λ s image. rw (c.in-V4-V4.is-0, c.in-V4-V4.is-1) (covers_range_image s IPv4
    (numbers_from 4 c.ipv4_place.result.count c.args.self.now.bytes.now c.ipv4_place.result.start)
    (ipv4_address c.in-V4-V4.start).number (ipv4_address c.in-V4-V4.end).number c.covers.result
    (omega (arith, c.to_bits-in-V4-V4.ensures, c.to_bits-in-V4-V4.type_inv))
    (ap₂ (λ n at. numbers_from 4 n c.args.self.now.bytes.now at) c.ipv4_place.ensures.count c.ipv4_place.ensures.start
    ∙ image.boundaries IPv4)
    (rw (sym c.to_bits.ensures, sym c.to_bits-in-V4-V4.ensures) c.covers.ensures))

pub returns-in-V6-V6 : goal.returns-in-V6-V6
returns-in-V6-V6 c = λ s image. rw (c.in-V6-V6.is-0, c.in-V6-V6.is-1) (covers_range_image s IPv6
    (numbers_from 16 c.ipv6_place.result.count c.args.self.now.bytes.now c.ipv6_place.result.start)
    (ipv6_address c.in-V6-V6.start).number (ipv6_address c.in-V6-V6.end).number c.covers-in-V6-V6.result
    (omega (arith, c.to_bits-in-V6-V6-2.ensures, c.to_bits-in-V6-V6-2.type_inv))
    (ap₂ (λ n at. numbers_from 16 n c.args.self.now.bytes.now at) c.ipv6_place.ensures.count c.ipv6_place.ensures.start
    ∙ image.boundaries IPv6)
    (rw (sym c.to_bits-in-V6-V6.ensures, sym c.to_bits-in-V6-V6-2.ensures) c.covers-in-V6-V6.ensures))
