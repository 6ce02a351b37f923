use Rattle.std.proofs.Common.{◌≡◌, ◌∙◌}
use Rattle.ipnet_base.specs.Address.{IPv6}
use Rattle.ipnet_base.proofs.AddressLaws.{ipv6_bits_from_number}
use Rattle.ipnet_sets.proofs.number.U128Number.range_to.Goals as goal

pub returns : goal.returns
returns c =
    let start : c.new.result.start ≡ c.args.self = c.new.ensures.start
    ∙ ipv6_bits_from_number c.from_bits-start.result c.args.self c.ranges.self.fits c.from_bits-start.ensures in
    let end : c.new.result.end ≡ c.args.last = c.new.ensures.end
    ∙ ipv6_bits_from_number c.from_bits-end.result c.args.last c.ranges.last.fits c.from_bits-end.ensures in
    λ i. record { family = IPv6; start = start i; end = end i }
