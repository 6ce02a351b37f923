use Rattle.std.proofs.Common.{rules, sym, ap, ◌∙◌}
use Rattle.std.specs.Int.{w128, to_be_bytes}
use Rattle.std.specs.Net.Addr.{IsIpv6OfBits, segments_of}
use Rattle.ipnet_base.proofs.AddressLaws.{ipv6_bits_from_number}
use Rattle.ipnet.proofs.NumberOctets.{ipv6_groups_of_bits}
use Rattle.ipnet.proofs.value_laws.ipv6.address_has_its_number.Goals as goal

pub returns : goal.returns
unfolding IsIpv6OfBits
returns c = (
  ipv6_bits_from_number c.args.address c.args.number c.ranges.number.fits,
  λ e. sym (ipv6_groups_of_bits c.args.address (search rules, search rules))
      ∙ ap (λ n. segments_of (to_be_bytes w128 n)) e,
)
