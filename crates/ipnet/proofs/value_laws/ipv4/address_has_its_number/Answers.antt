use Rattle.std.proofs.Common.{rules, sym, ap, ◌∙◌}
use Rattle.std.specs.Int.{w32, to_be_bytes}
use Rattle.std.specs.Net.Addr.{IsIpv4OfBits}
use Rattle.ipnet_base.proofs.AddressLaws.{bits_from_number}
use Rattle.ipnet.proofs.NumberOctets.{ipv4_octets_of_bits}
use Rattle.ipnet.proofs.value_laws.ipv4.address_has_its_number.Goals as goal

pub returns : goal.returns
unfolding IsIpv4OfBits
returns c = (
  bits_from_number c.args.address c.args.number c.ranges.number.fits,
  λ e. sym (ipv4_octets_of_bits c.args.address (search rules, search rules)) ∙ ap (to_be_bytes w32) e,
)
