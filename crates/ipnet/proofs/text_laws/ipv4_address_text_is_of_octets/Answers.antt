use Rattle.std.proofs.Common.{rules, ap}
use Rattle.std.specs.Net.Text.{ipv4_text}
use Rattle.ipnet.proofs.NumberOctets.{ipv4_octets_of_bits}
use Rattle.ipnet.proofs.text_laws.ipv4_address_text_is_of_octets.Goals as goal

pub returns : goal.returns
returns c = ap ipv4_text (ipv4_octets_of_bits c.args.addr (search rules, search rules))
