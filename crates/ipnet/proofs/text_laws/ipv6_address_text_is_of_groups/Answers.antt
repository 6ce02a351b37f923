use Rattle.std.proofs.Common.{rules, ap}
use Rattle.std.specs.Net.Text.{ipv6_text}
use Rattle.ipnet.proofs.NumberOctets.{ipv6_groups_of_bits}
use Rattle.ipnet.proofs.text_laws.ipv6_address_text_is_of_groups.Goals as goal

pub returns : goal.returns
returns c = ap ipv6_text (ipv6_groups_of_bits c.args.addr (search rules, search rules))
