-- The text by the octets or groups is written; the number has the same.
use Rattle.std.proofs.Common.{◌≡◌, rules, sym, ap, ◌∙◌}
use Rattle.std.specs.Net.Addr.{ipv6_segments}
use Rattle.std.specs.Net.Text.{ipv6_text}
use Rattle.ipnet.proofs.NumberOctets.{ipv6_groups_of_bits}
use Rattle.ipnet.proofs.print.ipv6_addr_text.Goals as goal

pub returns-clause-of_number : goal.returns-clause-of_number
returns-clause-of_number c =
    let written : c.push_str.new.self.bytes ≡ ipv6_text (ipv6_segments c.args.addr) = search rules in
    written ∙ ap ipv6_text (sym (ipv6_groups_of_bits c.args.addr (search rules, search rules)))
