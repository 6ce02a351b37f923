-- The text by the octets or groups is written; the number has the same.
use Rattle.std.proofs.Common.{◌≡◌, rules, sym, ap, ◌∙◌}
use Rattle.std.specs.Net.Addr.{ipv4_octets}
use Rattle.std.specs.Net.Text.{ipv4_text}
use Rattle.ipnet.proofs.NumberOctets.{ipv4_octets_of_bits}
use Rattle.ipnet.proofs.print.ipv4_addr_text.Goals as goal

pub returns-clause-of_number : goal.returns-clause-of_number
returns-clause-of_number c =
    let written : c.push_str.new.self.bytes ≡ ipv4_text (ipv4_octets c.args.addr) = search rules in
    written ∙ ap ipv4_text (sym (ipv4_octets_of_bits c.args.addr (search rules, search rules)))
