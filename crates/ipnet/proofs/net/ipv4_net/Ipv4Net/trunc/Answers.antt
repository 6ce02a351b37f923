-- The number without its host bits and the prefix length make the truncation, by `truncation_from_numbers`.
use Rattle.ipnet.specs.NetworkOf.{ipv4_network}
use Rattle.ipnet.specs.NetLaws.{ipv4_valid}
use Rattle.ipnet.proofs.NumberLaws.{truncation_from_numbers}
use Rattle.ipnet.proofs.net.ipv4_net.Ipv4Net.trunc.Goals as goal

pub returns : goal.returns
returns c =
    let n = c.args.self.now in
    truncation_from_numbers (ipv4_network c.from_number.result) (ipv4_network n) c.leading_bits-len.result
    c.masked.result
    (ipv4_valid n) c.leading_bits-len.ensures c.masked.ensures c.from_number.ensures
