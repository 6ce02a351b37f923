-- The leading bits but the last, and the length less one, make the supernet, by `supernet_from_numbers`.
use Rattle.std.proofs.Common.{◌-◌, arith}
use Rattle.ipnet.specs.NetworkOf.{ipv4_network}
use Rattle.ipnet.specs.NetLaws.{ipv4_valid}
use Rattle.ipnet.proofs.NumberLaws.{supernet_from_numbers}
use Rattle.ipnet.proofs.net.ipv4_net.Ipv4NetNet.joined.Goals as goal

pub returns : goal.returns
returns c =
    let n = c.args.self.now in
    supernet_from_numbers (ipv4_network c.from_number.result) (ipv4_network n) (c.leading_bits-shorter.result - 1)
    c.masked.result
    (ipv4_valid n) (omega arith) c.masked.ensures c.from_number.ensures
