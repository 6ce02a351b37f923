use Rattle.std.proofs.Common.{ap}
use Rattle.ipnet.specs.NetworkOf.{ipv4_network}
use Rattle.ipnet.proofs.net.laws.ipv4_netmask_reads_back.Goals as goal

pub returns : goal.returns
returns c =
    let n = c.args.network.now in
    (c.ipv4_mask_to_prefix.ensures (ipv4_network n).prefix_len).1
    (record { fits = n.prefix_fits; is_mask = ap (λ x. x.number) c.netmask.ensures })
