use Rattle.std.proofs.Common.{ap}
use Rattle.ipnet.proofs.net.laws.ipv6_netmask_reads_back.Goals as goal

pub returns : goal.returns
returns c =
    let n = c.args.network.now in
    (c.ipv6_mask_to_prefix.ensures n.prefix_len).1
    (record { fits = n.prefix_fits; is_mask = ap (λ x. x.number) c.netmask.ensures })
