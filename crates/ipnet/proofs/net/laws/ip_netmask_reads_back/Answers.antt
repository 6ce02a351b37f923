-- The netmask of a network is the one of its prefix length, in the words of `IsNetmaskOf`; the reader uses these words.
use Rattle.std.proofs.Common.{sym, subst}
use Rattle.ipnet_base.specs.Masks.{IsNetmaskOf}
use Rattle.ipnet.specs.NetworkOf.{ip_network}
use Rattle.ipnet.specs.NetLaws.{ip_valid}
use Rattle.ipnet.proofs.net.laws.ip_netmask_reads_back.Goals as goal
use Rattle.std.proofs.Common.{refl}

pub returns : goal.returns
returns c =
    let n = ip_network c.args.network.now in
    (c.ip_mask_to_prefix.ensures n.prefix_len).1
    (subst (λ x. IsNetmaskOf x.family x.number n.prefix_len) (sym c.netmask.ensures)
    (record { fits = (ip_valid c.args.network.now).prefix_fits; is_mask = refl }))
