use Rattle.std.proofs.Common.{◌≤◌, sym, subst}
use Rattle.ipnet.specs.NetworkOf.{ip_network}
use Rattle.ipnet_bars.proofs.BarLaws.{rows_fit}
use Rattle.ipnet_bars.proofs.bar.rows_of.Goals as goal

pub returns-clause-fit : goal.returns-clause-fit
returns-clause-fit c =
    rows_fit ip_network (ip_network c.args.network.now) c.row_len_of.result c.mark_len_of-mark_len.result
    c.in_ok-networks.networks.items c.in_ok-networks.ensures
    (subst (λ z. c.row_len_of.result ≤ z) (sym c.mark_len_of-mark_len.ensures.len) c.row_len_of.ensures.marks)
    c.mark_len_of-mark_len.ensures.fits
