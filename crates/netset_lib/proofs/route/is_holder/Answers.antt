use Rattle.std.proofs.Common.{sym, ◌∙◌}
use Rattle.ipnet_base.specs.Network.{truncation}
use Rattle.ipnet.specs.NetworkOf.{ip_network}
use Rattle.ipnet_routes.specs.RoutesOf.{routes_of}
use Rattle.netset_lib.proofs.TableLaws.{got_or_not}
use Rattle.netset_lib.proofs.route.is_holder.Goals as goal

pub returns-then-contains : goal.returns-then-contains
returns-then-contains g c =
    let got = got_or_not c.get.result (λ v. v.now) (routes_of c.args.table.now)
    (truncation (ip_network c.args.network.now)) c.get.ensures.none c.get.ensures.some in (
      λ e. (c.contains.ensures.0 c.if-contains.true, got.0 (sym c.is_some.ensures ∙ e)),
      λ h. c.is_some.ensures ∙ got.1 h.1,
    )
