use Rattle.std.proofs.Common.{◌∙◌}
use Rattle.ipnet_routes.proofs.RouteValueLaws.{same_routes}
use Rattle.ipnet_routes.proofs.routes.values.RouteTablePartialEq.eq.Goals as goal

pub returns : goal.returns
returns g c =
    c.eq.ensures
    ∙ same_routes _ g.V.PartialEq.eq (λ a b. (c.ip_nets_compare_by_network.ensures.compare a b).equality)
    c.args.self.now.routes.items c.args.other.now.routes.items
