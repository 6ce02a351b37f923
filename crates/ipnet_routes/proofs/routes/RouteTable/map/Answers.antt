-- The new table has the networks of the old one, and each value is made from the network's old value.
use Rattle.std.proofs.Common.{sym, ◌∙◌}
use Rattle.ipnet_routes.proofs.RouteLaws.{same_networks}
use Rattle.ipnet_routes.proofs.RouteChangeLaws.{changed_value}
use Rattle.ipnet_routes.proofs.routes.RouteTable.map.Goals as goal

pub returns-clause-networks : goal.returns-clause-networks
returns-clause-networks g c =
    same_networks c.in_ok-mapped.mapped.items ∙ c.in_ok-mapped.ensures.networks
    ∙ sym (same_networks c.args.self.routes.items)

pub returns-clause-values : goal.returns-clause-values
returns-clause-values g c n v w has gets =
    changed_value _ c.args.self.routes.items c.in_ok-mapped.mapped.items c.args.self.table c.in_ok-mapped.ensures n v w
    has gets
