-- The networks of a table ascend, without host bits.
use Rattle.std.proofs.Common.{All, sym, subst}
use Rattle.ipnet_base.specs.Network.{IsTruncated}
use Rattle.ipnet_base.specs.Blocks.{IsAscending}
use Rattle.ipnet_routes.specs.Routes.{ip_networks}
use Rattle.ipnet_routes.proofs.RouteLaws.{ascending_of, same_networks}
use Rattle.ipnet_routes.proofs.routes.RouteTable.routes.Goals as goal

pub returns-clause-ascending : goal.returns-clause-ascending
returns-clause-ascending g c =
    let table = c.args.self.now in
    let list = table.routes.items in
    subst IsAscending (sym (same_networks list)) (ascending_of (ip_networks list) table.table)

pub returns-clause-truncated : goal.returns-clause-truncated
returns-clause-truncated g c =
    let table = c.args.self.now in
    let list = table.routes.items in
    subst (All IsTruncated) (sym (same_networks list)) table.table.truncated
