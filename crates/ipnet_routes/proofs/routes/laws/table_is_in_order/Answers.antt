use Rattle.std.proofs.Common.{All, sym, subst}
use Rattle.ipnet_base.specs.Network.{IsNetwork, IsTruncated}
use Rattle.ipnet_base.specs.Blocks.{IsAscending}
use Rattle.ipnet_routes.specs.Routes.{ip_networks}
use Rattle.ipnet_routes.proofs.RouteLaws.{ascending_of, all_valid, same_networks, one_value}
use Rattle.ipnet_routes.proofs.routes.laws.table_is_in_order.Goals as goal

pub returns-clause-ascending : goal.returns-clause-ascending
returns-clause-ascending g c =
    let table = c.args.table.now in
    let list = table.routes.items in
    subst IsAscending (sym (same_networks list)) (ascending_of (ip_networks list) table.table)

pub returns-clause-networks : goal.returns-clause-networks
returns-clause-networks g c =
    let list = c.args.table.now.routes.items in
    subst (All IsNetwork) (sym (same_networks list)) (all_valid list)

pub returns-clause-truncated : goal.returns-clause-truncated
returns-clause-truncated g c =
    let table = c.args.table.now in
    let list = table.routes.items in
    subst (All IsTruncated) (sym (same_networks list)) table.table.truncated

pub returns-clause-one_value : goal.returns-clause-one_value
returns-clause-one_value g c r s h k e =
    let table = c.args.table.now in
    one_value table.routes.items table.table r s h k e
