-- The chunks have the routes of the table, in their order.
use Rattle.std.proofs.Common.{◌≡◌, length, ap, ◌∙◌, sym}
use Rattle.std.proofs.lemmas.List.{length-map}
use Rattle.ipnet.specs.NetworkOf.{ip_network}
use Rattle.ipnet_routes.specs.Routes.{ip_routes}
use Rattle.ipnet_routes.specs.RouteMapSteps.{all_of}
use Rattle.ipnet_routes.proofs.RouteMapChanges.{table_of_routes}
use Rattle.ipnet_routes.proofs.route_map.RouteMap.from_table.Goals as goal

pub from_chunks-requires-clause-table : goal.from_chunks-requires-clause-table
from_chunks-requires-clause-table g c =
    table_of_routes c.args.table.routes.items (all_of c.in_ok-chunks.chunks.items)
    (ap ip_routes c.in_ok-chunks.ensures.routes ∙ c.into_routes.ensures) c.args.table.table

pub from_chunks-requires-clause-size : goal.from_chunks-requires-clause-size
from_chunks-requires-clause-size g c =
    let list = all_of c.in_ok-chunks.chunks.items in
    let same : ip_routes list ≡ ip_routes c.args.table.routes.items
    = ap ip_routes c.in_ok-chunks.ensures.routes ∙ c.into_routes.ensures in
    c.len-count.ensures ∙ ap length (sym same) ∙ length-map list (λ z. (ip_network z.0, z.1))

pub returns : goal.returns
returns g c =
    ap (λ z. ip_routes (all_of z.items)) c.from_chunks.ensures
    ∙ ap ip_routes c.in_ok-chunks.ensures.routes ∙ c.into_routes.ensures
