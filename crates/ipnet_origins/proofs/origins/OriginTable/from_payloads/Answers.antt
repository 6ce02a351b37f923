-- The table of the places of the sorted payloads has the last place of each network.
use Rattle.std.proofs.Common.{subst}
use Rattle.ipnet_routes.specs.RoutesOf.{routes_of}
use Rattle.ipnet_origins.specs.Groups.{ArePlaces}
use Rattle.ipnet_origins.proofs.LastLaws.{lasts_of}
use Rattle.ipnet_origins.proofs.origins.OriginTable.from_payloads.Goals as goal

pub invariant_of-result : goal.invariant_of-result
invariant_of-result c =
    let places = c.in_ok-routes.routes.items in
    record {
      order = c.in_ok-sort.ensures.order;
      ranked = c.in_ok-sort.ensures.ranked;
      reach = lasts_of c.sort.new.payloads.items places
          (subst (λ z. ArePlaces z places) c.as_slice.ensures.value c.in_ok-routes.ensures)
          (routes_of c.in_ok-lasts.lasts) c.in_ok-lasts.ensures.table;
    }
