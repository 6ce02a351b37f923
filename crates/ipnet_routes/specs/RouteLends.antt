-- The routes of a table or a map after the reference to one of its values has ended.
use Rattle.std.specs.Prelude.{◌≡◌, Option, OnSome}
use Rattle.std.specs.Borrow.{Fml, RattleType, MutBor, LendsSo}
use Rattle.ipnet_base.specs.Network.{Network, truncation}
use Rattle.ipnet_routes.specs.RouteMaps.{IsWithRoute}
use Rattle.ipnet_routes.specs.RoutesOf.{routes_of}
use Rattle.ipnet_routes.specs.declared.routes.RouteTable.{RouteTable}
use Rattle.ipnet_routes.specs.contracts.routes.RouteTable as table
use Rattle.ipnet_routes.specs.RouteMapsOf.{map_routes}
use Rattle.ipnet_routes.specs.declared.route_map.RouteMap.{RouteMap}
use Rattle.ipnet_routes.specs.contracts.route_map.RouteMap as map

-- The table has the routes that it had, and the last value of the reference for the network `n`; without a
-- reference its routes are as before.
-- Example: of 10.0.0.0/8 with 1 and 11.0.0.0/8 with 2, for 10.0.0.0/8, with 3 written to the reference: 10.0.0.0/8
-- with 3 and 11.0.0.0/8 with 2.
abbrev pub LendsValue : (V : RattleType) → MutBor (RouteTable V.Denot) → Network → Option (MutBor V.Denot) → Fml
LendsValue V t n value =
    LendsSo (table.the_row V) V t value
    (λ after last. OnSome value (IsWithRoute (routes_of t.now) (truncation n, last) (routes_of after)))
    (λ after. routes_of after ≡ routes_of t.now)

-- The same of a map.
abbrev pub LendsMapValue : (V : RattleType) → MutBor (RouteMap V.Denot) → Network → Option (MutBor V.Denot) → Fml
LendsMapValue V m n value =
    LendsSo (map.the_row V) V m value
    (λ after last. OnSome value (IsWithRoute (map_routes m.now) (truncation n, last) (map_routes after)))
    (λ after. map_routes after ≡ map_routes m.now)
