-- The routes of a value of `RouteTable`. Contracts see nothing else of a value.
use Rattle.std.specs.Prelude.{List}
use Rattle.ipnet_routes.specs.Routes.{Route, ip_routes}
use Rattle.ipnet_routes.specs.declared.routes.RouteTable.{RouteTable}

-- The routes, as the table stores them. The contract of `RouteTable::routes` states that their networks are ascending.
-- Example: 10.0.0.0/8 with 3, then 10.1.0.0/16 with 2.
abbrev pub routes_of : {V : Type 0} → RouteTable V → List (Route V)
routes_of table = ip_routes table.routes.items
