-- The private steps of reading a route.
-- Only private contracts use these.
use Rattle.std.specs.Prelude.{ℕ, List}
use Rattle.ipnet.specs.NetworkOf.{ip_network}
use Rattle.netset_origins.specs.RouteLines.{ListRoute}
use Rattle.netset_origins.specs.declared.route_line.RouteLine.{RouteLine}

-- The route that a value represents, of a line with this text.
abbrev pub route_in : List ℕ → RouteLine → ListRoute
route_in text r = record { text = text; network = ip_network r.network; origin = r.origin }
