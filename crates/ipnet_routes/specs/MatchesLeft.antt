-- The routes that a value of `RouteMatches` still yields. Contracts see nothing else of a value.
use Rattle.std.specs.Prelude.{List}
use Rattle.ipnet_routes.specs.Routes.{Route, ip_routes}
use Rattle.ipnet_routes.specs.RouteSteps.{linked}
use Rattle.ipnet_routes.specs.declared.routes.matches.RouteMatches.{RouteMatches}

-- The routes that are left. Example: 10.0.0.0/8 and then 0.0.0.0/0.
abbrev pub matches_left : {V : Type 0} → RouteMatches V → List (Route V)
matches_left m = linked m.place (ip_routes m.routes.now) m.enclosing.now m.place
