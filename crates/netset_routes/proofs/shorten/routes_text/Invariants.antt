use Rattle.std.proofs.Common.{◌≡◌, take, string_bytes}
use Rattle.ipnet_routes.specs.Routes.{ip_routes}
use Rattle.netset_routes.specs.Shortening.{route_lines}
use Rattle.netset_routes.proofs.shorten.routes_text.Given as goal

-- the text has the lines of the first routes
abbrev pub invariant-loop-route : goal.invariant-loop-route
invariant-loop-route l = string_bytes l.text ≡ route_lines (ip_routes (take l.route-index l.routes))
