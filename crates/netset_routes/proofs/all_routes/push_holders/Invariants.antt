-- the text has the lines of the first routes
use Rattle.std.proofs.Common.{◌≡◌, ◌++◌, string_bytes, take}
use Rattle.std.specs.List.{flat_map}
use Rattle.ipnet_routes.specs.Routes.{ip_routes}
use Rattle.netset_routes.specs.AllRoutes.{holder_line}
use Rattle.netset_routes.proofs.all_routes.push_holders.Given as goal

abbrev pub invariant-loop-route : goal.invariant-loop-route
invariant-loop-route l = string_bytes l.text ≡ string_bytes l.initial.text
    ++ flat_map (λ q. holder_line l.written q.0 q.1.now) (ip_routes (take l.route-index l.routes))
