use Rattle.std.proofs.Common.{◌≡◌, ◌++◌}
use Rattle.ipnet.specs.SubnetsLeft.{ip_subnets_left}
use Rattle.ipnet_routes.specs.Routes.{ip_networks}
use Rattle.netset_lib.proofs.route.push_entry.Given as goal

-- the networks of the routes, and then those that are left
abbrev pub invariant-loop-network : goal.invariant-loop-network
invariant-loop-network l = ip_networks l.routes.items ++ ip_subnets_left l.network-iterator
    ≡ ip_networks l.initial.routes.items ++ ip_subnets_left l.initial.network-iterator
