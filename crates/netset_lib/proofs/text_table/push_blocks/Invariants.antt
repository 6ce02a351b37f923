use Rattle.std.proofs.Common.{◌≡◌, ◌++◌, map}
use Rattle.ipnet.specs.SubnetsLeft.{ip_subnets_left}
use Rattle.netset_lib.specs.TextSteps.{texts_in}
use Rattle.netset_lib.proofs.text_table.push_blocks.Given as goal

-- the routes, and then a route for each network that is left
abbrev pub invariant-loop-network : goal.invariant-loop-network
invariant-loop-network l = texts_in l.routes.items ++ map (λ n. (n, l.text)) (ip_subnets_left l.network-iterator)
    ≡ texts_in l.initial.routes.items ++ map (λ n. (n, l.text)) (ip_subnets_left l.initial.network-iterator)
