use Rattle.std.proofs.Common.{take}
use Rattle.ipnet_routes.specs.Routes.{ip_routes}
use Rattle.ipnet_fewest.specs.Numbers.{AreNumbered}
use Rattle.ipnet_fewest.proofs.numbers.numbered.Given as goal

abbrev pub invariant-loop-index : goal.invariant-loop-index
invariant-loop-index g l =
    AreNumbered g.V.Ord.cmp l.values (ip_routes (take l.index l.routes)) (ip_routes l.numbered.items)
