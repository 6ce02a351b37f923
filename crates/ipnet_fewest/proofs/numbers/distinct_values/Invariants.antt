-- The list has a value for each of the first routes.
use Rattle.std.proofs.Common.{take}
use Rattle.ipnet_routes.specs.Routes.{ip_routes}
use Rattle.ipnet_fewest.specs.Numbers.{HasValuesOf}
use Rattle.ipnet_fewest.proofs.numbers.distinct_values.Given as goal

abbrev pub invariant-loop-index : goal.invariant-loop-index
invariant-loop-index g l = HasValuesOf g.V.Ord.cmp (ip_routes (take l.index l.routes)) l.values.items
