-- The routes so far are the networks so far with their values.
use Rattle.std.proofs.Common.{map, take}
use Rattle.ipnet.specs.NetworkOf.{ip_network}
use Rattle.ipnet_routes.specs.Routes.{ip_routes}
use Rattle.ipnet_c.specs.TableReplies.{ArePairs}
use Rattle.ipnet_c.proofs.tables.with_values.Given as goal

abbrev pub invariant-loop-index : goal.invariant-loop-index
invariant-loop-index l =
    ArePairs (take l.index (map ip_network l.networks)) (take l.index l.values) (ip_routes l.routes.items)
