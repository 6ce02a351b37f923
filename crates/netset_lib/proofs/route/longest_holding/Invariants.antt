use Rattle.ipnet.specs.NetworkOf.{ip_network}
use Rattle.ipnet_lists.specs.EntryOf.{entry_range}
use Rattle.netset_lib.specs.Routing.{InTable}
use Rattle.netset_lib.proofs.RouteLaws.{IsClimbedTo}
use Rattle.netset_lib.proofs.route.longest_holding.Given as goal

abbrev pub invariant-climb : goal.invariant-climb
invariant-climb g l = IsClimbedTo (InTable l.table) (entry_range l.fn.entry) (ip_network l.network)

abbrev pub decreases-climb : goal.decreases-climb
decreases-climb g l = (ip_network l.network).prefix_len
