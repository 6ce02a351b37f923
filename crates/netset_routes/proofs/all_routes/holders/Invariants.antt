-- the kept routes are the routes of the walk so far whose networks contain the last address
use Rattle.std.proofs.Common.{map}
use Rattle.ipnet_base.specs.Address.{address_at}
use Rattle.ipnet_base.specs.Network.{InBlock}
use Rattle.ipnet_lists.specs.EntryOf.{entry_range}
use Rattle.ipnet_routes.specs.Routes.{ip_route, ip_routes}
use Rattle.netset_routes.proofs.AllRouteLaws.{HasKept}
use Rattle.netset_routes.proofs.all_routes.holders.Given as goal

abbrev pub invariant-loop-route : goal.invariant-loop-route
invariant-loop-route l = record {
  can_next : (goal.iterator-loop-route).can_next l.route-iterator;
  is_finite : (goal.iterator-loop-route).is_finite l.route-iterator;
  kept : HasKept (λ n. InBlock n (address_at (entry_range l.fn.entry).family (entry_range l.fn.entry).end))
      (map ip_route l.yielded) (ip_routes l.holders.items);
}
