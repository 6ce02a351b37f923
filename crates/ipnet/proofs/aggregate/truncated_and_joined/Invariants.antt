use Rattle.std.proofs.Common.{map}
use Rattle.ipnet_base.proofs.AddingLaws.{IsListOfFirst}
use Rattle.ipnet.proofs.aggregate.truncated_and_joined.Given as goal

abbrev pub invariant-loop-network : goal.invariant-loop-network
invariant-loop-network g l = IsListOfFirst (map g.N.Net.network l.network-items) l.network-index
    (map g.N.Net.network l.list.items)
