use Rattle.std.proofs.Common.{map, take}
use Rattle.ipnet.specs.NetworkOf.{ip_network}
use Rattle.ipnet_bars.specs.Bars.{IsColumnOf}
use Rattle.ipnet_bars.proofs.bar.longest.Given as goal

abbrev pub invariant-loop-network : goal.invariant-loop-network
invariant-loop-network l = IsColumnOf (map ip_network (take l.network-index l.networks)) l.longest
