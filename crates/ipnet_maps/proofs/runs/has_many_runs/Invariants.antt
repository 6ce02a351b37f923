-- The runs so far begin with networks before those that are left.
use Rattle.std.proofs.Common.{length}
use Rattle.ipnet_sets.specs.Members.{IsMember}
use Rattle.ipnet_sets.specs.NetworksLeft.{networks_left}
use Rattle.ipnet_maps.proofs.RunLaws.{IsRunWalk}
use Rattle.ipnet_maps.proofs.runs.has_many_runs.Given as goal

abbrev pub invariant-loop-network : goal.invariant-loop-network
invariant-loop-network l = IsRunWalk (IsMember l.set) l.cell_len (networks_left l.network-iterator) l.last l.runs

abbrev pub decreases-loop-network : goal.decreases-loop-network
decreases-loop-network l = length (networks_left l.network-iterator)
