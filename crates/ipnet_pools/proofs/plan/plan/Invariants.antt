-- The first lengths have their networks; and no length is above the width, which the first test found.
use Rattle.std.proofs.Common.{map}
use Rattle.ipnet.specs.NetworkOf.{ip_network}
use Rattle.ipnet_sets.specs.Members.{IsMember}
use Rattle.ipnet_pools.specs.PlanSteps.{IsPlannedSoFar}
use Rattle.ipnet_pools.specs.FreeOf.{IsIn}
use Rattle.ipnet_pools.proofs.plan.plan.Given as goal

abbrev pub invariant-loop-index : goal.invariant-loop-index
invariant-loop-index l =
    IsPlannedSoFar (IsMember l.set) (IsIn l.free) (ip_network l.family).family l.lengths l.index
    (map ip_network l.networks.items)
