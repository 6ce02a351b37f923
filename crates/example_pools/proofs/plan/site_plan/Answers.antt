-- The plan is the first of the subnets that the walk gives, and what holds of all of them holds of these (`Fronts`).
use Rattle.ipnet.specs.Network.{AreDisjoint}
use Rattle.example_pools.proofs.Fronts.{first_are_subnets, AllPairs-take}
use Rattle.example_pools.proofs.plan.site_plan.Goals as goal

pub returns-clause-subnets : goal.returns-clause-subnets
returns-clause-subnets c = rw c.in_ok-plan.ensures.first
    (first_are_subnets _ _ c.args.sites _ c.in-Ok.ensures.walk)

pub returns-clause-disjoint : goal.returns-clause-disjoint
returns-clause-disjoint c = rw c.in_ok-plan.ensures.first
    (AllPairs-take AreDisjoint c.args.sites _ c.in-Ok.ensures.walk.disjoint)
